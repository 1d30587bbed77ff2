-- The output of a line, and what of it is written.
use Rattle.std.proofs.Common.{◌≡◌, ◌≢◌, ℕ, ◌+◌, ◌<◌, List, [], ◌∷◌, Bool, Option, inl, inr, refl, sym, ap, ◌∙◌, subst, arith}
use Rattle.std.specs.Prelude.{Result, Ok, Err, OnOk, if◌then◌else◌}
use Rattle.std.specs.Io.KnownBytes.{append_known}
use Rattle.io_edges.specs.Telling.{Stops}
use Rattle.std.proofs.lemmas.Bool.{eq-eqb, ne_eqb}
use Rattle.io_edges.specs.declared.status.Status.{Status}
use Rattle.io_edges.specs.declared.status.Status.TheVariants.{Limit, ReadFault, Usage, WriteFault, Memory}
use Rattle.io_edges.proofs.TellingLemmas.{append_known-nil, stops_same}
use Rattle.script_streams.specs.Streams.{IsWritten, SinkUse, Stopped}
use Rattle.script_streams.specs.Texts.{printed, with_newline}
use Rattle.frame_recode.specs.declared.recode.Recoded.TheVariants.{Brought, Refused}
use Rattle.frame_recode.specs.Recoded.{recoded}
use Rattle.recode_top.specs.declared.counts.Counts.{Counts}
use Rattle.recode_top.specs.declared.counts.TheConstants.{LINES_LIMIT}
use Rattle.recode_top.specs.Output.{Output, content_output, counted, goes_on, line_output, made_output, recoded_output, stops}
use Rattle.recode_top.specs.Recoding.{Writes, WritesTexts}
use Rattle.recode_top.proofs.Texts.{one_text}

-- ---- nothing is written

pub quiet : {R : Type 0} (faults : ℕ) (status : Status) → status ≢ ReadFault → status ≢ WriteFault → status ≢ Usage → Stopped {R = R} faults faults (Err status)
quiet faults status one two three = record {
  write_fault = λ e. let is : status ≡ WriteFault = cc in absurd (two is);
  no_read_fault = λ e. let is : status ≡ ReadFault = cc in one is;
  no_usage = λ e. let is : status ≡ Usage = cc in three is;
  grows = omega arith;
  faultless = λ e. refl;
}

module _ (sink : SinkUse) (same : sink.after ≡ sink.before) (faultless : sink.faults_now ≡ sink.faults) (now : Counts) where
  nothing : sink.after ≡ append_known sink.before []
  nothing = same ∙ sym (append_known-nil sink.before)

  front : (text : List ℕ) → Stops sink.before sink.after text
  front text = subst (λ (k : Option (List ℕ)). Stops sink.before k text) (sym same) (stops_same sink.before text)

  -- it stops at a line
  pub stop_writes : {R : Type 0} (status : Status) → status ≢ ReadFault → status ≢ WriteFault → status ≢ Usage → Writes {R = R} (stops status) sink now (Err status)
  stop_writes {R = R} status one two three = record {
    on = tt;
    whole = tt;
    stopped = λ a b. refl;
    written = λ a b. nothing;
    failed = λ e. let is : status ≡ WriteFault = cc in absurd (two is);
    front = front [];
    faults = subst (λ (n : ℕ). Stopped {R = R} sink.faults n (Err status)) (sym faultless) (quiet sink.faults status one two three);
  }

  -- want of memory, wherever it comes
  pub memory_writes : {R : Type 0} (t : Output) → Writes {R = R} t sink now (Err Memory)
  memory_writes {R = R} t = record {
    on = tt;
    whole = tt;
    stopped = λ one other. absurd (other refl);
    written = λ one other. absurd (other refl);
    failed = λ e. cc;
    front = front (printed t.texts);
    faults = subst (λ (n : ℕ). Stopped {R = R} sink.faults n (Err Memory)) (sym faultless) (quiet sink.faults Memory (λ e. cc) (λ e. cc) (λ e. cc));
  }

  -- a line that does nothing
  pub none_writes : {R : Type 0} (x : R) → Writes (goes_on now) sink now (Ok x)
  none_writes x = record {
    on = refl;
    whole = nothing;
    stopped = tt;
    written = tt;
    failed = λ e. cc;
    front = front [];
    faults = record { write_fault = λ e. cc; no_read_fault = λ e. cc; no_usage = λ e. cc; grows = omega arith; faultless = λ e. faultless };
  }

-- ---- a line that was counted

module _ (r : Counts) where
  abbrev more : Counts
  more = record r { lines = r.lines + 1 }

  pub below_limit : (output : Counts → Output) → r.lines < LINES_LIMIT → counted r output ≡ output more
  below_limit output below = ap (λ (b : Bool). if b then stops (Limit (LINES_LIMIT + 1)) else output more) (ne_eqb r.lines LINES_LIMIT (omega arith))

  pub at_limit : (output : Counts → Output) → r.lines ≡ LINES_LIMIT → counted r output ≡ stops (Limit (LINES_LIMIT + 1))
  at_limit output is = ap (λ (b : Bool). if b then stops (Limit (LINES_LIMIT + 1)) else output more) (eq-eqb r.lines LINES_LIMIT is)

  module _ {R : Type 0} (sink : SinkUse) (now : Counts) (outcome : Result R Status) where
    pub line_below : (line : List ℕ) → r.lines < LINES_LIMIT → Writes (content_output more line) sink now outcome → Writes (line_output r line) sink now outcome
    line_below line below h = subst (λ (t : Output). Writes t sink now outcome) (sym (below_limit (λ n. content_output n line) below)) h

    pub line_over : (line : List ℕ) → r.lines ≡ LINES_LIMIT → Writes (stops (Limit (LINES_LIMIT + 1))) sink now outcome → Writes (line_output r line) sink now outcome
    line_over line is h = subst (λ (t : Output). Writes t sink now outcome) (sym (at_limit (λ n. content_output n line) is)) h

-- what a line that isn't empty says
pub content_is : (r : Counts) (line : List ℕ) → line ≢ [] → content_output r line ≡ recoded_output r (recoded line)
content_is r [] some = absurd (some refl)
content_is r (byte ∷ bytes) some = refl

-- ---- texts that are written

pub texts_write : {R : Type 0} (t : Output) (sink : SinkUse) (now : Counts) (outcome : Result R Status) → OnOk outcome (t.now ≡ Ok now) → WritesTexts t.texts sink outcome → Writes t sink now outcome
texts_write t sink now (Ok x) on h = record { on = on; whole = h.whole; stopped = tt; written = tt; failed = λ e. cc; front = h.front; faults = h.faults }
texts_write t sink now (Err status) on h = record {
  on = tt;
  whole = tt;
  stopped = λ one other. absurd (elim h.only [ inl is ↦ one is | inr is ↦ other is ]);
  written = λ one other. absurd (elim h.only [ inl is ↦ one is | inr is ↦ other is ]);
  failed = h.failed;
  front = h.front;
  faults = h.faults;
}

on_ok : {R : Type 0} (t : Output) (now : Counts) (outcome : Result R Status) → t.now ≡ Ok now → OnOk outcome (t.now ≡ Ok now)
on_ok t now (Ok x) is = is
on_ok t now (Err status) is = tt

pub brought_writes : {R : Type 0} (r : Counts) (text : List ℕ) (sink : SinkUse) (outcome : Result R Status) → IsWritten (with_newline text) sink outcome → Writes (made_output r (Brought text)) sink (record r { frames = r.frames + 1 }) outcome
brought_writes r text sink outcome written = texts_write (made_output r (Brought text)) sink (record r { frames = r.frames + 1 }) outcome (on_ok (made_output r (Brought text)) (record r { frames = r.frames + 1 }) outcome refl) (one_text text sink outcome written)

pub refused_writes : {R : Type 0} (r : Counts) (text : List ℕ) (sink : SinkUse) (outcome : Result R Status) → IsWritten (with_newline text) sink outcome → Writes (made_output r (Refused text)) sink (record r { frames = r.frames + 1; refused = r.refused + 1 }) outcome
refused_writes r text sink outcome written = texts_write (made_output r (Refused text)) sink (record r { frames = r.frames + 1; refused = r.refused + 1 }) outcome (on_ok (made_output r (Refused text)) (record r { frames = r.frames + 1; refused = r.refused + 1 }) outcome refl) (one_text text sink outcome written)
