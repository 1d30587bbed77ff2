-- The output of a line, and what of it is written.
use Rattle.std.proofs.Common.{◌≡◌, ◌≢◌, ℕ, ◌+◌, ◌<◌, List, [], Bool, true, false, Option, inl, inr, refl, sym, ap, ◌∙◌, subst, arith}
use Rattle.std.specs.Prelude.{Result, Ok, Err, if◌then◌else◌}
use Rattle.std.specs.Io.KnownBytes.{append_known}
use Rattle.io_edges.specs.Telling.{Stops}
use Rattle.std.proofs.lemmas.Bool.{eq-eqb, ne_eqb}
use Rattle.io_edges.specs.declared.status.Status.{Status}
use Rattle.io_edges.specs.declared.status.Status.TheVariants.{Limit, ReadFault, Usage, WriteFault, Memory}
use Rattle.io_edges.proofs.TellingLemmas.{append_known-nil, stops_same}
use Rattle.script_streams.specs.Streams.{SinkUse, Stopped}
use Rattle.script_streams.specs.Texts.{printed}
use Rattle.journal_script.specs.declared.command.Command.{Command}
use Rattle.journal_script.specs.Script.{command_of}
use Rattle.journal_top.specs.Rules.{Told, ToolState, follow, is_over}
use Rattle.journal_top.specs.declared.tool.TheConstants.{LINES_LIMIT}
use Rattle.journal_top.specs.Output.{Output, closing_of, command_output, counted, goes_on, line_output, parsed_output, stops, told_output}
use Rattle.journal_top.specs.Telling.{Writes, WritesTexts}

-- ---- nothing is written

pub quiet : {R : Type 0} (faults : ℕ) (status : Status) → status ≢ ReadFault → status ≢ WriteFault → status ≢ Usage → Stopped {R = R} faults faults (Err status)
quiet faults status one two three = record {
  write_fault = λ e. let is : status ≡ WriteFault = cc in absurd (two is);
  no_read_fault = λ e. let is : status ≡ ReadFault = cc in one is;
  no_usage = λ e. let is : status ≡ Usage = cc in three is;
  grows = omega arith;
  faultless = λ e. refl;
}

module _ (sink : SinkUse) (same : sink.after ≡ sink.before) (faultless : sink.faults_now ≡ sink.faults) where
  nothing : sink.after ≡ append_known sink.before []
  nothing = same ∙ sym (append_known-nil sink.before)

  front : (text : List ℕ) → Stops sink.before sink.after text
  front text = subst (λ (k : Option (List ℕ)). Stops sink.before k text) (sym same) (stops_same sink.before text)

  -- it stops at a line
  pub stop_writes : (status : Status) → status ≢ ReadFault → status ≢ WriteFault → status ≢ Usage → Writes (stops status) sink (Err status)
  stop_writes status one two three = record {
    on = tt;
    whole = tt;
    stopped = λ a b. refl;
    written = λ a b. nothing;
    failed = λ e. let is : status ≡ WriteFault = cc in absurd (two is);
    front = front [];
    faults = subst (λ (n : ℕ). Stopped {R = ToolState} sink.faults n (Err status)) (sym faultless) (quiet sink.faults status one two three);
  }

  -- want of memory, wherever it comes
  pub memory_writes : (t : Output) → Writes t sink (Err Memory)
  memory_writes t = record {
    on = tt;
    whole = tt;
    stopped = λ one other. absurd (other refl);
    written = λ one other. absurd (other refl);
    failed = λ e. cc;
    front = front (printed t.texts);
    faults = subst (λ (n : ℕ). Stopped {R = ToolState} sink.faults n (Err Memory)) (sym faultless) (quiet sink.faults Memory (λ e. cc) (λ e. cc) (λ e. cc));
  }

  -- a line that does nothing
  pub none_writes : (now : ToolState) → Writes (goes_on now) sink (Ok now)
  none_writes now = record {
    on = refl;
    whole = nothing;
    stopped = tt;
    written = tt;
    failed = λ e. cc;
    front = front [];
    faults = record { write_fault = λ e. cc; no_read_fault = λ e. cc; no_usage = λ e. cc; grows = omega arith; faultless = λ e. faultless };
  }

-- ---- a line that was counted

module _ (r : ToolState) where
  abbrev more : ToolState
  more = record r { lines = r.lines + 1 }

  pub below_limit : (output : ToolState → Output) → r.lines < LINES_LIMIT → counted r output ≡ output more
  below_limit output below = ap (λ (b : Bool). if b then stops (Limit (LINES_LIMIT + 1)) else output more) (ne_eqb r.lines LINES_LIMIT (omega arith))

  pub at_limit : (output : ToolState → Output) → r.lines ≡ LINES_LIMIT → counted r output ≡ stops (Limit (LINES_LIMIT + 1))
  at_limit output is = ap (λ (b : Bool). if b then stops (Limit (LINES_LIMIT + 1)) else output more) (eq-eqb r.lines LINES_LIMIT is)

  module _ (sink : SinkUse) (outcome : Result ToolState Status) where
    pub line_below : (line : List ℕ) → r.lines < LINES_LIMIT → Writes (parsed_output more (command_of line)) sink outcome → Writes (line_output r line) sink outcome
    line_below line below h = subst (λ (t : Output). Writes t sink outcome) (sym (below_limit (λ n. parsed_output n (command_of line)) below)) h

    pub line_over : (line : List ℕ) → r.lines ≡ LINES_LIMIT → Writes (stops (Limit (LINES_LIMIT + 1))) sink outcome → Writes (line_output r line) sink outcome
    line_over line is h = subst (λ (t : Output). Writes t sink outcome) (sym (at_limit (λ n. parsed_output n (command_of line)) is)) h

    -- a command that may be followed
    pub command_follows : (command : Command) → is_over r command ≡ false → Writes (told_output (follow r command)) sink outcome → Writes (command_output r command) sink outcome
    command_follows command is h = subst (λ (b : Bool). Writes (if b then stops (Limit r.lines) else told_output (follow r command)) sink outcome) (sym is) h

    pub command_stops : (command : Command) → is_over r command ≡ true → Writes (stops (Limit r.lines)) sink outcome → Writes (command_output r command) sink outcome
    command_stops command is h = subst (λ (b : Bool). Writes (if b then stops (Limit r.lines) else told_output (follow r command)) sink outcome) (sym is) h

-- ---- a text that was written

gone_on : (faults faults_now : ℕ) (t : ToolState) → Stopped {R = Unit {0}} faults faults_now (Ok tt) → Stopped {R = ToolState} faults faults_now (Ok t)
gone_on faults faults_now t h = record { write_fault = λ e. cc; no_read_fault = λ e. cc; no_usage = λ e. cc; grows = h.grows; faultless = λ e. h.faultless (λ f. cc) }

still_stopped : (faults faults_now : ℕ) (status : Status) → Stopped {R = Unit {0}} faults faults_now (Err status) → Stopped {R = ToolState} faults faults_now (Err status)
still_stopped faults faults_now status h = record {
  write_fault = λ e. let is : status ≡ WriteFault = cc in h.write_fault (ap Err is);
  no_read_fault = λ e. let is : status ≡ ReadFault = cc in h.no_read_fault (ap Err is);
  no_usage = λ e. let is : status ≡ Usage = cc in h.no_usage (ap Err is);
  grows = h.grows;
  faultless = λ other. h.faultless (λ e. let is : status ≡ WriteFault = cc in other (ap Err is));
}

pub told_writes : (told : Told) (sink : SinkUse) → WritesTexts {R = Unit {0}} (closing_of told.1) sink (Ok tt) → Writes (told_output told) sink (Ok told.0)
told_writes told sink h = record { on = refl; whole = h.whole; stopped = tt; written = tt; failed = λ e. cc; front = h.front; faults = gone_on sink.faults sink.faults_now told.0 h.faults }

pub told_fails : (told : Told) (sink : SinkUse) (status : Status) → WritesTexts {R = Unit {0}} (closing_of told.1) sink (Err status) → Writes (told_output told) sink (Err status)
told_fails told sink status h = record {
  on = tt;
  whole = tt;
  stopped = λ one other. absurd (elim h.only [ inl is ↦ one is | inr is ↦ other is ]);
  written = λ one other. absurd (elim h.only [ inl is ↦ one is | inr is ↦ other is ]);
  failed = λ e. let is : status ≡ WriteFault = cc in h.failed (ap Err is);
  front = h.front;
  faults = still_stopped sink.faults sink.faults_now status h.faults;
}
