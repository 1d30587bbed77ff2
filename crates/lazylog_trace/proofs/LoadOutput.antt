-- What a load writes, and where its events lead.
use Rattle.std.proofs.Common.{◌≡◌, ◌≢◌, ℕ, List, Option, inl, inr, refl, sym, ap, subst}
use Rattle.std.specs.Prelude.{Result, Ok, Err}
use Rattle.io_edges.specs.declared.status.Status.{Status}
use Rattle.io_edges.specs.declared.status.Status.TheVariants.{Memory, WriteFault}
use Rattle.io_edges.specs.Telling.{Stops}
use Rattle.io_edges.proofs.TellingLemmas.{stops_same}
use Rattle.view_config.specs.Shape.{Dimensions}
use Rattle.lazy_rules.specs.WorldState.{WorldState}
use Rattle.lazy_core.specs.declared.trail.Trail.{Trail}
use Rattle.lazy_core.specs.Filled.{IsFilled}
use Rattle.load_gen.specs.declared.load.Outcome.{Outcome}
use Rattle.load_gen.specs.declared.load.Outcome.TheVariants.{Through, Spent}
use Rattle.load_gen.specs.Loading.{LoadState, Makes, first_load, whole_load}
use Rattle.lazylog_trace.specs.LoadOutput.{EndsWith, IsLoad, end_as, last_of_load, load_line, load_status, out_load}
use Rattle.script_streams.specs.Texts.{with_newline}
use Rattle.script_streams.specs.Streams.{IsWritten, SinkUse}

-- a last text that was written, or wasn't
pub line_written : (text : List ℕ) (given : Status) (sink : SinkUse) → given ≢ WriteFault → given ≢ Memory → IsWritten {R = Unit {0}} text sink (Ok tt) → EndsWith text given sink given
line_written text given sink one two w = record {
  ended = inl refl;
  whole = λ a b. w.whole;
  failed = λ e. absurd (one e);
  front = w.front;
  write_fault = λ e. absurd (one e);
  faultless = λ e. w.stopped.faultless (λ f. cc);
}

pub line_unwritten : (text : List ℕ) (given status : Status) (sink : SinkUse) → IsWritten {R = Unit {0}} text sink (Err status) → EndsWith text given sink status
line_unwritten text given status sink w = record {
  ended = inr w.only;
  whole = λ one two. elim w.only [ inl e ↦ absurd (one e) | inr e ↦ absurd (two e) ];
  failed = λ e. w.fails (ap Err e);
  front = w.front;
  write_fault = λ e. w.stopped.write_fault (ap Err e);
  faultless = λ e. w.stopped.faultless (λ f. let same : status ≡ WriteFault = cc in e same);
}

-- nothing was written, and there was no memory
pub memory_load : (shape : Dimensions) (seed : ℕ) (sink : SinkUse) (before after : Trail) → sink.after ≡ sink.before → sink.faults_now ≡ sink.faults → IsLoad shape seed sink before after Memory
memory_load shape seed sink before after same quiet = record {
  written = record {
    ended = inr (inr refl);
    whole = λ one two. absurd (two refl);
    failed = λ e. cc;
    front = subst (λ (known : Option (List ℕ)). Stops sink.before known (out_load shape seed)) (sym same) (stops_same sink.before (out_load shape seed));
    write_fault = λ e. cc;
    faultless = λ e. quiet;
  };
  filled = λ other. absurd (other refl);
}

-- what the steps came to is what the load prints and ends with
line_of : (l : LoadState) (outcome : Outcome) (now : Result LoadState ℕ) → (o : Outcome) → now ≡ Rattle.load_gen.specs.Loading.ended_as l o → load_line now ≡ last_of_load l o
line_of l outcome now Through is = ap load_line is
line_of l outcome now (Spent step) is = ap load_line is

status_as : (l : LoadState) (now : Result LoadState ℕ) (o : Outcome) → now ≡ Rattle.load_gen.specs.Loading.ended_as l o → load_status now ≡ end_as o
status_as l now Through is = ap load_status is
status_as l now (Spent step) is = ap load_status is

pub made_load : (shape : Dimensions) (seed : ℕ) (l : LoadState) (outcome : Outcome) (sink : SinkUse) (before after : Trail) (status : Status) → Makes (whole_load shape seed) (first_load shape seed) l outcome → EndsWith (with_newline (last_of_load l outcome)) (end_as outcome) sink status → (status ≢ Memory → IsFilled l.world before after) → IsLoad shape seed sink before after status
made_load shape seed l outcome sink before after status makes written filled = record {
  written =
      subst (λ (given : Status). EndsWith (out_load shape seed) given sink status) (sym (status_as l (whole_load shape seed).now outcome makes.ended))
      (subst (λ (line : List ℕ). EndsWith (with_newline line) (end_as outcome) sink status) (sym (line_of l outcome (whole_load shape seed).now outcome makes.ended)) written);
  filled = λ other. subst (λ (w : WorldState). IsFilled w before after) makes.led (filled other);
}
