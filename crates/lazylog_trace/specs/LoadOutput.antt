use Rattle.std.specs.Prelude.{◌≡◌, ◌≢◌, ◌⊎◌, ℕ, List, Result, Ok, Err}
use Rattle.std.specs.Io.KnownBytes.{append_known}
use Rattle.view_config.specs.Shape.{Dimensions}
use Rattle.io_edges.specs.Faults.{Rose}
use Rattle.io_edges.specs.Telling.{Fails, Stops}
use Rattle.io_edges.specs.declared.status.Status.{Status}
use Rattle.io_edges.specs.declared.status.Status.TheVariants.{Done, Limit, Memory, WriteFault}
use Rattle.lazy_rules.specs.WorldState.{first_world}
use Rattle.lazy_rules.specs.WorldRules.{run}
use Rattle.lazy_core.specs.declared.trail.Trail.{Trail}
use Rattle.lazy_core.specs.Filled.{IsFilled}
use Rattle.load_gen.specs.declared.load.Outcome.{Outcome}
use Rattle.load_gen.specs.declared.load.Outcome.TheVariants.{Through, Spent}
use Rattle.load_gen.specs.Counting.{counts_of}
use Rattle.load_gen.specs.Loading.{LoadState, whole_load}
use Rattle.load_gen.specs.Summary.{summary_text}
use Rattle.trace_script.specs.EndTexts.{limit_text}
use Rattle.script_streams.specs.Texts.{with_newline}
use Rattle.script_streams.specs.Streams.{SinkUse}
use Rattle.lazylog_trace.specs.Words.{AskFor}
use Rattle.lazylog_trace.specs.declared.words.Task.TheVariants.{Load}

-- What a load prints, what it ends with, and what its trail has.

-- by what its steps came to
abbrev pub last_of_load : LoadState → Outcome → List ℕ
last_of_load l Through = summary_text (counts_of l)
last_of_load l (Spent step) = limit_text step

abbrev pub end_as : Outcome → Status
end_as Through = Done
end_as (Spent step) = Limit step

-- by how far the load is, or the step whose event was spent
abbrev pub load_line : Result LoadState ℕ → List ℕ
load_line (Ok l) = summary_text (counts_of l)
load_line (Err step) = limit_text step

abbrev pub load_status : Result LoadState ℕ → Status
load_status (Ok l) = Done
load_status (Err step) = Limit step

-- the output of the load of this number in this shape, and what it ends with
abbrev pub out_load : Dimensions → ℕ → List ℕ
out_load shape seed = with_newline (load_line (whole_load shape seed).now)

abbrev pub end_of_load : Dimensions → ℕ → Status
end_of_load shape seed = load_status (whole_load shape seed).now

-- a last text was to be written behind which a program ends so: it ends so where all of it was, and else with the
-- write's fault or for want of memory
pub record EndsWith (text : List ℕ) (given : Status) (sink : SinkUse) (status : Status) : Type 0 where
  pub ended : (status ≡ given) ⊎ ((status ≡ WriteFault) ⊎ (status ≡ Memory))
  pub whole : status ≢ WriteFault → status ≢ Memory → sink.after ≡ append_known sink.before text
  pub failed : status ≡ WriteFault → Fails sink.before sink.after text
  pub front : Stops sink.before sink.after text
  pub write_fault : status ≡ WriteFault → Rose sink.faults sink.faults_now
  pub faultless : status ≢ WriteFault → sink.faults_now ≡ sink.faults

-- A load: its line is written, or a front of it where a write failed or there was no memory; and its trail has the
-- history of the run of the events that were tried, and the lines of the holders then, each of them lawful for it.
pub record IsLoad (shape : Dimensions) (seed : ℕ) (sink : SinkUse) (trail_before trail_after : Trail) (status : Status) : Type 0 where
  pub written : EndsWith (out_load shape seed) (end_of_load shape seed) sink status
  pub filled : status ≢ Memory → IsFilled (run (whole_load shape seed).events (first_world shape)) trail_before trail_after

-- the same of the load that words ask for
abbrev pub IsLoadOf : List (List ℕ) → SinkUse → Trail → Trail → Status → Type 0
IsLoadOf words sink trail_before trail_after status =
    (shape : Dimensions) (seed : ℕ) → AskFor words (Load shape seed) → IsLoad shape seed sink trail_before trail_after status
