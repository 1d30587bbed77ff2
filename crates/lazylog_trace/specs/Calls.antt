use Rattle.std.specs.Prelude.{◌≡◌, ◌≢◌, ◌⊎◌, ℕ, List, ◌++◌, Option, None, Result, Ok, Err, OnOk, IfErr}
use Rattle.std.specs.Io.KnownBytes.{append_known, IsAtEnd}
use Rattle.io_edges.specs.Telling.{Fails, Stops}
use Rattle.io_edges.specs.declared.status.Status.{Status}
use Rattle.io_edges.specs.declared.status.Status.TheVariants.{ReadFault, WriteFault, Memory}
use Rattle.lazy_msgs.specs.declared.input.WorldEvent.{WorldEvent}
use Rattle.lazy_rules.specs.WorldState.{WorldState}
use Rattle.lazy_rules.specs.WorldRules.{run}
use Rattle.lazylog_trace.specs.Output.{Progress, Output, bytes_output, line_output, script_output, closing_of}
use Rattle.lazylog_trace.specs.Traced.{FailedAt, ReadOf, Traced}
use Rattle.script_streams.specs.Streams.{HasBytes, SourceUse}

-- What the calls within a trace promise of their part of it. From the bottom up:
--   `Writes` and `Led`     what a call on some bytes writes, and to which world it leads;
--   `Ran` and `RanOf`      what the bytes of a script led to, and which bytes these are;
--   `Closed`               what the last text adds;
--   `TracedTo`             both together, of a source.

-- what of an output is written, and how far the script is, after a call that had this outcome: all of it where it
-- went on or stopped; a front of it, whatever happened; and not all of it where a write failed
pub record Writes {R : Type 0} (t : Output) (before after : Option (List ℕ)) (now : Progress) (outcome : Result R Status) : Type 0 where
  pub on : OnOk outcome (t.now ≡ Ok now)
  pub whole : OnOk outcome (after ≡ append_known before t.text)
  pub stopped : IfErr outcome (λ status. status ≢ WriteFault → status ≢ Memory → t.now ≡ Err status)
  pub written : IfErr outcome (λ status. status ≢ WriteFault → status ≢ Memory → after ≡ append_known before t.text)
  pub failed : outcome ≡ Err WriteFault → Fails before after t.text
  pub front : Stops before after t.text

-- these events led from one world to another, unless there was no memory
pub record Led {R : Type 0} (events : List WorldEvent) (before after_all : WorldState) (outcome : Result R Status) : Type 0 where
  pub leads : outcome ≢ Err Memory → after_all ≡ run events before

-- the same of a call that stopped, unless a write failed or there was no memory
abbrev pub LedToStop : {R : Type 0} → List WorldEvent → WorldState → WorldState → Result R Status → Type 0
LedToStop events before after_all outcome = IfErr outcome (λ status. status ≢ WriteFault → status ≢ Memory → after_all ≡ run events before)

-- and this world is the one behind that line
pub record FailedIn (start : Progress) (bytes : List ℕ) (before after : Option (List ℕ)) (world : WorldState) : Type 0 where
  pub place : FailedAt start bytes before after
  pub world_is : world ≡ run (line_output place.now).events place.now.world

-- where a write failed, it did so in these bytes, whatever comes behind them
abbrev pub FailsIn : {R : Type 0} → Progress → List ℕ → Option (List ℕ) → Option (List ℕ) → WorldState → Result R Status → Type 0
FailsIn start bytes before after world outcome = (more : List ℕ) → outcome ≡ Err WriteFault → FailedIn start (bytes ++ more) before after world

-- what a script that has these bytes led to: it was read to its end, or to the script line that stops
-- it; or the source failed on the way; or the sink did, or there was no memory
pub record Ran {R : Type 0} (source : SourceUse) (start : Progress) (bytes : List ℕ) (before after : Option (List ℕ)) (now : Progress) (outcome : Result R Status) : Type 0 where
  pub on : OnOk outcome ((script_output start bytes).now ≡ Ok now)
  pub ended : OnOk outcome (IsAtEnd source.left)
  pub faultless : outcome ≢ Err ReadFault → source.faults_now ≡ source.faults
  pub whole : OnOk outcome (after ≡ append_known before (script_output start bytes).text)
  pub stopped : IfErr outcome (λ status. status ≢ ReadFault → status ≢ WriteFault → status ≢ Memory → (script_output start bytes).now ≡ Err status)
  pub written : IfErr outcome (λ status. status ≢ ReadFault → status ≢ WriteFault → status ≢ Memory → after ≡ append_known before (script_output start bytes).text)
  pub led : IfErr outcome (λ status. status ≢ ReadFault → status ≢ WriteFault → status ≢ Memory → now.world ≡ run (script_output start bytes).events start.world)
  pub read : outcome ≡ Err ReadFault → (k : ReadOf source start bytes) × (k.now ≡ now) × (after ≡ append_known before (bytes_output start k.read).text)
  pub failed : outcome ≡ Err WriteFault → FailedIn start bytes before after now.world
  pub front : Stops before after (script_output start bytes).text

-- a source had some bytes, and this is what they led to
pub record RanOf {R : Type 0} (source : SourceUse) (start : Progress) (before after : Option (List ℕ)) (now : Progress) (outcome : Result R Status) : Type 0 where
  pub bytes : List ℕ
  pub has : HasBytes source.had bytes
  pub ran : Ran source start bytes before after now outcome

-- the last text was written, and the trace ends with this; or the sink failed, or there was no memory
pub record Closed (last : Option (List ℕ)) (given : Status) (before after : Option (List ℕ)) (status : Status) : Type 0 where
  pub outcome : ((status ≡ given) × (after ≡ append_known before (closing_of last))) ⊎ (((status ≡ WriteFault) × Fails before after (closing_of last)) ⊎ (status ≡ Memory))
  pub front : Stops before after (closing_of last)
  pub none : last ≡ None → (after ≡ before) × ((status ≡ given) ⊎ (status ≡ Memory))

-- a source had some bytes, a trace of them applied these events, and they led to this world
pub record TracedTo (source : SourceUse) (start : Progress) (before after : Option (List ℕ)) (world : WorldState) (status : Status) : Type 0 where
  pub bytes : List ℕ
  pub has : HasBytes source.had bytes
  pub events : List WorldEvent
  pub traced : Traced source start bytes before after events status
  pub led : status ≢ Memory → world ≡ run events start.world
