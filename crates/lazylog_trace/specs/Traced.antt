use Rattle.std.specs.Prelude.{◌≡◌, ◌≢◌, ◌⊎◌, ℕ, List, [], ◌∷◌, ◌++◌, Option, Ok, Err}
use Rattle.std.specs.Io.KnownBytes.{append_known, IsAtEnd}
use Rattle.view_config.specs.Shape.{Dimensions}
use Rattle.io_edges.specs.Faults.{Rose}
use Rattle.io_edges.specs.Telling.{Fails, Stops}
use Rattle.io_edges.specs.declared.status.Status.{Status}
use Rattle.io_edges.specs.declared.status.Status.TheVariants.{Done, Usage, ReadFault, WriteFault, Memory}
use Rattle.lazy_msgs.specs.declared.input.WorldEvent.{WorldEvent}
use Rattle.lazy_rules.specs.WorldState.{first_world}
use Rattle.lazy_rules.specs.WorldRules.{run}
use Rattle.lazy_core.specs.declared.trail.Trail.{Trail}
use Rattle.lazy_core.specs.Filled.{IsFilled}
use Rattle.lazylog_trace.specs.Output.{Progress, Output, first_progress, bytes_output, line_output, script_output, closing, out, end_of, out_read}
use Rattle.script_streams.specs.Texts.{with_newline}
use Rattle.lazylog_trace.specs.Printed.{Shows}
use Rattle.script_streams.specs.Streams.{HasBytes, SinkUse, SourceUse}
use Rattle.lazylog_trace.specs.Words.{AskFor, usage_text}
use Rattle.lazylog_trace.specs.declared.words.Task.TheVariants.{Trace}

-- What a trace promises: what of its output is written, which events are applied, and what its trail has then,
-- whatever it ends with. `ReadOf` and `Failed` say where a read or a write failed, `Traced` what the bytes of a script
-- led to, and `IsTrace` what `trace_top` promises: that, and the trail.

-- a script line ends here: at a newline, or at the end of the script
abbrev pub EndsLine : List ℕ → Type 0
EndsLine [] = Unit {0}
EndsLine (byte ∷ bytes) = byte ≡ 10

-- a write of the texts of a script line failed, which ends behind these bytes: those of the lines before it were
-- written whole, and not all of its own
pub record FailedAt (start : Progress) (bytes : List ℕ) (before after : Option (List ℕ)) : Type 0 where
  pub read : List ℕ
  pub rest : List ℕ
  pub now : Progress
  pub bytes_are : bytes ≡ read ++ rest
  pub ends : EndsLine rest
  pub on : (bytes_output start read).now ≡ Ok now
  pub front : Fails (append_known before (bytes_output start read).text) after (line_output now).text

-- the source failed behind some bytes of the script, and no script line among them stopped the trace
pub record ReadOf (source : SourceUse) (start : Progress) (bytes : List ℕ) : Type 0 where
  pub read : List ℕ
  pub rest : List ℕ
  pub now : Progress
  pub bytes_are : bytes ≡ read ++ rest
  pub left_is : HasBytes source.left rest
  pub rose : Rose source.faults source.faults_now
  pub on : (bytes_output start read).now ≡ Ok now

-- the write of the last text failed: all the texts before it were written
pub record FailedLast (t : Output) (last : List ℕ) (before after : Option (List ℕ)) (events : List WorldEvent) : Type 0 where
  pub applied : events ≡ t.events
  pub front : Fails (append_known before t.text) after last

-- a write failed, and these events were applied by then: where the source had no fault, that of a script line,
-- whose events are among them, or that of the last text; or else that of the last text behind the failed source
abbrev pub Failed : SourceUse → Progress → List ℕ → Option (List ℕ) → Option (List ℕ) → List WorldEvent → Type 0
Failed source start bytes before after events =
    ((source.faults_now ≡ source.faults) × (((k : FailedAt start bytes before after) × (events ≡ (bytes_output start k.read).events ++ (line_output k.now).events))
    ⊎ FailedLast (script_output start bytes) (closing (script_output start bytes).now) before after events))
    ⊎ ((k : ReadOf source start bytes) × FailedLast (bytes_output start k.read) (closing (Err ReadFault)) before after events)

-- What a trace of a script that has these bytes printed, which events it applied, and what it ends with: the output
-- of the script; where the source failed, that of the script lines that were read; where a write failed, that of the
-- lines before it and a front of what was being written; and a front of the output, whatever happened.
pub record Traced (source : SourceUse) (start : Progress) (bytes : List ℕ) (before after : Option (List ℕ)) (events : List WorldEvent) (status : Status) : Type 0 where
  pub ended : status ≢ ReadFault → status ≢ WriteFault → status ≢ Memory → status ≡ end_of start bytes
  pub whole : status ≢ ReadFault → status ≢ WriteFault → status ≢ Memory → after ≡ append_known before (out start bytes)
  pub applied : status ≢ ReadFault → status ≢ WriteFault → status ≢ Memory → events ≡ (script_output start bytes).events
  pub read_whole : status ≡ Done → IsAtEnd source.left
  pub read : status ≡ ReadFault → (k : ReadOf source start bytes) × (events ≡ (bytes_output start k.read).events) × (after ≡ append_known before (out_read start k.read))
  pub failed : status ≡ WriteFault → Failed source start bytes before after events
  pub front : Stops before after (out start bytes) ⊎ ((k : ReadOf source start bytes) × Stops before after (out_read start k.read))

-- A trace in a shape, of the bytes that the source had, where it tells them: its trail has the history of the run of
-- the events that were applied, and the lines of the holders then, each of them lawful for that history; and what was
-- printed is that history.
pub record IsTrace (shape : Dimensions) (source : SourceUse) (sink : SinkUse) (trail_before trail_after : Trail) (status : Status) : Type 0 where
  pub bytes : List ℕ
  pub has : HasBytes source.had bytes
  pub events : List WorldEvent
  pub traced : Traced source (first_progress shape) bytes sink.before sink.after events status
  pub filled : status ≢ Memory → IsFilled (run events (first_world shape)) trail_before trail_after
  pub shows : status ≢ Memory → Shows sink.before sink.after trail_after.history status

-- the same of the trace that words ask for
abbrev pub IsTraceOf : List (List ℕ) → SourceUse → SinkUse → Trail → Trail → Status → Type 0
IsTraceOf words source sink trail_before trail_after status =
    (shape : Dimensions) → AskFor words (Trace shape) → IsTrace shape source sink trail_before trail_after status

-- what becomes of faulty words: the text of them is written, or a front of it where a write failed or there was no
-- memory
pub record AnswersUsage (sink : SinkUse) (status : Status) : Type 0 where
  pub outcome : (status ≡ Usage) ⊎ ((status ≡ WriteFault) ⊎ (status ≡ Memory))
  pub whole : status ≡ Usage → sink.after ≡ append_known sink.before (with_newline usage_text)
  pub fails : status ≡ WriteFault → Fails sink.before sink.after (with_newline usage_text)
  pub front : Stops sink.before sink.after (with_newline usage_text)
