use Rattle.std.specs.Prelude.{◌≡◌, ◌≢◌, ◌⊎◌, ℕ, List, ◌++◌, Option, None, Result, Ok, Err, OnOk, IfErr}
use Rattle.std.specs.Io.KnownBytes.{append_known, IsAtEnd}
use Rattle.io_edges.specs.Faults.{Rose}
use Rattle.io_edges.specs.Telling.{Stops}
use Rattle.io_edges.specs.declared.status.Status.{Status}
use Rattle.io_edges.specs.declared.status.Status.TheVariants.{Done, ReadFault, WriteFault, Memory}
use Rattle.script_streams.specs.Streams.{HasBytes, SinkUse, SourceUse, Stopped}
use Rattle.script_streams.specs.Texts.{FailsAt, printed}
use Rattle.recode_top.specs.declared.counts.Counts.{Counts}
use Rattle.recode_top.specs.Output.{Output, closing_of, end_of, out, out_read, read_output, script_output}

-- What bringing a script of frames over does, whatever it ends with.

-- What of an output is written, and how far the script is, after a call that had this outcome: all of it where it went
-- on or stopped; a front of it, whatever happened; and of one text not all where a write failed.
pub record Writes {R : Type 0} (t : Output) (sink : SinkUse) (now : Counts) (outcome : Result R Status) : Type 0 where
  pub on : OnOk outcome (t.now ≡ Ok now)
  pub whole : OnOk outcome (sink.after ≡ append_known sink.before (printed t.texts))
  pub stopped : IfErr outcome (λ status. status ≢ WriteFault → status ≢ Memory → t.now ≡ Err status)
  pub written : IfErr outcome (λ status. status ≢ WriteFault → status ≢ Memory → sink.after ≡ append_known sink.before (printed t.texts))
  pub failed : outcome ≡ Err WriteFault → FailsAt t.texts sink.before sink.after
  pub front : Stops sink.before sink.after (printed t.texts)
  pub faults : Stopped sink.faults sink.faults_now outcome

-- texts were to be written one after the other: all of them were, or a front of them where a write failed or there was
-- no memory
pub record WritesTexts {R : Type 0} (texts : List (List ℕ)) (sink : SinkUse) (outcome : Result R Status) : Type 0 where
  pub whole : OnOk outcome (sink.after ≡ append_known sink.before (printed texts))
  pub front : Stops sink.before sink.after (printed texts)
  pub failed : outcome ≡ Err WriteFault → FailsAt texts sink.before sink.after
  pub only : IfErr outcome (λ status. (status ≡ WriteFault) ⊎ (status ≡ Memory))
  pub faults : Stopped sink.faults sink.faults_now outcome

-- the source failed behind some bytes of the script, and no line among them stopped it
pub record ReadOf (source : SourceUse) (bytes : List ℕ) : Type 0 where
  pub read : List ℕ
  pub rest : List ℕ
  pub now : Counts
  pub bytes_are : bytes ≡ read ++ rest
  pub left_is : HasBytes source.left rest
  pub rose : Rose source.faults source.faults_now
  pub on : (read_output read).now ≡ Ok now

-- what a script that has these bytes led to, but for its last text
pub record Ran {R : Type 0} (source : SourceUse) (bytes : List ℕ) (before after : Option (List ℕ)) (now : Counts) (outcome : Result R Status) : Type 0 where
  pub on : OnOk outcome ((script_output bytes).now ≡ Ok now)
  pub ended : OnOk outcome (IsAtEnd source.left)
  pub whole : OnOk outcome (after ≡ append_known before (printed (script_output bytes).texts))
  pub stopped : IfErr outcome (λ status. status ≢ ReadFault → status ≢ WriteFault → status ≢ Memory → (script_output bytes).now ≡ Err status)
  pub written : IfErr outcome (λ status. status ≢ ReadFault → status ≢ WriteFault → status ≢ Memory → after ≡ append_known before (printed (script_output bytes).texts))
  pub read : outcome ≡ Err ReadFault → (k : ReadOf source bytes) × (after ≡ append_known before (printed (read_output k.read).texts))
  pub failed : outcome ≡ Err WriteFault → FailsAt (script_output bytes).texts before after
  pub front : Stops before after (printed (script_output bytes).texts)

-- a source had some bytes, and this is what they led to
pub record RanOf {R : Type 0} (source : SourceUse) (before after : Option (List ℕ)) (now : Counts) (outcome : Result R Status) : Type 0 where
  pub bytes : List ℕ
  pub has : HasBytes source.had bytes
  pub ran : Ran source bytes before after now outcome

-- the last text was written, and the script ends with this; or the sink failed, or there was no memory
pub record Closed (last : Option (List ℕ)) (given : Status) (before after : Option (List ℕ)) (status : Status) : Type 0 where
  pub outcome : ((status ≡ given) × (after ≡ append_known before (printed (closing_of last)))) ⊎ (((status ≡ WriteFault) × FailsAt (closing_of last) before after) ⊎ (status ≡ Memory))
  pub front : Stops before after (printed (closing_of last))
  pub none : last ≡ None → (after ≡ before) × ((status ≡ given) ⊎ (status ≡ Memory))

-- The bytes that the source had, where it tells them, were brought over. What was written and what it ended with is the
-- output of these bytes; where the source failed, that of the lines that were read; where a write failed, the texts
-- before it and not all of what was being written; and a front of the output, whatever happened.
pub record IsRecoding (source : SourceUse) (sink : SinkUse) (status : Status) : Type 0 where
  pub bytes : List ℕ
  pub has : HasBytes source.had bytes
  pub ended : status ≢ ReadFault → status ≢ WriteFault → status ≢ Memory → status ≡ end_of bytes
  pub whole : status ≢ ReadFault → status ≢ WriteFault → status ≢ Memory → sink.after ≡ append_known sink.before (printed (out bytes))
  pub read_whole : status ≡ Done → IsAtEnd source.left
  pub read : status ≡ ReadFault → (k : ReadOf source bytes) × (sink.after ≡ append_known sink.before (printed (out_read k.read)))
  pub failed : status ≡ WriteFault → ((source.faults_now ≡ source.faults) × FailsAt (out bytes) sink.before sink.after) ⊎ ((k : ReadOf source bytes) × FailsAt (out_read k.read) sink.before sink.after)
  pub front : Stops sink.before sink.after (printed (out bytes)) ⊎ ((k : ReadOf source bytes) × Stops sink.before sink.after (printed (out_read k.read)))
