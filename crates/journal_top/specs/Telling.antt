use Rattle.std.specs.Prelude.{◌≡◌, ◌≢◌, ◌⊎◌, ℕ, List, ◌++◌, Option, None, Result, Ok, Err, OnOk, IfOk, IfErr}
use Rattle.std.specs.Io.KnownBytes.{append_known, IsAtEnd}
use Rattle.io_edges.specs.Faults.{Rose}
use Rattle.io_edges.specs.Telling.{Fails, Stops}
use Rattle.io_edges.specs.declared.status.Status.{Status}
use Rattle.io_edges.specs.declared.status.Status.TheVariants.{Done, Usage, ReadFault, WriteFault, Memory}
use Rattle.script_streams.specs.Streams.{HasBytes, SinkUse, SourceUse, Stopped}
use Rattle.script_streams.specs.Texts.{FailsAt, printed, with_newline}
use Rattle.journal_top.specs.declared.words.Shard.{Shard}
use Rattle.journal_top.specs.Output.{Output, closing_of, end_of, out, out_read, read_output, script_output}
use Rattle.journal_top.specs.Rules.{ToolState}
use Rattle.journal_top.specs.Words.{AskFor, usage_text}

-- What a script does, whatever it ends with.

-- What of an output is written after a call that had this outcome: all of it where it went on or stopped; a front of it,
-- whatever happened; and of one text not all where a write failed.
pub record Writes (t : Output) (sink : SinkUse) (outcome : Result ToolState Status) : Type 0 where
  pub on : IfOk outcome (λ now. t.now ≡ Ok now)
  pub whole : OnOk outcome (sink.after ≡ append_known sink.before (printed t.texts))
  pub stopped : IfErr outcome (λ status. status ≢ WriteFault → status ≢ Memory → t.now ≡ Err status)
  pub written : IfErr outcome (λ status. status ≢ WriteFault → status ≢ Memory → sink.after ≡ append_known sink.before (printed t.texts))
  pub failed : outcome ≡ Err WriteFault → FailsAt t.texts sink.before sink.after
  pub front : Stops sink.before sink.after (printed t.texts)
  pub faults : Stopped sink.faults sink.faults_now outcome

-- texts were to be written one after the other: all of them were, or a front of them where a write failed or there was
-- no memory
pub record WritesTexts {R : Type 0} (texts : List (List ℕ)) (sink : SinkUse) (outcome : Result R Status) : Type 0 where
  pub whole : OnOk outcome (sink.after ≡ append_known sink.before (printed texts))
  pub front : Stops sink.before sink.after (printed texts)
  pub failed : outcome ≡ Err WriteFault → FailsAt texts sink.before sink.after
  pub only : IfErr outcome (λ status. (status ≡ WriteFault) ⊎ (status ≡ Memory))
  pub faults : Stopped sink.faults sink.faults_now outcome

-- the source failed behind some bytes of the script, and no line among them stopped it
pub record ReadOf (source : SourceUse) (shard : Shard) (bytes : List ℕ) : Type 0 where
  pub read : List ℕ
  pub rest : List ℕ
  pub now : ToolState
  pub bytes_are : bytes ≡ read ++ rest
  pub left_is : HasBytes source.left rest
  pub rose : Rose source.faults source.faults_now
  pub on : (read_output shard read).now ≡ Ok now

-- what a script that has these bytes led to, but for its last text
pub record Ran (source : SourceUse) (shard : Shard) (bytes : List ℕ) (before after : Option (List ℕ)) (outcome : Result ToolState Status) : Type 0 where
  pub on : IfOk outcome (λ now. (script_output shard bytes).now ≡ Ok now)
  pub ended : OnOk outcome (IsAtEnd source.left)
  pub whole : OnOk outcome (after ≡ append_known before (printed (script_output shard bytes).texts))
  pub stopped : IfErr outcome (λ status. status ≢ ReadFault → status ≢ WriteFault → status ≢ Memory → (script_output shard bytes).now ≡ Err status)
  pub written : IfErr outcome (λ status. status ≢ ReadFault → status ≢ WriteFault → status ≢ Memory → after ≡ append_known before (printed (script_output shard bytes).texts))
  pub read : outcome ≡ Err ReadFault → (k : ReadOf source shard bytes) × (after ≡ append_known before (printed (read_output shard k.read).texts))
  pub failed : outcome ≡ Err WriteFault → FailsAt (script_output shard bytes).texts before after
  pub front : Stops before after (printed (script_output shard bytes).texts)

-- a source had some bytes, and this is what they led to
pub record RanOf (source : SourceUse) (shard : Shard) (before after : Option (List ℕ)) (outcome : Result ToolState Status) : Type 0 where
  pub bytes : List ℕ
  pub has : HasBytes source.had bytes
  pub ran : Ran source shard bytes before after outcome

-- the last text was written, and the script ends with this; or the sink failed, or there was no memory
pub record Closed (last : Option (List ℕ)) (given : Status) (before after : Option (List ℕ)) (status : Status) : Type 0 where
  pub outcome : ((status ≡ given) × (after ≡ append_known before (printed (closing_of last)))) ⊎ (((status ≡ WriteFault) × FailsAt (closing_of last) before after) ⊎ (status ≡ Memory))
  pub front : Stops before after (printed (closing_of last))
  pub none : last ≡ None → (after ≡ before) × ((status ≡ given) ⊎ (status ≡ Memory))

-- The script that the source had, where it tells its bytes, was followed with a shard's journal. What was written and what
-- it ended with is the output of these bytes; where the source failed, that of the lines that were read; where a write
-- failed, the texts before it and not all of what was being written; and a front of the output, whatever happened.
pub record IsJournal (shard : Shard) (source : SourceUse) (sink : SinkUse) (status : Status) : Type 0 where
  pub bytes : List ℕ
  pub has : HasBytes source.had bytes
  pub ended : status ≢ ReadFault → status ≢ WriteFault → status ≢ Memory → status ≡ end_of shard bytes
  pub whole : status ≢ ReadFault → status ≢ WriteFault → status ≢ Memory → sink.after ≡ append_known sink.before (printed (out shard bytes))
  pub read_whole : status ≡ Done → IsAtEnd source.left
  pub read : status ≡ ReadFault → (k : ReadOf source shard bytes) × (sink.after ≡ append_known sink.before (printed (out_read shard k.read)))
  pub failed : status ≡ WriteFault → ((source.faults_now ≡ source.faults) × FailsAt (out shard bytes) sink.before sink.after) ⊎ ((k : ReadOf source shard bytes) × FailsAt (out_read shard k.read) sink.before sink.after)
  pub front : Stops sink.before sink.after (printed (out shard bytes)) ⊎ ((k : ReadOf source shard bytes) × Stops sink.before sink.after (printed (out_read shard k.read)))

-- the same of the journal that words ask for
abbrev pub IsJournalOf : List (List ℕ) → SourceUse → SinkUse → Status → Type 0
IsJournalOf words source sink status = (shard : Shard) → AskFor words shard → IsJournal shard source sink status

-- what becomes of faulty words: the text of them is written, or a front of it where a write failed or there was no
-- memory
pub record AnswersUsage (sink : SinkUse) (status : Status) : Type 0 where
  pub outcome : (status ≡ Usage) ⊎ ((status ≡ WriteFault) ⊎ (status ≡ Memory))
  pub whole : status ≡ Usage → sink.after ≡ append_known sink.before (with_newline usage_text)
  pub fails : status ≡ WriteFault → Fails sink.before sink.after (with_newline usage_text)
  pub front : Stops sink.before sink.after (with_newline usage_text)
