use Rattle.std.specs.Prelude.{◌≡◌, ◌≢◌, ◌⊎◌, ℕ, ◌≤◌, List, Option, Some, None, Result, Err, OnOk, IfErr}
use Rattle.std.specs.Io.KnownBytes.{append_known}
use Rattle.io_edges.specs.Faults.{Rose}
use Rattle.io_edges.specs.Telling.{Fails, Stops}
use Rattle.io_edges.specs.declared.status.Status.{Status}
use Rattle.io_edges.specs.declared.status.Status.TheVariants.{Usage, ReadFault, WriteFault, Memory}

-- What a call did to the streams that it was handed.

-- a source before and after a call: the bytes that it has left, where it tells them, and its count of faults
pub record SourceUse : Type 0 where
  pub had : Option (List ℕ)
  pub left : Option (List ℕ)
  pub faults : ℕ
  pub faults_now : ℕ

abbrev pub source_use : {S : Type 0} → (S → Option (List ℕ)) → (S → ℕ) → S → S → SourceUse
source_use left faults before after = record { had = left before; left = left after; faults = faults before; faults_now = faults after }

-- what a source tells is these bytes, where it tells them
abbrev pub HasBytes : Option (List ℕ) → List ℕ → Type 0
HasBytes None bytes = Unit {0}
HasBytes (Some known) bytes = known ≡ bytes

-- a sink before and after a call: the bytes written, where it tells them, and its count of faults
pub record SinkUse : Type 0 where
  pub before : Option (List ℕ)
  pub after : Option (List ℕ)
  pub faults : ℕ
  pub faults_now : ℕ

abbrev pub sink_use : {K : Type 0} → (K → Option (List ℕ)) → (K → ℕ) → K → K → SinkUse
sink_use written faults before after = record { before = written before; after = written after; faults = faults before; faults_now = faults after }

-- why a call stopped that writes and reads nothing: a write failed only where the sink's count of faults rose,
-- and that count rose only where one did; and it wasn't the words or the source
pub record Stopped {R : Type 0} (faults faults_now : ℕ) (outcome : Result R Status) : Type 0 where
  pub write_fault : outcome ≡ Err WriteFault → Rose faults faults_now
  pub no_read_fault : outcome ≢ Err ReadFault
  pub no_usage : outcome ≢ Err Usage
  pub grows : faults ≤ faults_now
  pub faultless : outcome ≢ Err WriteFault → faults_now ≡ faults

-- a text was to be written: all of it was, or a front of it where a write failed or there was no memory
pub record IsWritten {R : Type 0} (text : List ℕ) (sink : SinkUse) (outcome : Result R Status) : Type 0 where
  pub whole : OnOk outcome (sink.after ≡ append_known sink.before text)
  pub front : Stops sink.before sink.after text
  pub fails : outcome ≡ Err WriteFault → Fails sink.before sink.after text
  pub only : IfErr outcome (λ status. (status ≡ WriteFault) ⊎ (status ≡ Memory))
  pub stopped : Stopped sink.faults sink.faults_now outcome

-- the faults of a call that reads and writes: they were counted, and answered where nothing else was
pub record HasFaults {R : Type 0} (source : SourceUse) (sink : SinkUse) (outcome : Result R Status) : Type 0 where
  pub no_usage : outcome ≢ Err Usage
  pub read_fault : outcome ≡ Err ReadFault → Rose source.faults source.faults_now
  pub write_fault : outcome ≡ Err WriteFault → Rose sink.faults sink.faults_now
  pub grows : sink.faults ≤ sink.faults_now
  pub sink_faultless : outcome ≢ Err WriteFault → sink.faults_now ≡ sink.faults
  pub source_faultless : outcome ≢ Err ReadFault → source.faults_now ≡ source.faults

-- the faults of the write of a last text, behind a call that had this outcome
pub record ClosesFaults {R : Type 0} (ended : Result R Status) (faults faults_now : ℕ) (status : Status) : Type 0 where
  pub no_usage : ended ≢ Err Usage → status ≢ Usage
  pub read_fault : status ≡ ReadFault → ended ≡ Err ReadFault
  pub write_fault : status ≡ WriteFault → ended ≢ Err WriteFault → Rose faults faults_now
  pub faultless : status ≢ WriteFault → faults_now ≡ faults
  pub grows : faults ≤ faults_now

-- A fault is answered only where one was counted in the call. One that was counted is answered, unless there was
-- no memory or, for the source's, the text of it couldn't be written.
pub record AnswersFaults (source : SourceUse) (sink : SinkUse) (status : Status) : Type 0 where
  pub read_fault : status ≡ ReadFault → Rose source.faults source.faults_now
  pub write_fault : status ≡ WriteFault → Rose sink.faults sink.faults_now
  pub sink_faultless : status ≢ WriteFault → status ≢ Memory → sink.faults_now ≡ sink.faults
  pub source_faultless : status ≢ ReadFault → status ≢ WriteFault → status ≢ Memory → source.faults_now ≡ source.faults
