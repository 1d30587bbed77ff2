-- Texts that aren't written.
use Rattle.std.proofs.Common.{ℕ, List, Option, inr, refl, arith}
use Rattle.std.specs.Prelude.{Err}
use Rattle.io_edges.specs.declared.status.Status.TheVariants.{Memory}
use Rattle.io_edges.proofs.TellingLemmas.{stops_same}
use Rattle.script_streams.specs.Streams.{IsWritten}

-- there was no memory, and nothing was written
pub unwritten : {R : Type 0} (known : Option (List ℕ)) (faults : ℕ) (text : List ℕ) → IsWritten {R = R} text (record { before = known; after = known; faults = faults; faults_now = faults }) (Err Memory)
unwritten known faults text = record {
  whole = tt;
  front = stops_same known text;
  fails = λ e. cc;
  only = inr refl;
  stopped = record { write_fault = λ e. cc; no_read_fault = λ e. cc; no_usage = λ e. cc; grows = omega arith; faultless = λ e. refl };
}
