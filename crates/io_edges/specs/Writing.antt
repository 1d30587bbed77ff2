use Rattle.std.specs.Prelude.{ℕ, List, [], ◌++◌, if◌then◌else◌}
use Rattle.io_edges.specs.Calls.{Calls, fails_next, after_call, no_calls}

-- a sink over memory: the bytes written, and its calls
pub record Writing : Type 0 where
  pub written : List ℕ
  pub calls : Calls

-- nothing was written yet
abbrev pub unwritten : List ℕ → Writing
unwritten to_fail = record { written = []; calls = no_calls to_fail }

-- the sink after a write of these bytes
abbrev pub after_write : Writing → List ℕ → Writing
after_write writing bytes = record {
  written = if fails_next writing.calls then writing.written else writing.written ++ bytes;
  calls = after_call writing.calls;
}
