use Rattle.std.specs.Prelude.{ℕ, List, ◌++◌, length, take, drop, if◌then◌else◌}
use Rattle.io_edges.specs.Calls.{Calls, fails_next, after_call, no_calls}

-- a source over memory: the bytes left, and its calls
pub record Reading : Type 0 where
  pub left : List ℕ
  pub calls : Calls

-- nothing was read yet
abbrev pub unread : List ℕ → List ℕ → Reading
unread bytes to_fail = record { left = bytes; calls = no_calls to_fail }

-- the buffer once as many of the bytes as fit stand in its front
abbrev pub filled : List ℕ → List ℕ → List ℕ
filled bytes buf = take (length buf) bytes ++ drop (length bytes) buf

-- the source after a read into so much room
abbrev pub after_read : Reading → ℕ → Reading
after_read reading room = record {
  left = if fails_next reading.calls then reading.left else drop room reading.left;
  calls = after_call reading.calls;
}
