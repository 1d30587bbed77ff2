use Rattle.std.specs.Prelude.{ℕ, zero, suc, ◌+◌, ◌-◌, min, List, [], ◌∷◌, ◌++◌, length, nat_lt, if◌then◌else◌}
use Rattle.lazy_msgs.specs.declared.limits.TheConstants.{BATCH_LIMIT}
use Rattle.lazy_rules.specs.Flight.{Batch, flight_end, new_batch}
use Rattle.lazy_rules.specs.SeqState.{SeqState}
use Rattle.lazy_rules.specs.declared.limits.TheConstants.{FLIGHT_LIMIT}

-- where the pending items end
abbrev pub pending_end : SeqState → ℕ
pending_end s = s.bound + length s.pending

-- how many of the items from this position on a batch has
abbrev pub next_count : ℕ → ℕ → ℕ
next_count from end = min BATCH_LIMIT (end - from)

-- the batches of the items from this position on, so many at most, that begin below a limit
abbrev pub begun : ℕ → ℕ → ℕ → ℕ → List Batch
begun zero from end limit = []
begun (suc room) from end limit =
    if nat_lt from limit
    then new_batch from (next_count from end) ∷ begun room (from + next_count from end) end limit
    else []

-- those that a leader can begin
abbrev pub next_begun : SeqState → ℕ → ℕ → List Batch
next_begun s room limit = begun room (flight_end s.bound s.flight) (pending_end s) limit

abbrev pub with_begun : SeqState → ℕ → ℕ → SeqState
with_begun s room limit = record s { flight = s.flight ++ next_begun s room limit }

-- how many batches BEGIN begins at most
abbrev pub room_for_one : ℕ → ℕ
room_for_one flight = min 1 (FLIGHT_LIMIT - flight)
