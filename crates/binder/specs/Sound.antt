use Rattle.std.specs.Prelude.{ℕ, ◌≡◌, ◌^◌, ◌<◌, ◌≤◌, List, [], ◌∷◌, length, Bool, true, not, if◌then◌else◌}
use Rattle.std.specs.List.{list_any}
use Rattle.lazy_rules.specs.Flight.{Batch, batch_end}
use Rattle.lazy_msgs.specs.declared.limits.TheConstants.{BATCH_LIMIT}
use Rattle.lazy_rules.specs.declared.limits.TheConstants.{FLIGHT_LIMIT}

-- where the first batch begins
abbrev pub flight_start : List Batch → ℕ
flight_start [] = 0
flight_start (batch ∷ others) = batch.from

-- a batch that begins here and has as many items as it may
pub record IsNext (from : ℕ) (batch : Batch) : Type 0 where
  pub begins : batch.from ≡ from
  pub some : 1 ≤ batch.count
  pub most : batch.count ≤ BATCH_LIMIT
  pub within : batch_end batch < 2 ^ 32

-- batches from this position on, each of which begins where the one before it ends
abbrev pub IsChain : ℕ → List Batch → Type 0
IsChain from [] = Unit {0}
IsChain from (batch ∷ others) = IsNext from batch × IsChain (batch_end batch) others

-- the batches that are ordered stand before those that are being placed
abbrev pub are_ordered_first : List Batch → Bool
are_ordered_first [] = true
are_ordered_first (batch ∷ others) =
    if batch.ordering then are_ordered_first others else not (list_any (λ other. other.ordering) others)

-- what is true of every flight
pub record IsFlight (flight : List Batch) : Type 0 where
  pub few : length flight ≤ FLIGHT_LIMIT
  pub chain : IsChain (flight_start flight) flight
  pub ordered_first : are_ordered_first flight ≡ true
