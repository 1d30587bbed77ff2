use Rattle.std.specs.Prelude.{ℕ, ◌≡◌, ◌<◌, ◌≤◌, true, eqb, List, [], ◌∷◌, ◌+◌, length, map}
use Rattle.std.specs.List.{IsDistinct}
use Rattle.lazy_rules.specs.Flight.{Batch, Probe}
use Rattle.lazy_rules.specs.Rows.{has_node}
use Rattle.binder.specs.Sound.{IsFlight}
use Rattle.lazy_rules.specs.declared.limits.TheConstants.{FLIGHT_LIMIT}

-- the answers of nodes that are numbered below a count
pub record Answering : Type 0 where
  pub count : ℕ
  pub given : List ℕ

-- numbers below a count, each once, and there is room for all
pub record IsRoster (count : ℕ) (nodes : List ℕ) (room : ℕ) : Type 0 where
  pub once : IsDistinct eqb nodes
  pub below : (node : ℕ) → has_node nodes node ≡ true → node < count
  pub fits : count ≤ room

-- a batch with room for the answers of so many shards and followers
pub record Held : Type 0 where
  pub batch : Batch
  pub shards : ℕ
  pub followers : ℕ

abbrev pub batches : List Held → List Batch
batches slots = map (λ held. held.batch) slots

-- for how many shards and followers each has room
abbrev pub rooms : List Held → List (ℕ × ℕ)
rooms slots = map (λ held. (held.shards, held.followers)) slots

-- what holds of each of them
abbrev pub Each : (Held → Type 0) → List Held → Type 0
Each P [] = Unit {0}
Each P (held ∷ others) = P held × Each P others

-- each has room for the answers of so many
abbrev pub AllFor : ℕ → ℕ → List Held → Type 0
AllFor shards followers slots = Each (λ held. (held.shards ≡ shards) × (held.followers ≡ followers)) slots

-- whose reads these are
abbrev pub clients : List Probe → List ℕ
clients probes = map (λ probe. probe.client) probes

-- the batches on their way and the spare room make up what a flight can have, and each list could
-- have it all
pub record IsKept (shards followers : ℕ) (flight spare : List Held) (flight_room spare_room : ℕ) : Type 0 where
  pub flying : AllFor shards followers flight
  pub waiting : AllFor shards followers spare
  pub four : length flight + length spare ≡ FLIGHT_LIMIT
  pub fits : FLIGHT_LIMIT ≤ flight_room
  pub spare_fits : FLIGHT_LIMIT ≤ spare_room
  pub sound : IsFlight (batches flight)
