use Rattle.std.specs.Prelude.{ℕ, List, [], ◌∷◌}
use Rattle.rec_id.specs.Identity.{Identity}
use Rattle.view_config.specs.declared.config.Config.{Config}
use Rattle.view_config.specs.Config.{initial_config}
use Rattle.view_config.specs.Shape.{Dimensions}

-- an append that isn't finished: its number, its data, and the nodes that acknowledged it in the
-- client's view: sequencing replicas that took the record, and replicas of its shard that have the data.
-- No node is both
pub record OpenAppend : Type 0 where
  pub number : ℕ
  pub bytes : List ℕ
  pub acked : List ℕ

-- the half of a client that appends
pub record ClientState : Type 0 where
  pub shape : Dimensions
  pub client : ℕ
  pub config : Config
  -- the number of the next append
  pub next : ℕ
  -- the appends that aren't finished, by number
  pub unfinished : List OpenAppend

-- the identity of an append of this client
abbrev pub id_of : ClientState → ℕ → Identity
id_of c number = record { client = c.client; number = number }

-- the lowest number that isn't finished
abbrev pub lowest : ℕ → List OpenAppend → ℕ
lowest next [] = next
lowest next (append ∷ others) = append.number

-- client c at first
abbrev pub first_client : Dimensions → ℕ → ClientState
first_client shape c = record { shape = shape; client = c; config = initial_config shape; next = 1; unfinished = [] }
