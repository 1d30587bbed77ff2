use Rattle.std.specs.Prelude.{ℕ, List, Bool, true, false, Option, Some, None}
use Rattle.rec_id.specs.declared.entry.Entry.{Entry}
use Rattle.rec_id.specs.declared.event.Ask.{Ask}
use Rattle.view_config.specs.declared.config.Config.{Config}
use Rattle.view_config.specs.Config.{initial_config}
use Rattle.view_config.specs.Shape.{Dimensions}

-- a read that is fetching: its number and what it asks for; the end of what it wants, and the tail where
-- it was forced; what each shard told it; and how often it asked again
pub record Fetch : Type 0 where
  pub number : ℕ
  pub ask : Ask
  pub end : ℕ
  pub tail : Option ℕ
  pub parts : List (Option (List (ℕ × Entry)))
  pub turn : ℕ

-- a read that is forcing: which sequencing replicas acknowledged its probe in the reader's view, and the
-- tail, if the leader told it
pub record Force : Type 0 where
  pub number : ℕ
  pub ask : Ask
  pub acked : List ℕ
  pub tail : Option ℕ

-- a trim: which shard replicas gave up their bytes
pub record Trimmer : Type 0 where
  pub number : ℕ
  pub floor : ℕ
  pub acked : List ℕ

-- what a reader is at: at most one read, or one trim in its place
pub data Stage : Type 0 where
  Idle : Stage
  Fetching : Fetch → Stage
  Probing : Force → Stage
  Trimming : Trimmer → Stage

-- the half of a client that reads and trims
pub record ReaderState : Type 0 where
  pub shape : Dimensions
  pub client : ℕ
  pub config : Config
  -- how many reads and trims it began; the last one's number
  pub count : ℕ
  -- how far its answers reached at most
  pub reach : ℕ
  pub stage : Stage

-- client c's reader at first
abbrev pub first_reader : Dimensions → ℕ → ReaderState
first_reader shape c = record {
  shape = shape;
  client = c;
  config = initial_config shape;
  count = 0;
  reach = 0;
  stage = Idle;
}

-- the number of the read or trim that isn't answered yet
abbrev pub outstanding : Stage → Option ℕ
outstanding Idle = None
outstanding (Fetching fetch) = Some fetch.number
outstanding (Probing force) = Some force.number
outstanding (Trimming trimmer) = Some trimmer.number

-- a read or a trim isn't answered yet
abbrev pub is_at_work : Stage → Bool
is_at_work Idle = false
is_at_work _ = true
