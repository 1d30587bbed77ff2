use Rattle.std.specs.Prelude.{ℕ, List, [], map, Bool, ◌==◌, if◌then◌else◌, Option, None}
use Rattle.view_config.specs.Config.{first_copies}
use Rattle.view_config.specs.Nodes.{shard_id}
use Rattle.view_config.specs.Shape.{Dimensions}
use Rattle.lazy_rules.specs.Roles.{others_of}
use Rattle.lazy_rules.specs.Store.{Store, new_store}

-- a backup of a primary, and how far it is known to have the order in the primary's view
pub record Backup : Type 0 where
  pub node : ℕ
  pub copied : Option ℕ

-- a batch that a primary is placing: where it begins and ends, and which node awaits the answer
pub record PlaceJob : Type 0 where
  pub from : ℕ
  pub end : ℕ
  pub asker : ℕ

-- a flush that a primary is at: where it begins, and which node awaits the answer
pub record FlushJob : Type 0 where
  pub from : ℕ
  pub asker : ℕ

-- a shard replica
pub record ShardState : Type 0 where
  pub shape : Dimensions
  -- its number
  pub node : ℕ
  pub view : ℕ
  -- it is the primary of its shard in its view, and then these are its backups
  pub primary : Bool
  pub backups : List Backup
  -- its shard's number, and what it stores
  pub store : Store
  -- as primary: the batches that it is placing, or the flush that it is at
  pub jobs : List PlaceJob
  pub flush : Option FlushJob

-- the backups of a shard with these replicas, of which nothing is known
abbrev pub new_backup : ℕ → Backup
new_backup node = record { node = node; copied = None }

abbrev pub backups_of : List ℕ → List Backup
backups_of nodes = map new_backup (others_of nodes)

-- the backups of replica j of a shard with these replicas: the first is the primary
abbrev pub first_backups : List ℕ → ℕ → List Backup
first_backups nodes j = if j == 0 then backups_of nodes else []

-- replica j of shard i at first
abbrev pub first_shard : Dimensions → ℕ → ℕ → ShardState
first_shard shape i j = record {
  shape = shape;
  node = shard_id i j;
  view = 1;
  primary = j == 0;
  backups = first_backups (first_copies shape.copies i) j;
  store = new_store shape.mode i shape.shards;
  jobs = [];
  flush = None;
}
