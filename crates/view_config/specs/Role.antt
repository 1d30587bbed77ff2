use Rattle.std.specs.Prelude.{ℕ, zero, suc, ◌+◌, List, [], position, ◌==◌, Option, Some, None, slice_get, unwrap_or}
use Rattle.view_config.specs.declared.config.Config.{Config}
use Rattle.view_config.specs.declared.role.Role.{Role}
use Rattle.view_config.specs.declared.role.Role.TheVariants.{Leader, Follower, Primary, Backup, Outside}
use Rattle.view_config.specs.Without.{as_index, is_among}

-- the first place of the node among these
abbrev pub place_among : List ℕ → ℕ → Option ℕ
place_among nodes node = position (λ other. other == node) nodes

-- the node at this place of a shard's list
abbrev pub shard_role_at : ℕ → Option ℕ → Role
shard_role_at shard None = Outside
shard_role_at shard (Some zero) = Primary (as_index shard)
shard_role_at shard (Some (suc i)) = Backup (as_index shard) (as_index (i + 1))

-- the node in the first shard that has it
abbrev pub shard_role : Config → ℕ → Option ℕ → Role
shard_role config node None = Outside
shard_role config node (Some shard) = shard_role_at shard (place_among (unwrap_or (slice_get config.shards shard) []) node)

-- the node at this place of the sequencing list, or else in a shard
abbrev pub role_at : Config → ℕ → Option ℕ → Role
role_at config node (Some zero) = Leader
role_at config node (Some (suc i)) = Follower (as_index (i + 1))
role_at config node None = shard_role config node (position (λ nodes. is_among nodes node) config.shards)

-- what the node does in the configuration
abbrev pub role_of : Config → ℕ → Role
role_of config node = role_at config node (place_among config.seq node)
