use Rattle.std.specs.Prelude.{ℕ, List, [], ◌∷◌, Bool, false, ◌==◌, Option, Some, None, slice_get, unwrap_or, position, flat_map}
use Rattle.view_config.specs.declared.config.Config.{Config}
use Rattle.view_config.specs.declared.nodes.Node.TheVariants.{Shard}
use Rattle.view_config.specs.Shape.{Dimensions, node_of}

-- the node is the first of these
abbrev pub is_first : List ℕ → ℕ → Bool
is_first [] node = false
is_first (first ∷ others) node = first == node

-- the first of these, if there is one
abbrev pub first_of : List ℕ → List ℕ
first_of [] = []
first_of (first ∷ others) = first ∷ []

-- all of these but the first
abbrev pub others_of : List ℕ → List ℕ
others_of [] = []
others_of (first ∷ others) = others

-- the sequencing replicas but the leader
abbrev pub followers_of : Config → List ℕ
followers_of config = others_of config.seq

-- which of the followers the node is
abbrev pub follower_of : Config → ℕ → Option ℕ
follower_of config node = position (λ other. other == node) (followers_of config)

-- the replicas of a shard, the primary first
abbrev pub replicas_at : Config → ℕ → List ℕ
replicas_at config shard = unwrap_or (slice_get config.shards shard) []

-- all shard replicas, by shard and then by place
abbrev pub replicas_of : Config → List ℕ
replicas_of config = flat_map (λ nodes. nodes) config.shards

-- the primaries, by shard
abbrev pub primaries_of : Config → List ℕ
primaries_of config = flat_map first_of config.shards

-- the shard whose primary the node is
abbrev pub shard_led_by : Config → ℕ → Option ℕ
shard_led_by config node = position (λ nodes. is_first nodes node) config.shards

-- the shard that the node is a replica of
abbrev pub shard_kept_by : Dimensions → ℕ → Option ℕ
shard_kept_by shape node = elim (node_of shape node) [ Some (Shard i j) ↦ Some i | _ ↦ None ]
