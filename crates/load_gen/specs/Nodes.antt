use Rattle.std.specs.Prelude.{ℕ, ◌+◌, ◌*◌, ◌/◌, ◌%◌, List, ◌∷◌, ◌++◌, map}
use Rattle.std.specs.List.{range_with_len}
use Rattle.view_config.specs.Nodes.{seq_id, shard_id}
use Rattle.view_config.specs.Shape.{Dimensions}
use Rattle.view_config.specs.declared.nodes.TheConstants.{CONTROLLER}

-- The lists of nodes that events are drawn among, each by the nodes' numbers.

-- the number of the shard replica at a place
abbrev pub shard_numbered : Dimensions → ℕ → ℕ
shard_numbered shape k = shard_id (k / shape.copies) (k % shape.copies)

abbrev pub shard_replicas : Dimensions → List ℕ
shard_replicas shape = map (shard_numbered shape) (range_with_len 0 (shape.shards * shape.copies))

abbrev pub seq_replicas : Dimensions → List ℕ
seq_replicas shape = map seq_id (range_with_len 0 (shape.seq + shape.spares))

-- clients, the controller, sequencing replicas, shard replicas
abbrev pub all_nodes : Dimensions → List ℕ
all_nodes shape = range_with_len 0 shape.clients ++ CONTROLLER ∷ (seq_replicas shape ++ shard_replicas shape)
