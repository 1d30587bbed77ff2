use Rattle.std.specs.Prelude.{ℕ, List, map}
use Rattle.std.specs.List.{range_with_len}
use Rattle.view_config.specs.declared.config.Config.{Config}
use Rattle.view_config.specs.Nodes.{seq_id, shard_id}
use Rattle.view_config.specs.Shape.{Dimensions}

-- so many sequencing replicas, from the first on
abbrev pub first_seqs : ℕ → List ℕ
first_seqs count = map seq_id (range_with_len 0 count)

-- so many replicas of a shard, from the first on
abbrev pub first_copies : ℕ → ℕ → List ℕ
first_copies copies shard = map (shard_id shard) (range_with_len 0 copies)

-- the configuration of view 1: every replica but the spares
abbrev pub initial_config : Dimensions → Config
initial_config shape = record {
  view = 1;
  seq = first_seqs shape.seq;
  shards = map (first_copies shape.copies) (range_with_len 0 shape.shards);
}
