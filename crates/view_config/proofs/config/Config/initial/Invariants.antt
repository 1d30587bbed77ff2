use Rattle.std.proofs.Common.{◌≡◌, map}
use Rattle.std.specs.List.{range_with_len}
use Rattle.view_config.specs.Config.{first_copies}
use Rattle.view_config.proofs.config.Config.initial.Given as goal

abbrev pub invariant-loop-shard : goal.invariant-loop-shard
invariant-loop-shard l = l.shards ≡ map (first_copies l.fn.shape.copies) (range_with_len 0 l.shard)
