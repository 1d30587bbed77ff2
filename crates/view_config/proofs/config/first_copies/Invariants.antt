use Rattle.std.proofs.Common.{◌≡◌, map}
use Rattle.std.specs.List.{range_with_len}
use Rattle.view_config.specs.Nodes.{shard_id}
use Rattle.view_config.proofs.config.first_copies.Given as goal

abbrev pub invariant-loop-j : goal.invariant-loop-j
invariant-loop-j l = l.nodes ≡ map (shard_id l.fn.shard) (range_with_len 0 l.j)
