use Rattle.std.proofs.Common.{◌≡◌, ◌++◌, map}
use Rattle.std.specs.List.{range_with_len}
use Rattle.node_diary.specs.Folding.{shard_number}
use Rattle.node_diary.proofs.replaying.add_shards.Given as goal

abbrev pub invariant-loop-k : goal.invariant-loop-k
invariant-loop-k l = l.nodes.items ≡ l.fn.nodes.items ++ map (shard_number l.shape) (range_with_len 0 l.k)
