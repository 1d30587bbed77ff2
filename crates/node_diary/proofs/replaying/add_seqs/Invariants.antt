use Rattle.std.proofs.Common.{◌≡◌, ◌++◌, map}
use Rattle.std.specs.List.{range_with_len}
use Rattle.view_config.specs.Nodes.{seq_id}
use Rattle.node_diary.proofs.replaying.add_seqs.Given as goal

abbrev pub invariant-loop-i : goal.invariant-loop-i
invariant-loop-i l = l.nodes.items ≡ l.fn.nodes.items ++ map seq_id (range_with_len 0 l.i)
