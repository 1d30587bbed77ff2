use Rattle.std.proofs.Common.{◌≡◌, ◌+◌, ◌++◌, drop}
use Rattle.lazy_rules.specs.Items.{items_for}
use Rattle.seq_node.specs.Batches.{items_at}
use Rattle.seq_node.proofs.node.SeqNode.items_for.Given as goal

abbrev pub invariant-loop-i : goal.invariant-loop-i
invariant-loop-i l = l.items.items ++ items_for l.fn.self.shape l.shard (l.from + l.i) (drop l.i (items_at l.fn.self l.from l.count)) ≡ items_for l.fn.self.shape l.shard l.from (items_at l.fn.self l.from l.count)
