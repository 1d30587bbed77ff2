use Rattle.std.proofs.Common.{◌≡◌, ◌++◌, drop}
use Rattle.lazy_rules.specs.Ids.{ids_of}
use Rattle.seq_node.specs.Batches.{items_at}
use Rattle.seq_node.proofs.node.SeqNode.ids_in.Given as goal

abbrev pub invariant-loop-i : goal.invariant-loop-i
invariant-loop-i l = l.ids.items ++ ids_of (drop l.i (items_at l.fn.self l.from l.count)) ≡ ids_of (items_at l.fn.self l.from l.count)
