use Rattle.std.proofs.Common.{◌≡◌, ◌++◌, drop}
use Rattle.lazy_msgs.specs.declared.msg.Msg.TheVariants.{Stable}
use Rattle.lazy_rules.specs.Rows.{to_each}
use Rattle.seq_node.proofs.stable.add_stable_to.Given as goal

abbrev pub invariant-loop-node : goal.invariant-loop-node
invariant-loop-node l = l.sends ++ to_each (drop l.node-index l.fn.nodes) (Stable l.view l.upto) ≡ l.fn.sends ++ to_each l.fn.nodes (Stable l.view l.upto)
