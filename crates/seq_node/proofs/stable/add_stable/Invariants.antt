use Rattle.std.proofs.Common.{◌≡◌, ◌++◌, drop}
use Rattle.std.specs.Prelude.{flat_map}
use Rattle.lazy_msgs.specs.declared.msg.Msg.TheVariants.{Stable}
use Rattle.lazy_rules.specs.Rows.{to_each}
use Rattle.seq_node.proofs.stable.add_stable.Given as goal

abbrev pub invariant-loop-nodes : goal.invariant-loop-nodes
invariant-loop-nodes l = l.sends ++ to_each (flat_map (λ nodes. nodes) (drop l.nodes-index l.fn.config.shards)) (Stable l.view l.upto) ≡ l.fn.sends ++ to_each (flat_map (λ nodes. nodes) l.fn.config.shards) (Stable l.view l.upto)
