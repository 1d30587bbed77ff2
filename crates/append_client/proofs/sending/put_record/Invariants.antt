use Rattle.std.proofs.Common.{◌≡◌, ◌++◌, map, not, take}
use Rattle.std.specs.List.{filter}
use Rattle.lazy_msgs.specs.declared.msg.Msg.TheVariants.{Append}
use Rattle.lazy_rules.specs.ClientRules.{carried}
use Rattle.lazy_rules.specs.Rows.{has_node}
use Rattle.append_client.proofs.sending.put_record.Given as goal

abbrev pub invariant-loop-node : goal.invariant-loop-node
invariant-loop-node l =
    l.sends ≡ l.fn.sends ++ map (λ node. (node, Append l.fn.view l.fn.id (carried l.fn.mode l.bytes))) (filter (λ node. not (has_node l.acked node)) (take l.node-index l.nodes))
