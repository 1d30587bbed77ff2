use Rattle.std.proofs.Common.{◌≡◌, take}
use Rattle.lazy_msgs.specs.declared.msg.Msg.TheVariants.{Probe}
use Rattle.lazy_rules.specs.Rows.{to_each}
use Rattle.log_reader.proofs.sends.probes.Given as goal

abbrev pub invariant-loop-node : goal.invariant-loop-node
invariant-loop-node l = l.sends ≡ to_each (take l.node-index l.nodes) (Probe l.fn.view l.fn.read)
