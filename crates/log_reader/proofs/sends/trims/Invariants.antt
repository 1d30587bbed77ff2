use Rattle.std.proofs.Common.{◌≡◌, take}
use Rattle.lazy_msgs.specs.declared.msg.Msg.TheVariants.{Trim}
use Rattle.lazy_rules.specs.Rows.{to_each}
use Rattle.log_reader.proofs.sends.trims.Given as goal

abbrev pub invariant-loop-node : goal.invariant-loop-node
invariant-loop-node l = l.sends ≡ to_each (take l.node-index l.nodes) (Trim l.fn.read l.fn.floor)
