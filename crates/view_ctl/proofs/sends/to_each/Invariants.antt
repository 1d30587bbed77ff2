use Rattle.std.proofs.Common.{◌≡◌, take}
use Rattle.lazy_rules.specs.Rows.{to_each}
use Rattle.view_ctl.proofs.sends.to_each.Given as goal

abbrev pub invariant-loop-node : goal.invariant-loop-node
invariant-loop-node l = l.sends ≡ to_each (take l.node-index l.nodes) l.msg
