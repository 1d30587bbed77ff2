use Rattle.std.proofs.Common.{◌≡◌, not, take}
use Rattle.std.specs.List.{filter}
use Rattle.lazy_rules.specs.Rows.{has_node}
use Rattle.view_ctl.proofs.sends.others.Given as goal

abbrev pub invariant-loop-node : goal.invariant-loop-node
invariant-loop-node l = l.kept ≡ filter (λ node. not (has_node l.known node)) (take l.node-index l.nodes)
