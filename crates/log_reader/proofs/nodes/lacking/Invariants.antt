use Rattle.std.proofs.Common.{◌≡◌, not, take}
use Rattle.std.specs.List.{filter}
use Rattle.lazy_rules.specs.Rows.{has_node}
use Rattle.log_reader.proofs.nodes.lacking.Given as goal

abbrev pub invariant-loop-node : goal.invariant-loop-node
invariant-loop-node l = l.made ≡ filter (λ node. not (has_node l.acked node)) (take l.node-index l.nodes)
