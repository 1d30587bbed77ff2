use Rattle.std.proofs.Common.{◌≡◌, ◌++◌, drop}
use Rattle.std.specs.Prelude.{flat_map}
use Rattle.lazy_rules.specs.Leading.{resends}
use Rattle.seq_node.proofs.node.SeqNode.send_again.Given as goal

abbrev pub invariant-loop-i : goal.invariant-loop-i
invariant-loop-i l = l.sends ++ flat_map (resends l.fn.self) (drop l.i l.fn.self.flight) ≡ l.fn.sends ++ flat_map (resends l.fn.self) l.fn.self.flight
