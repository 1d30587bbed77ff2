use Rattle.std.proofs.Common.{◌≡◌, ◌++◌, drop, take}
use Rattle.seq_node.specs.Leaving.{left_sends}
use Rattle.seq_node.proofs.node.SeqNode.add_left.Given as goal

abbrev pub invariant-loop-i : goal.invariant-loop-i
invariant-loop-i l =
    l.sends ++ left_sends l.fn.self.config l.fn.self.view l.low l.fn.self.probes (drop l.i (take l.left l.fn.self.flight))
    ≡ l.fn.sends ++ left_sends l.fn.self.config l.fn.self.view 0 l.fn.self.probes (take l.left l.fn.self.flight)
