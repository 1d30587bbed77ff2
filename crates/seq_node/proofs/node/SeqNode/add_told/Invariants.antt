use Rattle.std.proofs.Common.{◌≡◌, ◌++◌, drop}
use Rattle.seq_node.specs.Leaving.{told, told_in}
use Rattle.seq_node.proofs.node.SeqNode.add_told.Given as goal

abbrev pub invariant-loop-i : goal.invariant-loop-i
invariant-loop-i l =
    l.sends ++ told l.fn.self.view (told_in l.low l.upto (drop l.i l.fn.self.probes)) ≡ l.fn.sends ++ told l.fn.self.view (told_in l.low l.upto l.fn.self.probes)
