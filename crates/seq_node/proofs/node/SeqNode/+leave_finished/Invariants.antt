use Rattle.std.proofs.Common.{length}
use Rattle.seq_node.proofs.node.SeqNode.+leave_finished.Given as goal

abbrev pub decreases-leave_finished : goal.decreases-leave_finished
decreases-leave_finished l = length l.self.now.flight
