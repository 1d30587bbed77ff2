use Rattle.std.proofs.Common.{◌-◌, length}
use Rattle.seq_node.proofs.node.SeqNode.+add_passing.Given as goal

abbrev pub decreases-add_passing : goal.decreases-add_passing
decreases-add_passing l = length l.self.now.flight - l.i
