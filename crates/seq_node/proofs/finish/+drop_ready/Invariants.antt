use Rattle.std.proofs.Common.{length}
use Rattle.seq_node.proofs.finish.+drop_ready.Given as goal

abbrev pub decreases-drop_ready : goal.decreases-drop_ready
decreases-drop_ready l = length l.binder.now.probes
