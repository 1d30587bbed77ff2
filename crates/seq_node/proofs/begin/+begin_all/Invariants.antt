use Rattle.seq_node.proofs.begin.+begin_all.Given as goal

abbrev pub decreases-begin_all : goal.decreases-begin_all
decreases-begin_all l = l.room
