use Rattle.seq_node.proofs.node.SeqNode.+add_begun.Given as goal

abbrev pub decreases-add_begun : goal.decreases-add_begun
decreases-add_begun l = l.room
