use Rattle.std.proofs.Common.{◌∙◌}
use Rattle.node_diary.proofs.NodeOrder.{numbers_more}
use Rattle.node_diary.proofs.replaying.add_clients.Goals as goal

pub loop-c-preserved : goal.loop-c-preserved
loop-c-preserved c = c.in_ok-push.ensures.items ∙ numbers_more c.args.nodes.now.items c.loop-c.nodes.items c.loop-c.c c.loop-c.invariant
