use Rattle.std.proofs.Common.{◌∙◌}
use Rattle.view_config.specs.Nodes.{seq_id}
use Rattle.lazy_core.proofs.Walks.{made_more}
use Rattle.node_diary.proofs.replaying.add_seqs.Goals as goal

pub loop-i-preserved : goal.loop-i-preserved
loop-i-preserved c = c.in_ok-push.ensures.items ∙ made_more seq_id c.args.nodes.now.items c.loop-i.nodes.items c.loop-i.i c.seq_id.result c.loop-i.invariant c.seq_id.ensures
