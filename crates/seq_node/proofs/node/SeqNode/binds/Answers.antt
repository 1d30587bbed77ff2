use Rattle.std.proofs.Common.{ap, ◌∙◌, sym}
use Rattle.lazy_rules.specs.SeqRules.{is_following}
use Rattle.lazy_rules.specs.SeqState.{SeqState}
use Rattle.seq_node.specs.NodeView.{seq_of}
use Rattle.seq_node.proofs.Keeping.{idle_follower}
use Rattle.seq_node.proofs.node.SeqNode.binds.Goals as goal

pub bind-requires-clause-idle : goal.bind-requires-clause-idle
bind-requires-clause-idle c =
    sym (ap (λ (s : SeqState). s.flight) c.self.view_is)
    ∙ idle_follower (seq_of c.self.inside) _ _ _ c.self.invariant c.args.view (ap (λ (s : SeqState). is_following s c.args.view) c.self.view_is ∙ c.requires.following)
