use Rattle.std.proofs.Common.{sym, subst}
use Rattle.lazy_msgs.specs.declared.refused.StepRefused.TheVariants.{Over}
use Rattle.lazy_msgs.specs.Step.{Row, StepsTo}
use Rattle.lazy_rules.specs.SeqState.{SeqState}
use Rattle.seq_node.proofs.Noting.{took_stays}
use Rattle.seq_node.proofs.node.SeqNode.ignore.Goals as goal

pub returns : goal.returns
returns c =
    subst (λ (r : Row SeqState). StepsTo r c.args.self.now c.args.self.now c.args.out.now c.stay.new.out c.stay.result Over)
    (sym (took_stays c.args.self.now c.args.sender c.args.msg.now c.requires)) c.stay.ensures
