use Rattle.std.proofs.Common.{◌≡◌, Bool, false, cond, ap, ◌∙◌, sym, subst}
use Rattle.lazy_msgs.specs.declared.msg.Msg.TheVariants.{ProbeAck}
use Rattle.lazy_msgs.specs.declared.refused.StepRefused.TheVariants.{Over}
use Rattle.lazy_msgs.specs.Step.{Row, StepsTo}
use Rattle.lazy_rules.specs.Flight.{has_later_probe}
use Rattle.lazy_rules.specs.Leading.{forces}
use Rattle.lazy_rules.specs.Rows.{answers, followed, joined, stays}
use Rattle.lazy_rules.specs.SeqRules.{waits, with_waiting}
use Rattle.lazy_rules.specs.SeqState.{SeqState}
use Rattle.seq_node.proofs.node.SeqNode.wait.Goals as goal

pub returns : goal.returns
returns c =
    let s : SeqState = c.args.self.now in
    let client = c.args.client in
    let ack : Row SeqState = answers s client (ProbeAck c.args.view c.args.read) in
    let read = c.args.read in
    let none : has_later_probe s.probes client read ≡ false =
    sym (ap (λ (x : SeqState). has_later_probe x.probes client read) c.self.view_is) ∙ sym c.has_later_read.ensures ∙ c.if-has_later_read.false in
    let row : followed ack (λ after. forces (with_waiting after client read)) ≡ followed ack (λ after. waits after client read) = sym (ap (λ (b : Bool). joined ack (cond b (stays s) (forces (with_waiting s client c.args.read)))) none) in
    subst (λ (r : Row SeqState). StepsTo r s c.wait_new.new.self c.args.out.now c.wait_new.new.out c.wait_new.result Over) row c.wait_new.ensures
