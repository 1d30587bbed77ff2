use Rattle.std.proofs.Common.{◌≡◌, true, false, length, ap, sym, ◌∙◌}
use Rattle.std.specs.Prelude.{is_some}
use Rattle.lazy_msgs.specs.Step.{Row}
use Rattle.lazy_rules.specs.Flight.{finish}
use Rattle.lazy_rules.specs.Roles.{followers_of}
use Rattle.lazy_rules.specs.SeqState.{SeqState}
use Rattle.seq_node.specs.Leaving.{once_left}
use Rattle.seq_node.proofs.Going.{finishing_goes, finishing_stays}
use Rattle.seq_node.proofs.node.SeqNode.+leave_finished.Goals as goal

pub returns-then-leave_first : goal.returns-then-leave_first
returns-then-leave_first t c =
    let s : SeqState = c.args.self.now in
    let some : is_some (finish (length (followers_of s.config)) s.flight) ≡ true = sym c.leave_first.ensures.left ∙ c.if-leave_first.true in
    c.leave_finished.ensures ∙ ap once_left c.leave_first.ensures.next
    ∙ sym (ap (λ (r : Row SeqState). r.next) (finishing_goes s s.flight some))

pub returns-else-leave_first : goal.returns-else-leave_first
returns-else-leave_first t c =
    let s : SeqState = c.args.self.now in
    let none : is_some (finish (length (followers_of s.config)) s.flight) ≡ false = sym c.leave_first.ensures.left ∙ c.if-leave_first.false in
    let both = finishing_stays s s.flight none in
    c.leave_first.ensures.next ∙ ap (λ (r : Row SeqState). r.next) both.1 ∙ sym (ap (λ (r : Row SeqState). r.next) both.0)
