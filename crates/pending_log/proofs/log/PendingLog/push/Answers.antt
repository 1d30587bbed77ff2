use Rattle.std.proofs.Common.{◌≡◌, false, ap, ◌∙◌}
use Rattle.pending_log.specs.Pending.{Pending, has_item}
use Rattle.pending_log.proofs.Identities.{distinct_push}
use Rattle.pending_log.proofs.log.PendingLog.push.Goals as goal

pub invariant_of-self : goal.invariant_of-self
invariant_of-self c =
    let new : has_item c.self.inside.ring.items c.args.item.id ≡ false =
    ap (λ (log : Pending). has_item log.items c.args.item.id) c.self.view_is ∙ c.requires in
    rw c.push.ensures (distinct_push c.self.inside.ring.items c.args.item c.self.invariant new)
