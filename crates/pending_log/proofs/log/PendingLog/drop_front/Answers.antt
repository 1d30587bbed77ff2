use Rattle.pending_log.proofs.Identities.{distinct_drop}
use Rattle.pending_log.proofs.log.PendingLog.drop_front.Goals as goal

pub invariant_of-self : goal.invariant_of-self
invariant_of-self c = rw c.drop_front.ensures (distinct_drop c.args.n c.self.inside.ring.items c.self.invariant)
