use Rattle.std.proofs.Common.{rules}
use Rattle.pending_log.proofs.Rings.{kept_push}
use Rattle.pending_log.proofs.ring.Ring.push.Goals as goal

pub invariant_of-self : goal.invariant_of-self
invariant_of-self c =
    rw (c.push_back_reserved.ensures.items, c.push_back_reserved-2.ensures.items, c.push_back_reserved.ensures.capacity, c.push_back_reserved-2.ensures.capacity)
    (kept_push c.self.inside.items.items c.self.inside.words.items _ _ c.self.invariant c.args.item c.pack.result c.pack.ensures.valid c.pack.ensures.packed (search rules))
