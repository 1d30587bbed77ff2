use Rattle.pending_log.proofs.Removal.{Turned}
use Rattle.pending_log.proofs.log.PendingLog.remove_ids.Given as goal

abbrev pub invariant-loop-item : goal.invariant-loop-item
invariant-loop-item l =
    Turned l.ids l.initial.self-inside.ring.items l.initial.self-inside.ring.capacity l._item l.unmet l.kept l.self-inside.ring
