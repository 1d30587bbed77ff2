use Rattle.std.proofs.Common.{◌≡◌, drop}
use Rattle.std.specs.VecDeque.{deque_capacity}
use Rattle.pending_log.proofs.ring.Ring.drop_front.Given as goal

abbrev pub invariant-loop-item : goal.invariant-loop-item
invariant-loop-item l =
    (l.self-inside.items.items ≡ drop l._item l.initial.self-inside.items.items)
    × (deque_capacity l.self-inside.items ≡ deque_capacity l.initial.self-inside.items)
    × (l.self-inside.words ≡ l.initial.self-inside.words)
