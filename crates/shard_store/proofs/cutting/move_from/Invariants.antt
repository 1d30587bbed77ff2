use Rattle.std.proofs.Common.{◌≡◌, ◌+◌, ◌≤◌, ◌++◌, length}
use Rattle.std.specs.VecDeque.{deque_capacity}
use Rattle.shard_store.proofs.cutting.move_from.Given as goal

abbrev pub invariant-loop-tail : goal.invariant-loop-tail
invariant-loop-tail l = record {
  within : l.from ≤ length l.order.cells;
  all : l.order.cells ++ l.tail.items ≡ l.initial.order.cells;
  room : length l.tail.items + length l.order.cells ≤ deque_capacity l.tail + l.from;
  spare : l.order.spare ≡ l.initial.order.spare;
}

abbrev pub decreases-loop-tail : goal.decreases-loop-tail
decreases-loop-tail l = length l.order.cells
