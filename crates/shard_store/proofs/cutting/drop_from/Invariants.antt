use Rattle.std.proofs.Common.{◌≡◌, ◌≤◌, length}
use Rattle.list_facts.specs.Lists.{Front}
use Rattle.shard_store.proofs.cutting.drop_from.Given as goal

abbrev pub invariant-loop-order : goal.invariant-loop-order
invariant-loop-order l = record {
  within : l.from ≤ length l.order.cells;
  front : Front l.order.cells l.initial.order.cells;
  spare : l.order.spare ≡ l.initial.order.spare;
}

abbrev pub decreases-loop-order : goal.decreases-loop-order
decreases-loop-order l = length l.order.cells
