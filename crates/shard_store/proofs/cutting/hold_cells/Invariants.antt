use Rattle.std.proofs.Common.{◌≡◌, ◌≤◌, length}
use Rattle.shard_store.specs.Settling.{held_again_all}
use Rattle.shard_store.proofs.cutting.hold_cells.Given as goal

abbrev pub invariant-loop-cell : goal.invariant-loop-cell
invariant-loop-cell l = record {
  room : length l.cells.items ≤ l.held.spare;
  records : held_again_all l.order.cells l.held.records l.cells.items ≡ held_again_all l.order.cells l.initial.held.records l.initial.cells.items;
}

abbrev pub decreases-loop-cell : goal.decreases-loop-cell
decreases-loop-cell l = length l.cells.items
