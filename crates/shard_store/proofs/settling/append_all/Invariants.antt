use Rattle.std.proofs.Common.{◌≡◌, ◌+◌, ◌^◌, ◌<◌, ◌≤◌, ◌++◌, length}
use Rattle.shard_store.specs.Settling.{held_beside_all}
use Rattle.shard_store.proofs.settling.append_all.Given as goal

abbrev pub invariant-loop-cell : goal.invariant-loop-cell
invariant-loop-cell l = record {
  room : length l.cells.items ≤ l.order.spare;
  short : length l.order.cells + length l.cells.items < 2 ^ 32;
  cells : l.order.cells ++ l.cells.items ≡ l.initial.order.cells ++ l.initial.cells.items;
  held : held_beside_all l.held.records l.cells.items ≡ held_beside_all l.initial.held.records l.initial.cells.items;
}

abbrev pub decreases-loop-cell : goal.decreases-loop-cell
decreases-loop-cell l = length l.cells.items
