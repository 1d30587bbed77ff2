use Rattle.std.proofs.Common.{◌≡◌, ◌+◌, ◌^◌, ◌<◌, ◌≤◌, ◌++◌, length}
use Rattle.shard_store.specs.Settling.{settled_all, held_beside_all}
use Rattle.shard_store.proofs.settling.settle_all.Given as goal

abbrev pub invariant-loop-cell : goal.invariant-loop-cell
invariant-loop-cell l = record {
  room : length l.drafts.items ≤ l.order.spare;
  short : length l.order.cells + length l.drafts.items < 2 ^ 32;
  cells : l.order.cells ++ settled_all l.held.records l.drafts.items ≡ l.initial.order.cells ++ settled_all l.initial.held.records l.initial.drafts.items;
  held : held_beside_all l.held.records (settled_all l.held.records l.drafts.items) ≡ held_beside_all l.initial.held.records (settled_all l.initial.held.records l.initial.drafts.items);
}

abbrev pub decreases-loop-cell : goal.decreases-loop-cell
decreases-loop-cell l = length l.drafts.items
