use Rattle.std.proofs.Common.{drop}
use Rattle.shard_store.specs.Places.{IsClosing}
use Rattle.shard_store.proofs.order.close_cells.Given as goal

abbrev pub invariant-loop-place : goal.invariant-loop-place
invariant-loop-place l = IsClosing l.initial.cells l.cells (drop l.place-index l.opens)
