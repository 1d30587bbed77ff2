use Rattle.shard_store.specs.Places.{IsGivenUp}
use Rattle.shard_store.proofs.order.give_up_cells.Given as goal

abbrev pub invariant-loop-place : goal.invariant-loop-place
invariant-loop-place l = IsGivenUp l.from l.place l.initial.cells l.cells
