use Rattle.std.proofs.Common.{◌≡◌, ◌+◌, ◌≤◌, ◌++◌, length, drop}
use Rattle.shard_store.specs.Holding.{records_in}
use Rattle.shard_store.proofs.held.move_kept.Given as goal

abbrev pub invariant-loop-place : goal.invariant-loop-place
invariant-loop-place l = record {
  all : records_in l.to.cells ++ records_in (drop l.place l.from.cells) ≡ records_in l.fn.to.cells ++ records_in l.fn.from.cells;
  len : length l.from.cells ≡ length l.fn.from.cells;
  room : length l.to.cells + l.to.spare ≡ length l.fn.to.cells + l.fn.to.spare;
  left : l.fn.to.spare ≤ l.to.spare + l.place;
}
