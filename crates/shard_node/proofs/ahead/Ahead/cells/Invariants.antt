use Rattle.std.proofs.Common.{◌≡◌, ◌≤◌}
use Rattle.std.specs.Prelude.{slice_range}
use Rattle.shard_node.proofs.ahead.Ahead.cells.Given as goal

abbrev pub invariant-loop-place : goal.invariant-loop-place
invariant-loop-place l = record {
  made : l.made ≡ slice_range l.self.order l.from l.place;
  still : l.end ≤ l.from → l.place ≡ l.from;
}
