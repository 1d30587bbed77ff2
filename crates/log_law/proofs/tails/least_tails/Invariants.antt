use Rattle.std.proofs.Common.{◌≤◌, length}
use Rattle.log_law.specs.Tails.{AreTailsFrom}
use Rattle.log_law.proofs.tails.least_tails.Given as goal

abbrev pub invariant-loop-b : goal.invariant-loop-b
invariant-loop-b l = record {
  within : l.b ≤ length l.history;
  tails : AreTailsFrom l.history l.b l.tails l.made.items;
}

abbrev pub decreases-loop-b : goal.decreases-loop-b
decreases-loop-b l = l.b
