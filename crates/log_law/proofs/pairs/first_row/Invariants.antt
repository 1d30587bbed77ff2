use Rattle.std.proofs.Common.{◌≤◌, length}
use Rattle.log_law.specs.Pairs.{IsFirstRow, IsLeastFrom}
use Rattle.log_law.proofs.pairs.first_row.Given as goal

abbrev pub invariant-loop-i : goal.invariant-loop-i
invariant-loop-i l = record {
  within : l.i ≤ length l.lows;
  found : IsFirstRow l.bounds l.lows l.i l.row;
  lowest : IsLeastFrom l.lows l.i l.least;
}

abbrev pub decreases-loop-i : goal.decreases-loop-i
decreases-loop-i l = l.i
