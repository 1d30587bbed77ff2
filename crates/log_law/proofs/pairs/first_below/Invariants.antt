use Rattle.std.proofs.Common.{◌≤◌, ◌<◌, ◌-◌, ℕ, length}
use Rattle.std.specs.Prelude.{slice_index}
use Rattle.log_law.proofs.pairs.first_below.Given as goal

abbrev pub invariant-loop-j : goal.invariant-loop-j
invariant-loop-j l = record {
  after : l.from ≤ l.j;
  within : l.j ≤ length l.lows;
  none : (k : ℕ) → l.from ≤ k → k < l.j → l.bound ≤ slice_index l.lows k;
}

abbrev pub decreases-loop-j : goal.decreases-loop-j
decreases-loop-j l = length l.lows - l.j
