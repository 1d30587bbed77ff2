use Rattle.std.proofs.Common.{◌<◌, ℕ}
use Rattle.rec_id.specs.Lawful.{TrimsAt}
use Rattle.log_law.specs.Floors.{IsHighest}
use Rattle.log_law.proofs.trims.first_untrimmed.Given as goal

abbrev pub invariant-loop-j : goal.invariant-loop-j
invariant-loop-j l = record {
  highest : IsHighest l.history l.j l.highest;
  kept : (k : ℕ) → k < l.j → TrimsAt l.history k;
}
