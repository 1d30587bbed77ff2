use Rattle.std.proofs.Common.{◌<◌, ℕ}
use Rattle.log_law.specs.Tails.{Falls, AreBegun}
use Rattle.log_law.proofs.fallen.first_fall.Given as goal

abbrev pub invariant-loop-j : goal.invariant-loop-j
invariant-loop-j l = record {
  after : l.row < l.j;
  begun : AreBegun l.history l.row l.j l.begun;
  none : (k : ℕ) → k < l.j → Falls l.history l.row l.reach k → ⊥;
}
