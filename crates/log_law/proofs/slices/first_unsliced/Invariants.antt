use Rattle.std.proofs.Common.{◌<◌, ℕ}
use Rattle.rec_id.specs.Lawful.{SlicesAt}
use Rattle.log_law.proofs.slices.first_unsliced.Given as goal

abbrev pub invariant-loop-j : goal.invariant-loop-j
invariant-loop-j l = (k : ℕ) → k < l.j → SlicesAt l.history l.line k
