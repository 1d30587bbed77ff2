use Rattle.std.proofs.Common.{◌<◌, ℕ}
use Rattle.rec_id.specs.Lawful.{FinishedAt}
use Rattle.log_law.proofs.finished.first_unfinished.Given as goal

abbrev pub invariant-loop-j : goal.invariant-loop-j
invariant-loop-j l = (k : ℕ) → k < l.j → FinishedAt l.history l.line k
