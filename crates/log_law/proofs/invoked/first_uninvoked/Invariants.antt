use Rattle.std.proofs.Common.{◌<◌, ℕ}
use Rattle.rec_id.specs.Lawful.{InvokedAt}
use Rattle.log_law.proofs.invoked.first_uninvoked.Given as goal

abbrev pub invariant-loop-place : goal.invariant-loop-place
invariant-loop-place l = (k : ℕ) → k < l.place → InvokedAt l.history l.line k
