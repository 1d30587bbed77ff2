use Rattle.std.proofs.Common.{◌<◌, ℕ}
use Rattle.log_law.specs.Keys.{IsApart}
use Rattle.log_law.proofs.unique.first_repeated.Given as goal

abbrev pub invariant-loop-p : goal.invariant-loop-p
invariant-loop-p l = (p q : ℕ) → p < l.p → IsApart l.named p q
