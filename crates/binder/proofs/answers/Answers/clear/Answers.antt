use Rattle.std.proofs.Common.{arith}
use Rattle.binder.proofs.Rosters.{no_answers}
use Rattle.binder.proofs.answers.Answers.clear.Goals as goal

pub invariant_of-self : goal.invariant_of-self
invariant_of-self c = rw c.clear.ensures.items (no_answers _ _ (omega arith))
