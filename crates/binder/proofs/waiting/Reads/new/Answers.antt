use Rattle.std.proofs.Common.{arith}
use Rattle.binder.proofs.Rosters.{no_answers}
use Rattle.binder.proofs.waiting.Reads.new.Goals as goal

pub invariant_of-result : goal.invariant_of-result
invariant_of-result c =
    rw c.in_ok-with_capacity.ensures.items (no_answers _ _ (omega (arith, c.in_ok-with_capacity.ensures.exact)))
