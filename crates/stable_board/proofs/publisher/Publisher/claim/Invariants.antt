use Rattle.std.proofs.Common.{◌-◌, length}
use Rattle.stable_board.proofs.Claiming.{Verifying}
use Rattle.stable_board.proofs.publisher.Publisher.claim.Given as goal

abbrev pub invariant-loop-self : goal.invariant-loop-self
invariant-loop-self l = Verifying l.fn.self l.store l.self

abbrev pub decreases-loop-self : goal.decreases-loop-self
decreases-loop-self l = l.stable - length l.self.did.verified
