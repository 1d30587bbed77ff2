use Rattle.std.proofs.Common.{length}
use Rattle.binder.proofs.waiting.+replace.Given as goal

abbrev pub decreases-replace : goal.decreases-replace
decreases-replace l = length l.waiting.now
