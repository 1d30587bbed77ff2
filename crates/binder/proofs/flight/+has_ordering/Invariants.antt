use Rattle.std.proofs.Common.{length}
use Rattle.binder.proofs.flight.+has_ordering.Given as goal

abbrev pub decreases-has_ordering : goal.decreases-has_ordering
decreases-has_ordering l = length l.flight.now
