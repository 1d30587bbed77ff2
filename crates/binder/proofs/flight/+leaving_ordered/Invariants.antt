use Rattle.std.proofs.Common.{length}
use Rattle.binder.proofs.flight.+leaving_ordered.Given as goal

abbrev pub decreases-leaving_ordered : goal.decreases-leaving_ordered
decreases-leaving_ordered l = length l.flight.now
