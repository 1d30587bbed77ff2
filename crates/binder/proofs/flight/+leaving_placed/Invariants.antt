use Rattle.std.proofs.Common.{length}
use Rattle.binder.proofs.flight.+leaving_placed.Given as goal

abbrev pub decreases-leaving_placed : goal.decreases-leaving_placed
decreases-leaving_placed l = length l.flight.now
