use Rattle.std.proofs.Common.{length}
use Rattle.binder.proofs.flight.+has_placing.Given as goal

abbrev pub decreases-has_placing : goal.decreases-has_placing
decreases-has_placing l = length l.flight.now
