use Rattle.std.proofs.Common.{length}
use Rattle.binder.proofs.flight.+pass.Given as goal

abbrev pub decreases-pass : goal.decreases-pass
decreases-pass l = length l.flight.now
