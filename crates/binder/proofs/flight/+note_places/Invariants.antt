use Rattle.std.proofs.Common.{length}
use Rattle.binder.proofs.flight.+note_places.Given as goal

abbrev pub decreases-note_places : goal.decreases-note_places
decreases-note_places l = length l.flight.now
