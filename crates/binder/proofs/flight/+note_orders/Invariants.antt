use Rattle.std.proofs.Common.{length}
use Rattle.binder.proofs.flight.+note_orders.Given as goal

abbrev pub decreases-note_orders : goal.decreases-note_orders
decreases-note_orders l = length l.flight.now
