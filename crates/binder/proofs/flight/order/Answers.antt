use Rattle.std.proofs.Common.{◌≡◌, false, sym, ◌∙◌}
use Rattle.lazy_rules.specs.Flight.{has_ordering}
use Rattle.binder.specs.Held.{batches}
use Rattle.binder.proofs.Flights.{order_nowhere}
use Rattle.binder.proofs.flight.order.Goals as goal

pub returns-then-not-note_orders-clause-next : goal.returns-then-not-note_orders-clause-next
returns-then-not-note_orders-clause-next c =
    let none : has_ordering (batches c.args.flight.now) c.args.upto ≡ false =
    sym c.note_orders.ensures.here ∙ c.if-not-note_orders.true in
    rw none (c.note_orders.ensures.noted ∙ order_nowhere (batches c.args.flight.now) c.args.follower c.args.upto none)
