use Rattle.std.proofs.Common.{List, ap, ◌∙◌, rules}
use Rattle.binder.specs.Held.{Held, batches, rooms}
use Rattle.binder.specs.Binding.{ordered_flight}
use Rattle.binder.specs.Sound.{IsFlight}
use Rattle.binder.proofs.Chains.{flight_ordered}
use Rattle.binder.proofs.Flights.{kept_flight}
use Rattle.binder.proofs.Waits.{written}
use Rattle.binder.proofs.binding.Binder.ordered.Goals as goal

pub invariant_of-self : goal.invariant_of-self
invariant_of-self c =
    let old = c.self.inside.flight.items in
    let flight =
    c.order.ensures.next
    ∙ ap (λ (l : List Held). ordered_flight (batches l) c.args.follower c.args.upto) c.deref_mut.ensures.value in
    let sound : IsFlight (batches c.order.new.flight) = rw flight (flight_ordered c.args.follower c.args.upto (batches old) c.self.invariant.sound) in
    rw (written old c.order.new.flight c.self.inside.flight.len (search rules))
    (kept_flight c.self.inside.shards c.self.inside.followers old c.order.new.flight c.self.inside.spare.items _ _ (c.order.ensures.room ∙ ap rooms c.deref_mut.ensures.value) sound c.self.invariant)
