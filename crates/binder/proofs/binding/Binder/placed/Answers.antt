use Rattle.std.proofs.Common.{List, ap, ◌∙◌, rules}
use Rattle.lazy_rules.specs.Flight.{Batch}
use Rattle.binder.specs.Held.{Held, batches, rooms}
use Rattle.binder.specs.Binding.{Binding, placed_flight, placed_progress}
use Rattle.binder.specs.Sound.{IsFlight}
use Rattle.binder.proofs.Chains.{flight_placed}
use Rattle.binder.proofs.Flights.{lent_shards, kept_flight}
use Rattle.binder.proofs.Waits.{written}
use Rattle.binder.proofs.binding.Binder.placed.Goals as goal

pub invariant_of-self : goal.invariant_of-self
invariant_of-self c =
    let old = c.self.inside.flight.items in
    let shards = c.self.inside.shards in
    let known = lent_shards shards c.self.inside.followers c.deref_mut.result.now old c.deref_mut.ensures.value c.self.invariant.flying in
    let flight =
    c.place.ensures.next shards known
    ∙ ap (λ (l : List Held). placed_flight shards (batches l) c.args.shard c.args.upto) c.deref_mut.ensures.value in
    let sound : IsFlight (batches c.place.new.flight) = rw flight (flight_placed shards c.args.shard c.args.upto (batches old) c.self.invariant.sound) in
    rw (written old c.place.new.flight c.self.inside.flight.len (search rules))
    (kept_flight shards c.self.inside.followers old c.place.new.flight c.self.inside.spare.items _ _ (c.place.ensures.room ∙ ap rooms c.deref_mut.ensures.value) sound c.self.invariant)

pub returns-clause-next : goal.returns-clause-next
returns-clause-next c =
    let old = c.self.inside.flight.items in
    let shards = c.self.inside.shards in
    let known = lent_shards shards c.self.inside.followers c.deref_mut.result.now c.self.inside.flight.items c.deref_mut.ensures.value c.self.invariant.flying in
    let flight =
    ap batches (written old c.place.new.flight c.self.inside.flight.len (search rules)) ∙ c.place.ensures.next shards known
    ∙ ap (λ (l : List Held). placed_flight shards (batches l) c.args.shard c.args.upto) c.deref_mut.ensures.value in
    ap (λ (l : List Batch). let made : Binding = record { shards = shards; followers = c.self.inside.followers; flight = l; probes = c.self.inside.reads } in made) flight
    ∙ ap (λ (b : Binding). record b { flight = placed_flight b.shards b.flight c.args.shard c.args.upto }) c.self.view_is

pub returns-clause-progress : goal.returns-clause-progress
returns-clause-progress c =
    let shards = c.self.inside.shards in
    let known = lent_shards shards c.self.inside.followers c.deref_mut.result.now c.self.inside.flight.items c.deref_mut.ensures.value c.self.invariant.flying in
    c.place.ensures.progress shards known
    ∙ ap (λ (l : List Held). placed_progress shards (batches l) c.args.shard c.args.upto) c.deref_mut.ensures.value
    ∙ ap (λ (b : Binding). placed_progress b.shards b.flight c.args.shard c.args.upto) c.self.view_is
