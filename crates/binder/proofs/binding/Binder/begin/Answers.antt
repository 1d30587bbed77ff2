use Rattle.std.proofs.Common.{◌≡◌, ◌<◌, ◌++◌, ◌∷◌, [], length, ap, ◌∙◌, rules}
use Rattle.std.proofs.lemmas.List.{map_push}
use Rattle.lazy_rules.specs.Flight.{flight_end, with_batch}
use Rattle.binder.specs.Held.{Held, batches}
use Rattle.binder.specs.Binding.{Binding}
use Rattle.binder.specs.Sound.{IsFlight}
use Rattle.binder.proofs.Chains.{flight_begun}
use Rattle.binder.proofs.Flights.{kept_begun}
use Rattle.binder.proofs.binding.Binder.begin.Goals as goal
use Rattle.lazy_rules.specs.declared.limits.TheConstants.{FLIGHT_LIMIT}

pub invariant_of-self : goal.invariant_of-self
invariant_of-self c =
    let old = c.self.inside.flight.items in
    let slot = c.begin.new.self in
    let flight : batches (old ++ slot ∷ []) ≡ with_batch (batches old) c.args.from c.args.count =
    map_push (λ (h : Held). h.batch) old slot ∙ ap (λ (h : Held). batches old ++ h.batch ∷ []) c.begin.ensures in
    let room : length (batches old) < FLIGHT_LIMIT = search rules in
    let next : flight_end c.args.from (batches old) ≡ c.args.from =
    ap (λ (b : Binding). flight_end c.args.from b.flight) c.self.view_is ∙ c.requires.next in
    let sound : IsFlight (batches (old ++ slot ∷ [])) =
    rw flight (flight_begun c.args.from c.args.count (batches old) room c.requires.some c.requires.most next c.requires.within c.self.invariant.sound) in
    rw (c.push_reserved.ensures.items, c.push_reserved.ensures.capacity, c.pop.ensures.capacity)
    (kept_begun c.self.inside.shards c.self.inside.followers old c.self.inside.spare.items c.pop.new.self.items c.in-Some.slot slot _ _ c.self.invariant c.in-Some.ensures.items (ap (λ (h : Held). h.shards) c.begin.ensures) (ap (λ (h : Held). h.followers) c.begin.ensures) sound)
