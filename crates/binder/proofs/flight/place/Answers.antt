use Rattle.std.proofs.Common.{◌≡◌, List, true, false, length, sym, ap, ◌∙◌}
use Rattle.lazy_rules.specs.Flight.{Batch, has_placing, passed, passing}
use Rattle.binder.specs.Held.{batches}
use Rattle.binder.specs.Binding.{progress_of}
use Rattle.binder.proofs.Flights.{shards_same, place_nowhere}
use Rattle.binder.proofs.flight.place.Goals as goal

pub returns-then-not-note_places-clause-next : goal.returns-then-not-note_places-clause-next
returns-then-not-note_places-clause-next c = λ shards all.
    let none : has_placing (batches c.args.flight.now) c.args.upto ≡ false =
    sym c.note_places.ensures.here ∙ c.if-not-note_places.true in
    rw none (c.note_places.ensures.noted ∙ place_nowhere (batches c.args.flight.now) c.args.shard c.args.upto none)

pub returns-clause-next : goal.returns-clause-next
returns-clause-next c = λ shards all.
    let has : has_placing (batches c.args.flight.now) c.args.upto ≡ true =
    sym c.note_places.ensures.here ∙ c.if-not-note_places.false in
    let known = shards_same shards c.args.flight.now c.note_places.new.flight c.note_places.ensures.room all in
    rw has (c.pass.ensures.passed shards known ∙ ap (passed shards) c.note_places.ensures.noted)

pub returns-clause-progress : goal.returns-clause-progress
returns-clause-progress c = λ shards all.
    let has : has_placing (batches c.args.flight.now) c.args.upto ≡ true =
    sym c.note_places.ensures.here ∙ c.if-not-note_places.false in
    let known = shards_same shards c.args.flight.now c.note_places.new.flight c.note_places.ensures.room all in
    let count = c.pass.ensures.count shards known ∙ ap (λ (l : List Batch). length (passing shards l)) c.note_places.ensures.noted in
    rw has (c.progress_of.ensures ∙ ap progress_of count)
