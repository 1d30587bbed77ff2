use Rattle.std.proofs.Common.{◌≡◌, [], Bool, true, false, ◌&&◌, sym, ap, ◌∙◌}
use Rattle.lazy_rules.specs.Flight.{Batch, has_all, is_finished, place_noted}
use Rattle.binder.specs.Held.{Held}
use Rattle.binder.proofs.PassedLeaving.{once_ordered, once_passed, once_waiting, placing_unfinished, still_ordering}
use Rattle.binder.proofs.slot.Slot.is_finished_once_placed.Goals as goal

pub returns-then-self : goal.returns-then-self
returns-then-self c =
    let h : Held = c.args.self.now in
    let ordered : h.batch.ordering ≡ true = sym (ap (λ (a : Held). a.batch.ordering) c.self.view_is) ∙ c.if-self.true in
    c.are_all.ensures ∙ ap (λ (a : Held). has_all a.followers a.batch.ordered) c.self.view_is
    ∙ sym (ap (λ (b : Bool). b && has_all h.followers h.batch.ordered) ordered)
    ∙ sym (ap (is_finished h.followers) (once_ordered h.shards c.args.upto c.args.shard h.batch ordered))

pub returns-then-not-is_placed_with : goal.returns-then-not-is_placed_with
returns-then-not-is_placed_with c =
    let h : Held = c.args.self.now in
    let y : Batch = place_noted c.args.upto c.args.shard h.batch in
    let placing : h.batch.ordering ≡ false = sym (ap (λ (a : Held). a.batch.ordering) c.self.view_is) ∙ c.if-self.false in
    let lacks : has_all h.shards y.placed ≡ false = sym c.is_placed_with.ensures ∙ c.if-not-is_placed_with.true in
    sym (ap (is_finished h.followers) (once_waiting h.shards c.args.upto c.args.shard h.batch placing lacks)
    ∙ placing_unfinished h.followers y (still_ordering c.args.upto c.args.shard h.batch ∙ placing))

pub returns : goal.returns
returns c =
    let h : Held = c.args.self.now in
    let y : Batch = place_noted c.args.upto c.args.shard h.batch in
    let placing : h.batch.ordering ≡ false = sym (ap (λ (a : Held). a.batch.ordering) c.self.view_is) ∙ c.if-self.false in
    let all : has_all h.shards y.placed ≡ true = sym c.is_placed_with.ensures ∙ c.if-not-is_placed_with.false in
    c.are_none.ensures ∙ ap (λ (a : Held). has_all a.followers []) c.self.view_is
    ∙ sym (ap (is_finished h.followers) (once_passed h.shards c.args.upto c.args.shard h.batch placing all))
