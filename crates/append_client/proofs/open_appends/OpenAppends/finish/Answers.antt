use Rattle.std.proofs.Common.{◌≡◌, ◌∙◌, ◌+◌, ℕ, None, Some, true, drop, arith, sym, ap, subst}
use Rattle.std.specs.Prelude.{remove, slice_set}
use Rattle.std.proofs.lemmas.List.{length-set}
use Rattle.append_client.specs.Appends.{Appends, AreSlots, taken, begins_open, place_in}
use Rattle.append_client.proofs.Slots.{absent_outside}
use Rattle.append_client.proofs.SlotChanges.{slots_finished}
use Rattle.append_client.proofs.SlotEndings.{emptied, nowhere}
use Rattle.append_client.proofs.open_appends.OpenAppends.finish.Goals as goal

pub invariant_of-self : goal.invariant_of-self
invariant_of-self c =
    let here = c.in-Some.ensures.some in
    let emptied_slots = slice_set c.self.inside.slots.items c.in-Some.slot None in
    let begins : begins_open (drop c.drop_empty.result emptied_slots) ≡ true =
    ap begins_open (sym c.drop_empty.ensures.rest) ∙ c.drop_empty.ensures.open in
    subst (AreSlots (c.self.inside.first + c.drop_empty.result)) (sym c.drop_empty.ensures.rest)
    (slots_finished c.self.inside.first c.args.number c.in-Some.slot c.drop_empty.result c.self.inside.slots.items c.self.invariant here.1
    (omega (arith, c.drop_empty.ensures.within, length-set c.self.inside.slots.items c.in-Some.slot None)) begins)

pub returns-in-Some-clause-out : goal.returns-in-Some-clause-out
returns-in-Some-clause-out c =
    let here = c.in-Some.ensures.some in
    let slots = c.self.inside.slots.items in
    let out : (i : ℕ) → place_in (taken slots) c.args.number ≡ Some i → taken c.drop_empty.new.slots.items ≡ remove (taken slots) i =
    λ i at. c.drop_empty.ensures.same
    ∙ emptied c.self.inside.first c.args.number c.in-Some.slot slots c.self.invariant here.1 here.0 c.index_mut.result.now c.index_mut.ensures.value i at in
    subst (λ (s : Appends). (i : ℕ) → place_in s.unfinished c.args.number ≡ Some i → taken c.drop_empty.new.slots.items ≡ remove s.unfinished i)
    c.self.view_is out

pub returns-in_default-clause-out : goal.returns-in_default-clause-out
returns-in_default-clause-out c i at =
    let none : place_in c.args.self.now.unfinished c.args.number ≡ None =
    subst (λ (s : Appends). place_in s.unfinished c.args.number ≡ None) c.self.view_is
    (absent_outside c.self.inside.first c.args.number c.self.inside.slots.items c.self.invariant.numbered c.in_default.ensures.none) in
    absurd (nowhere i (place_in c.args.self.now.unfinished c.args.number) none at)
