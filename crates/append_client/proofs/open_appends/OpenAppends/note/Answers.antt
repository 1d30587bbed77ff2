use Rattle.std.proofs.Common.{◌≡◌, ℕ, None, subst}
use Rattle.std.specs.Prelude.{OnOk, slice_set}
use Rattle.lazy_rules.specs.ClientRules.{noted}
use Rattle.lazy_rules.specs.ClientState.{OpenAppend as Unfinished}
use Rattle.append_client.specs.Appends.{Appends, IsAt, taken, place_in}
use Rattle.append_client.proofs.Slots.{absent_outside}
use Rattle.append_client.proofs.SlotEndings.{noted_as, nowhere}
use Rattle.append_client.proofs.open_appends.OpenAppends.note.Goals as goal

pub invariant_of-self : goal.invariant_of-self
invariant_of-self c =
    let here = c.in-Some.ensures.some in
    let done = noted_as c.self.inside.first c.args.number c.in-Some.slot c.self.inside.slots.items c.self.invariant here.1 here.0
    c.note_slot.result c.index_mut.result.now c.note_slot.new.slot c.args.node c.index_mut.ensures.value
    c.note_slot.ensures.none c.note_slot.ensures.some c.note_slot.ensures.err in
    done.are_slots

pub returns-in-Some-clause-noted : goal.returns-in-Some-clause-noted
returns-in-Some-clause-noted c =
    let here = c.in-Some.ensures.some in
    let done = noted_as c.self.inside.first c.args.number c.in-Some.slot c.self.inside.slots.items c.self.invariant here.1 here.0
    c.note_slot.result c.index_mut.result.now c.note_slot.new.slot c.args.node c.index_mut.ensures.value
    c.note_slot.ensures.none c.note_slot.ensures.some c.note_slot.ensures.err in
    subst (λ (s : Appends). (i : ℕ) (a : Unfinished) → IsAt s.unfinished c.args.number i a
    → OnOk c.note_slot.result (taken (slice_set c.self.inside.slots.items c.in-Some.slot c.note_slot.new.slot) ≡ slice_set s.unfinished i (noted a c.args.node)))
    c.self.view_is done.is_set

pub returns-in-None-clause-noted : goal.returns-in-None-clause-noted
returns-in-None-clause-noted c i a at =
    let none : place_in c.args.self.now.unfinished c.args.number ≡ None =
    subst (λ (s : Appends). place_in s.unfinished c.args.number ≡ None) c.self.view_is
    (absent_outside c.self.inside.first c.args.number c.self.inside.slots.items c.self.invariant.numbered c.in-None.ensures.none) in
    absurd (nowhere i (place_in c.args.self.now.unfinished c.args.number) none at.place)
