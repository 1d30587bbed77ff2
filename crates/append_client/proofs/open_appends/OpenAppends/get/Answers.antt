use Rattle.std.proofs.Common.{◌≡◌, ◌∙◌, ℕ, Some, None, ap, subst}
use Rattle.std.specs.Prelude.{slice_get}
use Rattle.append_client.specs.Appends.{Appends, IsAt, place_in}
use Rattle.append_client.proofs.Slots.{got, stands, absent_empty}
use Rattle.append_client.proofs.open_appends.OpenAppends.get.Goals as goal

pub returns-in-Some-clause-some : goal.returns-in-Some-clause-some
returns-in-Some-clause-some c =
    let here = c.in_ok-slot.ensures.some in
    let there : slice_get c.self.inside.slots.items c.in_ok-slot.slot ≡ Some (Some c.in-Some.append) =
    got c.self.inside.slots.items c.in_ok-slot.slot c.index.result.now here.0 c.index.ensures ∙ ap Some c.in-Some.is in
    let found = stands c.self.inside.first c.args.number c.self.inside.slots.items c.in_ok-slot.slot c.in-Some.append c.self.invariant.numbered here.1 there in
    subst (λ (s : Appends). (i : ℕ) × IsAt s.unfinished c.args.number i c.in-Some.append) c.self.view_is (found.place, found.is_at)

pub returns-in-None-clause-none : goal.returns-in-None-clause-none
returns-in-None-clause-none c =
    let here = c.in_ok-slot.ensures.some in
    let there : slice_get c.self.inside.slots.items c.in_ok-slot.slot ≡ Some None =
    got c.self.inside.slots.items c.in_ok-slot.slot c.index.result.now here.0 c.index.ensures ∙ ap Some c.in-None.is in
    subst (λ (s : Appends). place_in s.unfinished c.args.number ≡ None) c.self.view_is
    (absent_empty c.self.inside.first c.args.number c.in_ok-slot.slot c.self.inside.slots.items c.self.invariant.numbered here.1 there)
