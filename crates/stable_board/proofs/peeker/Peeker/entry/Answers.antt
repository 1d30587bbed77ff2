use Rattle.std.proofs.Common.{rules, ◌≡◌, ◌<◌, ◌+◌, ◌-◌, ℕ, refl, sym, ◌∙◌, subst, arith, Some}
use mathlib.Core.Option.{none}
use Rattle.atomic_table.specs.Table.{step}
use Rattle.list_facts.specs.Lists.{In}
use Rattle.stable_board.specs.Claims.{identity_in}
use Rattle.stable_board.specs.Ends.{PeekerEnd, last_claim, peeker_of}
use Rattle.stable_board.specs.Told.{Agrees}
use Rattle.stable_board.proofs.Packing.{packed_identity}
use Rattle.stable_board.proofs.Turns.{notes_as}
use Rattle.stable_board.proofs.Telling.{told_note, last_seen}
use Rattle.stable_board.proofs.peeker.Peeker.entry.Goals as goal

pub load-word-requires : goal.load-word-requires
load-word-requires c =
    let i = c.self.invariant in
    let seen = (peeker_of c.self.inside.seat.table_id c.self.inside.seat.me.0).saw.claims in
    let place : ℕ = c.args.place in
    let below : place < (last_claim seen).stable = subst (λ (end : PeekerEnd). place < (last_claim end.saw.claims).stable) (sym c.self.view_is) c.requires in
    let at : In (last_claim seen) seen = last_seen seen place below in
    let words : c.deref.result.now.shared.table_id.words ≡ 65537 = search rules in
    (search rules, subst (λ (n : ℕ). place + 1 < n) (sym words) (omega (arith, below, i.1)), notes_as _ _ _ place _ _ (step 0 (place + 1) 0 0 none) (last_claim seen) i.0.view_is refl below at)

pub unreachable-requires : goal.unreachable-requires
unreachable-requires c =
    let told = told_note _ _ _ _ _ _ c.self.invariant.0.view_is c.load-word.ensures.2.1 in
    c.in-None.ensures.none (identity_in c.load-word.result) told.1.valid (packed_identity c.load-word.result)

pub returns-clause-same : goal.returns-clause-same
returns-clause-same c =
    let told = told_note _ _ _ _ _ _ c.self.invariant.0.view_is c.load-word.ensures.2.1 in
    let found : ℕ = c.load-word.result in
    let notes = (peeker_of c.self.inside.seat.table_id c.self.inside.seat.me.0).saw.notes in
    let place : ℕ = c.args.place in
    let back : place + 1 - 1 ≡ place = omega arith in
    let is : Some (identity_in found) ≡ Some c.in-Some.id = sym (c.unpack.ensures.only (identity_in found) told.1.valid (packed_identity found)) ∙ c.in-Some.is in
    let same : identity_in found ≡ c.in-Some.id = cc in
    let agrees : Agrees notes place (identity_in found) = subst (λ (k : ℕ). Agrees notes k (identity_in found)) back told.1.agrees in
    subst (λ (end : PeekerEnd). Agrees end.saw.notes place c.in-Some.id) c.self.view_is (subst (Agrees notes place) same agrees)
