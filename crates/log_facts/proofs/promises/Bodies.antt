-- Cells with one sign have bodies that agree, since the bytes of a record are those of its one Invoke.
use Rattle.std.proofs.Common.{◌≡◌, ℕ, List, Option, Some, None, slice_get, inl, inr, refl, sym, ap, ◌∙◌, subst, arith}
use Rattle.std.proofs.lemmas.Bool.{cases_lt}
use Rattle.list_facts.specs.Lists.{In}
use Rattle.list_facts.proofs.Places.{at_in}
use Rattle.list_facts.proofs.Precedence.{precedes_at}
use Rattle.rec_id.specs.Identity.{Identity}
use Rattle.rec_id.specs.History.{invoked_id}
use Rattle.rec_id.specs.declared.event.Event.{Event}
use Rattle.rec_id.specs.declared.event.Event.TheVariants.{Invoke}
use Rattle.rec_id.specs.declared.item.Body.{Body}
use Rattle.rec_id.specs.declared.item.Body.TheVariants.{Elsewhere, Kept, Noop, Open, Gone}
use Rattle.rec_id.specs.declared.item.Cell.{Cell}
use Rattle.log_facts.specs.Handed.{BodyBegun, CellBegun}
use Rattle.log_facts.specs.Promises.{BodiesAgree}
use Rattle.log_facts.specs.Signs.{Sign, Sort, sign_of, sort_of}
use Rattle.log_facts.specs.facts.OfHistory.{ToldOnce}

-- one append has one Invoke
pub one_invoke : (history : List Event) → ToldOnce invoked_id history → (id : Identity) (xs ys : List ℕ) → In (Invoke id xs) history → In (Invoke id ys) history → xs ≡ ys
one_invoke history once id xs ys h k =
    let first = at_in history (Invoke id xs) h in
    let second = at_in history (Invoke id ys) k in
    elim (cases_lt first.0 second.0) [
      | inl lt ↦ absurd (once id (Invoke id xs) (Invoke id ys) refl refl (precedes_at history first.0 second.0 (Invoke id xs) (Invoke id ys) lt first.1 second.1))
      | inr le ↦ elim (cases_lt second.0 first.0) [
        | inl lt ↦ absurd (once id (Invoke id ys) (Invoke id xs) refl refl (precedes_at history second.0 first.0 (Invoke id ys) (Invoke id xs) lt second.1 first.1))
        | inr ge ↦
            let same : first.0 ≡ second.0 = omega arith in
            let both : Some (Invoke id xs) ≡ Some (Invoke id ys) = sym first.1 ∙ ap (slice_get history) same ∙ second.1 in
            cc
      ]
    ]

module _ (history : List Event) (once : ToldOnce invoked_id history) (id : Identity) where
  bodies_agree : (one other : Body) → sort_of one ≡ sort_of other → BodyBegun history id one → BodyBegun history id other → BodiesAgree one other
  bodies_agree Elsewhere Elsewhere e f g = tt
  bodies_agree Elsewhere (Kept others) e f g = cc
  bodies_agree Elsewhere Noop e f g = cc
  bodies_agree Elsewhere Open e f g = cc
  bodies_agree Elsewhere Gone e f g = cc
  bodies_agree (Kept bytes) Elsewhere e f g = cc
  bodies_agree (Kept bytes) (Kept others) e f g = one_invoke history once id bytes others f g
  bodies_agree (Kept bytes) Noop e f g = cc
  bodies_agree (Kept bytes) Open e f g = cc
  bodies_agree (Kept bytes) Gone e f g = tt
  bodies_agree Noop Elsewhere e f g = cc
  bodies_agree Noop (Kept others) e f g = cc
  bodies_agree Noop Noop e f g = tt
  bodies_agree Noop Open e f g = cc
  bodies_agree Noop Gone e f g = cc
  bodies_agree Open Elsewhere e f g = cc
  bodies_agree Open (Kept others) e f g = cc
  bodies_agree Open Noop e f g = cc
  bodies_agree Open Open e f g = tt
  bodies_agree Open Gone e f g = cc
  bodies_agree Gone Elsewhere e f g = cc
  bodies_agree Gone (Kept others) e f g = tt
  bodies_agree Gone Noop e f g = cc
  bodies_agree Gone Open e f g = cc
  bodies_agree Gone Gone e f g = tt

abbrev sort_in : Sort → Option Sign → Sort
sort_in d None = d
sort_in d (Some sign) = sign.sort

abbrev id_in : Identity → Option Sign → Identity
id_in d None = d
id_in d (Some sign) = sign.id

-- cells with one sign
pub cells_agree : (history : List Event) → ToldOnce invoked_id history → (one other : Cell) → Some (sign_of one) ≡ Some (sign_of other) → CellBegun history one → CellBegun history other → BodiesAgree one.body other.body
cells_agree history once one other same f g =
    let sorts : sort_of one.body ≡ sort_of other.body = ap (λ (o : Option Sign). sort_in (sort_of one.body) o) same in
    let ids : one.id ≡ other.id = ap (λ (o : Option Sign). id_in one.id o) same in
    bodies_agree history once other.id one.body other.body sorts (subst (λ (x : Identity). BodyBegun history x one.body) ids f) g
