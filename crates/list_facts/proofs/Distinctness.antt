-- Lists in which no member stands twice.
use Rattle.std.proofs.Common.{◌≡◌, ℕ, zero, suc, Some, List, [], ◌∷◌, ◌++◌, slice_get, inl, inr, refl, sym, ap, subst}
use Rattle.list_facts.specs.Lists.{In, Distinct}
use Rattle.list_facts.proofs.Members.{in_cases}
use Rattle.list_facts.proofs.Places.{in_at}

module _ {A : Type 0} where
  pub distinct_append : (xs ys : List A) → Distinct xs → Distinct ys → ((x : A) → In x xs → In x ys → ⊥) → Distinct (xs ++ ys)
  distinct_append [] ys h k apart = k
  distinct_append (z ∷ zs) ys h k apart = (
    λ twice. elim (in_cases z zs ys twice) [ inl m ↦ absurd (h.0 m) | inr m ↦ absurd (apart z (inl refl) m) ],
    distinct_append zs ys h.1 k (λ x m n. apart x (inr m) n),
  )

  -- one member more, which was not there
  pub distinct_more : (x : A) (xs : List A) → Distinct xs → ¬ In x xs → Distinct (xs ++ x ∷ [])
  distinct_more x xs h absent = distinct_append xs (x ∷ []) h (λ none. none, tt) (λ y m n. elim n [ inl e ↦ absurd (absent (subst (λ w. In w xs) (sym e) m)) | inr none ↦ absurd none ])

  -- a member has one place
  pub distinct_place : (xs : List A) → Distinct xs → (i j : ℕ) (x : A) → slice_get xs i ≡ Some x → slice_get xs j ≡ Some x → i ≡ j
  distinct_place [] h i j x e f = cc
  distinct_place (z ∷ zs) h zero zero x e f = refl
  distinct_place (z ∷ zs) h zero (suc j) x e f = absurd (h.0 (subst (λ w. In w zs) (let g : Some z ≡ Some x = e in cc) (in_at zs j x f)))
  distinct_place (z ∷ zs) h (suc i) zero x e f = absurd (h.0 (subst (λ w. In w zs) (let g : Some z ≡ Some x = f in cc) (in_at zs i x e)))
  distinct_place (z ∷ zs) h (suc i) (suc j) x e f = ap suc (distinct_place zs h.1 i j x e f)
