-- Lists with another member at a place, or with a member less.
use Rattle.std.proofs.Common.{◌≡◌, ◌⊎◌, ℕ, zero, suc, Some, List, [], ◌∷◌, slice_get, inl, inr, refl, ap, subst}
use Rattle.std.specs.Prelude.{slice_set, remove}
use Rattle.list_facts.specs.Lists.{In, Each}

module _ {A : Type 0} where
  pub each_set : (P : A → Type 0) (xs : List A) (i : ℕ) (y : A) → Each P xs → P y → Each P (slice_set xs i y)
  each_set P [] i y h own = tt
  each_set P (z ∷ zs) zero y h own = (own, h.1)
  each_set P (z ∷ zs) (suc i) y h own = (h.0, each_set P zs i y h.1 own)

  -- what stands in the list stands in the changed one, or at the place itself
  pub in_set_cases : (xs : List A) (i : ℕ) (y x : A) → In x xs → In x (slice_set xs i y) ⊎ (slice_get xs i ≡ Some x)
  in_set_cases [] i y x h = absurd h
  in_set_cases (z ∷ zs) zero y x (inl e) = inr (ap Some e)
  in_set_cases (z ∷ zs) zero y x (inr h) = inl (inr h)
  in_set_cases (z ∷ zs) (suc i) y x (inl e) = inl (inl e)
  in_set_cases (z ∷ zs) (suc i) y x (inr h) = elim (in_set_cases zs i y x h) [ inl k ↦ inl (inr k) | inr k ↦ inr k ]

  pub in_set : (xs : List A) (i : ℕ) (y x : A) → slice_get xs i ≡ Some x → In y (slice_set xs i y)
  in_set [] i y x h = cc
  in_set (z ∷ zs) zero y x h = inl refl
  in_set (z ∷ zs) (suc i) y x h = inr (in_set zs i y x h)

  pub remove_none : (i : ℕ) → remove {X = A} [] i ≡ []
  remove_none zero = refl
  remove_none (suc i) = refl

  pub in_removed : (xs : List A) (i : ℕ) (x : A) → In x (remove xs i) → In x xs
  in_removed [] i x h = subst (λ (ys : List A). In x ys) (remove_none i) h
  in_removed (z ∷ zs) zero x h = inr h
  in_removed (z ∷ zs) (suc i) x (inl e) = inl e
  in_removed (z ∷ zs) (suc i) x (inr k) = inr (in_removed zs i x k)

  -- what stands in the list stands in it without the member at a place, or is that one
  pub in_remove_cases : (xs : List A) (i : ℕ) (x : A) → In x xs → In x (remove xs i) ⊎ (slice_get xs i ≡ Some x)
  in_remove_cases [] i x h = absurd h
  in_remove_cases (z ∷ zs) zero x (inl e) = inr (ap Some e)
  in_remove_cases (z ∷ zs) zero x (inr h) = inl h
  in_remove_cases (z ∷ zs) (suc i) x (inl e) = inl (inl e)
  in_remove_cases (z ∷ zs) (suc i) x (inr h) = elim (in_remove_cases zs i x h) [ inl k ↦ inl (inr k) | inr k ↦ inr k ]
