-- Members by their places.
use Rattle.std.proofs.lemmas.Bool.{cond-false, le-ltb}
use Rattle.std.specs.List.{position, position_or_len}
use Rattle.std.proofs.Common.{◌≡◌, ℕ, zero, suc, ◌<◌, Some, List, [], ◌∷◌, length, slice_get, inl, inr, refl, ap, arith, ◌≢◌, ◌⊎◌, Bool, false, ltb, None}
use Rattle.std.specs.Prelude.{slice_set}
use Rattle.list_facts.specs.Lists.{In, Each}
use Rattle.list_facts.proofs.Members.{each_in}

module _ {A : Type 0} where
  pub in_at : (xs : List A) (i : ℕ) (x : A) → slice_get xs i ≡ Some x → In x xs
  in_at [] i x h = cc
  in_at (z ∷ zs) zero x h = inl cc
  in_at (z ∷ zs) (suc i) x h = inr (in_at zs i x h)

  pub at_in : (xs : List A) (x : A) → In x xs → (i : ℕ) × (slice_get xs i ≡ Some x)
  at_in [] x h = absurd h
  at_in (z ∷ zs) x (inl e) = (0, ap Some e)
  at_in (z ∷ zs) x (inr h) = let k = at_in zs x h in (suc k.0, k.1)

  pub each_at : (P : A → Type 0) (xs : List A) → Each P xs → (i : ℕ) (x : A) → slice_get xs i ≡ Some x → P x
  each_at P xs h i x e = each_in P xs h x (in_at xs i x e)

  pub below_at : (xs : List A) (i : ℕ) → i < length xs → (x : A) × (slice_get xs i ≡ Some x)
  below_at [] i lt = absurd (omega arith)
  below_at (z ∷ zs) zero lt = (z, refl)
  below_at (z ∷ zs) (suc i) lt = below_at zs i (omega arith)

  -- the member at a place of a list with another member at one place
  pub at_set_cases : (xs : List A) (i : ℕ) (y : A) (j : ℕ) (x : A) → slice_get (slice_set xs i y) j ≡ Some x → ((j ≡ i) × (x ≡ y)) ⊎ ((j ≢ i) × (slice_get xs j ≡ Some x))
  at_set_cases [] i y j x h = cc
  at_set_cases (z ∷ zs) zero y zero x h = inl (refl, cc)
  at_set_cases (z ∷ zs) zero y (suc j) x h = inr (omega arith, h)
  at_set_cases (z ∷ zs) (suc i) y zero x h = inr (omega arith, h)
  at_set_cases (z ∷ zs) (suc i) y (suc j) x h = elim (at_set_cases zs i y j x h) [
    | inl k ↦ inl (ap suc k.0, k.1)
    | inr k ↦ let apart = k.0 in inr (omega arith, k.1)
  ]

  -- where no member passes there is no first one
  none_passes : (p : A → Bool) (xs : List A) → Each (λ x. p x ≡ false) xs → position_or_len p xs ≡ length xs
  none_passes p [] h = refl
  none_passes p (z ∷ zs) h = rw h.0 (let later = none_passes p zs h.1 in omega arith)

  pub position_none : (p : A → Bool) (xs : List A) → Each (λ x. p x ≡ false) xs → position p xs ≡ None
  position_none p xs h = let all = none_passes p xs h in cond-false (ltb (position_or_len p xs) (length xs)) (Some (position_or_len p xs)) None (le-ltb (position_or_len p xs) (length xs) (omega arith))
