-- Before, as a relation on lists and as an order of places.
use Rattle.std.proofs.Common.{◌≡◌, ◌⊎◌, ℕ, zero, suc, ◌<◌, Some, List, [], ◌∷◌, ◌++◌, slice_get, inl, inr, ap, arith}
use Rattle.list_facts.specs.Lists.{In, Precedes}
use Rattle.list_facts.proofs.Members.{in_left, in_right, in_cases}
use Rattle.list_facts.proofs.Places.{in_at, at_in}

-- two places of a list, the first of which comes first
pub record InOrder {A : Type 0} (x y : A) (xs : List A) : Type 0 where
  pub first : ℕ
  pub second : ℕ
  pub before : first < second
  pub has_x : slice_get xs first ≡ Some x
  pub has_y : slice_get xs second ≡ Some y

module _ {A : Type 0} where
  pub precedes_at : (xs : List A) (i j : ℕ) (x y : A) → i < j → slice_get xs i ≡ Some x → slice_get xs j ≡ Some y → Precedes x y xs
  precedes_at [] i j x y lt f g = cc
  precedes_at (z ∷ zs) i zero x y lt f g = absurd (omega arith)
  precedes_at (z ∷ zs) zero (suc j) x y lt f g = inl (cc, in_at zs j y g)
  precedes_at (z ∷ zs) (suc i) (suc j) x y lt f g = inr (precedes_at zs i j x y (omega arith) f g)

  pub at_precedes : (xs : List A) (x y : A) → Precedes x y xs → InOrder x y xs
  at_precedes [] x y h = absurd h
  at_precedes (z ∷ zs) x y (inl h) =
      let k = at_in zs y h.1 in record { first = 0; second = suc k.0; before = omega arith; has_x = ap Some h.0; has_y = k.1 }
  at_precedes (z ∷ zs) x y (inr h) =
      let k = at_precedes zs x y h in
      let lt = k.before in
      record { first = suc k.first; second = suc k.second; before = omega arith; has_x = k.has_x; has_y = k.has_y }

  pub precedes_left : (x y : A) (xs ys : List A) → Precedes x y xs → Precedes x y (xs ++ ys)
  precedes_left x y [] ys h = absurd h
  precedes_left x y (z ∷ zs) ys (inl h) = inl (h.0, in_left y zs ys h.1)
  precedes_left x y (z ∷ zs) ys (inr h) = inr (precedes_left x y zs ys h)

  -- the first in the one list and the second in the list behind it
  pub precedes_across : (x y : A) (xs ys : List A) → In x xs → In y ys → Precedes x y (xs ++ ys)
  precedes_across x y [] ys h k = absurd h
  precedes_across x y (z ∷ zs) ys (inl e) k = inl (e, in_right y zs ys k)
  precedes_across x y (z ∷ zs) ys (inr h) k = inr (precedes_across x y zs ys h k)

  pub precedes_cases : (x y : A) (xs ys : List A) → Precedes x y (xs ++ ys) → Precedes x y xs ⊎ ((In x xs × In y ys) ⊎ Precedes x y ys)
  precedes_cases x y [] ys h = inr (inr h)
  precedes_cases x y (z ∷ zs) ys (inl h) = elim (in_cases y zs ys h.1) [ inl k ↦ inl (inl (h.0, k)) | inr k ↦ inr (inl (inl h.0, k)) ]
  precedes_cases x y (z ∷ zs) ys (inr h) = elim (precedes_cases x y zs ys h) [
    | inl k ↦ inl (inr k)
    | inr k ↦ elim k [ inl m ↦ inr (inl (inr m.0, m.1)) | inr m ↦ inr (inr m) ]
  ]

  -- in a list with one member more, it is the last that comes behind the others
  pub precedes_more : (x y z : A) (xs : List A) → Precedes x y (xs ++ z ∷ []) → Precedes x y xs ⊎ (In x xs × (z ≡ y))
  precedes_more x y z xs h = elim (precedes_cases x y xs (z ∷ []) h) [
    | inl k ↦ inl k
    | inr k ↦ elim k [
      | inl m ↦ elim m.1 [ inl e ↦ inr (m.0, e) | inr none ↦ absurd none ]
      | inr m ↦ elim m [ inl n ↦ absurd n.1 | inr none ↦ absurd none ]
    ]
  ]

  pub precedes_first : (x y : A) (xs : List A) → Precedes x y xs → In x xs
  precedes_first x y [] h = absurd h
  precedes_first x y (z ∷ zs) (inl h) = inl h.0
  precedes_first x y (z ∷ zs) (inr h) = inr (precedes_first x y zs h)
