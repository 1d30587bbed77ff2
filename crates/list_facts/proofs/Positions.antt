-- The first place that passes a test.
use Rattle.std.proofs.Common.{◌≡◌, ℕ, zero, suc, ◌+◌, ◌<◌, ◌≤◌, List, [], ◌∷◌, Bool, true, false, not, cond, ◌||◌, ltb, Some, None, length, take, inl, inr, sym, ap, ◌∙◌, refl, arith}
use Rattle.std.specs.Prelude.{is_some}
use Rattle.std.specs.List.{position, position_or_len, list_any}
use Rattle.std.proofs.lemmas.Bool.{cases_lt, lt-ltb, le-ltb, cond-true, cond-false, or_parts}

module _ {X : Type 0} (p : X → Bool) (xs : List X) where
  pub position_some : (i : ℕ) → Some i ≡ position p xs → (position_or_len p xs < length xs) × (i ≡ position_or_len p xs)
  position_some i found = elim (cases_lt (position_or_len p xs) (length xs)) [
    | inl inside ↦
        let some : position p xs ≡ Some (position_or_len p xs) = cond-true (ltb (position_or_len p xs) (length xs)) (Some (position_or_len p xs)) None (lt-ltb _ _ inside) in
        let is : Some i ≡ Some (position_or_len p xs) = found ∙ some in
        let same : i ≡ position_or_len p xs = cc in
        (inside, same)
    | inr past ↦
        let none : position p xs ≡ None = cond-false (ltb (position_or_len p xs) (length xs)) (Some (position_or_len p xs)) None (le-ltb _ _ past) in
        let wrong : Some i ≡ None = found ∙ none in
        absurd cc
  ]

  pub position_past : None ≡ position p xs → length xs ≤ position_or_len p xs
  position_past missing = elim (cases_lt (position_or_len p xs) (length xs)) [
    | inl inside ↦
        let some : position p xs ≡ Some (position_or_len p xs) = cond-true (ltb (position_or_len p xs) (length xs)) (Some (position_or_len p xs)) None (lt-ltb _ _ inside) in
        let wrong : None ≡ Some (position_or_len p xs) = missing ∙ some in
        absurd cc
    | inr past ↦ past
  ]

pub any_first : {X : Type 0} (p : X → Bool) (xs : List X) → list_any p xs ≡ ltb (position_or_len p xs) (length xs)
any_first p [] = refl
any_first p (x ∷ xs) = by_test (p x) (any_first p xs)
  where
    by_test : (b : Bool) → list_any p xs ≡ ltb (position_or_len p xs) (length xs)
        → (b || list_any p xs) ≡ ltb (cond (not b) (1 + position_or_len p xs) 0) (suc (length xs))
    by_test true rest = sym (lt-ltb 0 (suc (length xs)) (omega arith))
    by_test false rest = rest ∙ elim (cases_lt (position_or_len p xs) (length xs)) [
      | inl inside ↦ lt-ltb (position_or_len p xs) (length xs) inside ∙ sym (lt-ltb (1 + position_or_len p xs) (suc (length xs)) (omega arith))
      | inr past ↦ le-ltb (position_or_len p xs) (length xs) past ∙ sym (le-ltb (1 + position_or_len p xs) (suc (length xs)) (omega arith))
    ]

some_if : (b : Bool) (n : ℕ) → is_some (cond b (Some n) None) ≡ b
some_if true n = refl
some_if false n = refl

pub position_any : {X : Type 0} (p : X → Bool) (xs : List X) → is_some (position p xs) ≡ list_any p xs
position_any p xs = some_if (ltb (position_or_len p xs) (length xs)) (position_or_len p xs) ∙ sym (any_first p xs)

pub none_passes : {X : Type 0} (p : X → Bool) (xs : List X) → None ≡ position p xs → list_any p xs ≡ false
none_passes p xs missing = any_first p xs ∙ le-ltb _ _ (position_past p xs missing)

-- ---- what stands below a place
any_take : {X : Type 0} (p : X → Bool) (n : ℕ) (xs : List X) → position_or_len p xs < length xs → list_any p (take n xs) ≡ ltb (position_or_len p xs) n
any_take p n [] inside = absurd (omega arith)
any_take p zero (x ∷ xs) inside = sym (le-ltb (position_or_len p (x ∷ xs)) 0 (omega arith))
any_take p (suc n) (x ∷ xs) inside = by_test (p x) (any_take p n xs) inside
  where
    by_test : (b : Bool) → (position_or_len p xs < length xs → list_any p (take n xs) ≡ ltb (position_or_len p xs) n)
        → cond (not b) (1 + position_or_len p xs) 0 < suc (length xs) → (b || list_any p (take n xs)) ≡ ltb (cond (not b) (1 + position_or_len p xs) 0) (suc n)
    by_test true rest inside = sym (lt-ltb 0 (suc n) (omega arith))
    by_test false rest inside = rest (omega arith) ∙ elim (cases_lt (position_or_len p xs) n) [
      | inl early ↦ lt-ltb (position_or_len p xs) n early ∙ sym (lt-ltb (1 + position_or_len p xs) (suc n) (omega arith))
      | inr late ↦ le-ltb (position_or_len p xs) n late ∙ sym (le-ltb (1 + position_or_len p xs) (suc n) (omega arith))
    ]

pub below_some : {X : Type 0} (p : X → Bool) (n : ℕ) (xs : List X) (i : ℕ) → Some i ≡ position p xs → ltb i n ≡ list_any p (take n xs)
below_some p n xs i found =
    let facts = position_some p xs i found in
    ap (λ (k : ℕ). ltb k n) facts.1 ∙ sym (any_take p n xs facts.0)

none_below : {X : Type 0} (p : X → Bool) (n : ℕ) (xs : List X) → list_any p xs ≡ false → list_any p (take n xs) ≡ false
none_below p zero xs none = refl
none_below p (suc n) [] none = refl
none_below p (suc n) (x ∷ xs) none =
    let parts = or_parts (p x) (list_any p xs) none in
    rw parts.0 (none_below p n xs parts.1)

pub below_none : {X : Type 0} (p : X → Bool) (n : ℕ) (xs : List X) → None ≡ position p xs → false ≡ list_any p (take n xs)
below_none p n xs missing = sym (none_below p n xs (none_passes p xs missing))
