-- The first place that passes a test, in a list with one member more before the others.
use Rattle.std.proofs.Common.{◌≡◌, ℕ, suc, ◌+◌, ◌<◌, List, ◌∷◌, Bool, true, false, not, cond, ltb, Some, None, length, sym, ap, ◌∙◌, arith}
use Rattle.std.specs.List.{position, position_or_len}
use Rattle.std.proofs.lemmas.Bool.{lt-ltb, cond-true}
use Rattle.list_facts.proofs.Positions.{position_some}

module _ {X : Type 0} (p : X → Bool) (x : X) (xs : List X) where
  found : (i : ℕ) → position_or_len p (x ∷ xs) ≡ i → i < length (x ∷ xs) → position p (x ∷ xs) ≡ Some i
  found i here inside =
      cond-true (ltb (position_or_len p (x ∷ xs)) (length (x ∷ xs))) (Some (position_or_len p (x ∷ xs))) None
      (lt-ltb (position_or_len p (x ∷ xs)) (length (x ∷ xs)) (omega arith))
      ∙ ap Some here

  pub found_here : p x ≡ true → position p (x ∷ xs) ≡ Some 0
  found_here passes =
      found 0 (ap (λ (b : Bool). cond (not b) (1 + position_or_len p xs) 0) passes) (omega arith)

  pub found_behind : (i : ℕ) → p x ≡ false → position p xs ≡ Some i → position p (x ∷ xs) ≡ Some (suc i)
  found_behind i fails is =
      let facts = position_some p xs i (sym is) in
      let inside : position_or_len p xs < length xs = facts.0 in
      let place : i ≡ position_or_len p xs = facts.1 in
      let here : position_or_len p (x ∷ xs) ≡ 1 + position_or_len p xs =
      ap (λ (b : Bool). cond (not b) (1 + position_or_len p xs) 0) fails in
      found (suc i) (omega arith) (omega arith)
