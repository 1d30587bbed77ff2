-- What a walk over an order has made, as far as it has come.
use Rattle.std.proofs.Common.{◌≡◌, ◌≤◌, ◌+◌, ℕ, zero, suc, List, [], ◌∷◌, ◌++◌, length, map, take, drop, Some, inl, inr, sym, ap, ◌∙◌, subst, arith}
use Rattle.std.specs.Prelude.{◌-◌, min, slice_get, slice_range}
use Rattle.std.specs.List.{range_with_len}
use Rattle.std.proofs.lemmas.Bool.{cases_lt}
use Rattle.std.proofs.lemmas.List.{length-drop, map-append, take_min}
use Rattle.std.proofs.lemmas.List.FromFn.{map-range_with_len_more}
use Rattle.std.proofs.Common.{append_assoc}
use Rattle.rec_id.specs.Identity.{Identity}
use Rattle.rec_id.specs.declared.item.Cell.{Cell}
use Rattle.lazy_rules.specs.WorldRules.{ids_in}
use Rattle.lazy_core.proofs.Lines.{take_one}

module _ {A : Type 0} where
  behind : (xs : List A) (n i : ℕ) (x : A) → n ≤ i → slice_get xs i ≡ Some x → slice_get (drop n xs) (i - n) ≡ Some x
  behind xs zero i x least h = subst (λ (j : ℕ). slice_get xs j ≡ Some x) (let e : i ≡ i - 0 = omega arith in e) h
  behind [] (suc n) i x least h = h
  behind (y ∷ xs) (suc n) zero x least h = absurd (omega arith)
  behind (y ∷ xs) (suc n) (suc i) x least h =
      subst (λ (j : ℕ). slice_get (drop n xs) j ≡ Some x) (let e : i - n ≡ suc i - suc n = omega arith in e) (behind xs n i x (omega arith) h)

  -- one member more of those from a place on
  cut_more : (xs : List A) (from place : ℕ) (x : A) → from ≤ place → slice_get xs place ≡ Some x → take ((place + 1) - from) (drop from xs) ≡ take (place - from) (drop from xs) ++ x ∷ []
  cut_more xs from place x least h =
      ap (λ (n : ℕ). take n (drop from xs)) (let e : (place + 1) - from ≡ (place - from) + 1 = omega arith in e)
      ∙ take_one (drop from xs) (place - from) x (behind xs from place x least h)

  -- as far as the list goes
  cut_whole : (xs : List A) (from to place end : ℕ) → end ≡ min to (length xs) → end ≤ place → (from ≤ end → place ≤ end) → (end ≤ from → place ≡ from) → take (place - from) (drop from xs) ≡ take (to - from) (drop from xs)
  cut_whole xs from to place end is past within far =
      let left : length (drop from xs) ≡ length xs - from = length-drop from xs in
      let same : place - from ≡ min (to - from) (length (drop from xs)) = elim (cases_lt end from) [
        | inl none ↦ let at : place ≡ from = far (omega arith) in omega arith
        | inr there ↦ let least = within there in let at : place ≡ end = omega arith in omega arith
      ] in
      ap (λ (n : ℕ). take n (drop from xs)) same ∙ take_min (to - from) (drop from xs)

  -- one member more of those that are made by a rule
  pub made_more : (f : ℕ → A) (before made : List A) (n : ℕ) (x : A) → made ≡ before ++ map f (range_with_len 0 n) → x ≡ f n → made ++ x ∷ [] ≡ before ++ map f (range_with_len 0 (n + 1))
  made_more f before made n x so_far is =
      ap (λ (l : List A). l ++ x ∷ []) so_far
      ∙ append_assoc before (map f (range_with_len 0 n)) (x ∷ [])
      ∙ ap (λ (y : A). before ++ (map f (range_with_len 0 n) ++ y ∷ [])) is
      ∙ ap (λ (l : List A). before ++ l) (sym (map-range_with_len_more f 0 n n (omega arith)))

module _ (cells : List Cell) (from : ℕ) where
  pub ids_more : (place : ℕ) (cell : Cell) (ids : List Identity) → from ≤ place → slice_get cells place ≡ Some cell → ids ≡ ids_in (take (place - from) (drop from cells)) → ids ++ cell.id ∷ [] ≡ ids_in (take ((place + 1) - from) (drop from cells))
  ids_more place cell ids least here so_far =
      ap (λ (l : List Identity). l ++ cell.id ∷ []) so_far
      ∙ sym (map-append (λ (c : Cell). c.id) (take (place - from) (drop from cells)) (cell ∷ []))
      ∙ ap ids_in (sym (cut_more cells from place cell least here))

  pub ids_whole : (to place end : ℕ) (ids : List Identity) → end ≡ min to (length cells) → end ≤ place → (from ≤ end → place ≤ end) → (end ≤ from → place ≡ from) → ids ≡ ids_in (take (place - from) (drop from cells)) → ids ≡ ids_in (slice_range cells from to)
  ids_whole to place end ids is past within far so_far = so_far ∙ ap ids_in (cut_whole cells from to place end is past within far)
