-- Which batches pass: those that follow the ordered ones, without a gap.
use Rattle.std.proofs.Common.{◌≡◌, ℕ, suc, ◌+◌, List, [], ◌∷◌, ◌++◌, Bool, true, false, cond, length, take, drop, inl, inr, sym, ap, ◌∙◌, refl, arith}
use Rattle.std.specs.List.{list_any}
use Rattle.std.proofs.lemmas.Bool.{cases_Bool, or_parts, not-true}
use Rattle.lazy_rules.specs.Flight.{Batch, has_all, now_ordering, passed, passing}
use Rattle.binder.specs.Sound.{are_ordered_first}

-- how many batches are ordered before the first that is being placed
abbrev pub ordered_count : List Batch → ℕ
ordered_count [] = 0
ordered_count (batch ∷ others) = cond batch.ordering (suc (ordered_count others)) 0

passing_first : (shards : ℕ) (xs : List Batch) → list_any (λ batch. batch.ordering) xs ≡ false
    → passed shards xs ≡ passing shards xs ++ drop (length (passing shards xs)) xs
passing_first shards [] none = refl
passing_first shards (x ∷ xs) none =
    let parts = or_parts x.ordering (list_any (λ batch. batch.ordering) xs) none in
    by_tests x.ordering (has_all shards x.placed) parts.0 (passing_first shards xs parts.1)
  where
    by_tests : (ordering all : Bool) → ordering ≡ false → passed shards xs ≡ passing shards xs ++ drop (length (passing shards xs)) xs
        → cond ordering (x ∷ passed shards xs) (cond all (now_ordering x ∷ passed shards xs) (x ∷ xs))
        ≡ cond ordering (passing shards xs) (cond all (now_ordering x ∷ passing shards xs) [])
        ++ drop (length (cond ordering (passing shards xs) (cond all (now_ordering x ∷ passing shards xs) []))) (x ∷ xs)
    by_tests true all is rest = let wrong : true ≡ false = is in cc
    by_tests false true is rest = ap (λ (l : List Batch). now_ordering x ∷ l) rest
    by_tests false false is rest = refl

pub passing_next : (shards : ℕ) (xs : List Batch) → are_ordered_first xs ≡ true
    → passed shards xs ≡ take (ordered_count xs) xs ++ (passing shards xs ++ drop (ordered_count xs + length (passing shards xs)) xs)
passing_next shards [] is = refl
passing_next shards (x ∷ xs) is = elim (cases_Bool x.ordering) [
  | inl ordered ↦
      let first : are_ordered_first xs ≡ true = rw ordered at is in
      let rest = passing_next shards xs first in
      let count : ordered_count (x ∷ xs) ≡ suc (ordered_count xs) = rw ordered refl in
      let more : suc (ordered_count xs) + length (passing shards xs) ≡ suc (ordered_count xs + length (passing shards xs)) = omega arith in
      let passed_is : passed shards (x ∷ xs) ≡ x ∷ passed shards xs = rw ordered refl in
      let passing_is : passing shards (x ∷ xs) ≡ passing shards xs = rw ordered refl in
      passed_is ∙ ap (λ (l : List Batch). x ∷ l) rest
      ∙ ap (λ (n : ℕ). take (suc (ordered_count xs)) (x ∷ xs) ++ (passing shards xs ++ drop n (x ∷ xs))) (sym more)
      ∙ ap (λ (n : ℕ). take n (x ∷ xs) ++ (passing shards xs ++ drop (n + length (passing shards xs)) (x ∷ xs))) (sym count)
      ∙ ap (λ (l : List Batch). take (ordered_count (x ∷ xs)) (x ∷ xs) ++ (l ++ drop (ordered_count (x ∷ xs) + length l) (x ∷ xs))) (sym passing_is)
  | inr placing ↦
      let none : list_any (λ batch. batch.ordering) xs ≡ false = not-true (list_any (λ batch. batch.ordering) xs) (rw placing at is) in
      let count : ordered_count (x ∷ xs) ≡ 0 = rw placing refl in
      let any : list_any (λ batch. batch.ordering) (x ∷ xs) ≡ false = rw placing none in
      let n : 0 + length (passing shards (x ∷ xs)) ≡ length (passing shards (x ∷ xs)) = omega arith in
      passing_first shards (x ∷ xs) any
      ∙ ap (λ (k : ℕ). passing shards (x ∷ xs) ++ drop k (x ∷ xs)) (sym n)
      ∙ ap (λ (k : ℕ). take k (x ∷ xs) ++ (passing shards (x ∷ xs) ++ drop (k + length (passing shards (x ∷ xs))) (x ∷ xs))) (sym count)
]
