-- Numbers that events tell, by their places.
use Rattle.std.proofs.Common.{◌≡◌, ℕ, zero, suc, List, [], ◌∷◌, map, Option, Some, None, refl, ap}
use Rattle.std.specs.Prelude.{slice_index, unwrap_or}
use Rattle.rec_id.specs.History.{told_at}

module _ {A : Type 0} (f : A → Option ℕ) where
  pub number_at : (xs : List A) (i n : ℕ) → told_at f xs i ≡ Some n → slice_index (map (λ (x : A). unwrap_or (f x) 0) xs) i ≡ n
  number_at [] i n h = cc
  number_at (x ∷ xs) zero n h = ap (λ (o : Option ℕ). unwrap_or o 0) h
  number_at (x ∷ xs) (suc i) n h = number_at xs i n h

  pub number_none : (xs : List A) (i : ℕ) → told_at f xs i ≡ None → slice_index (map (λ (x : A). unwrap_or (f x) 0) xs) i ≡ 0
  number_none [] i h = refl
  number_none (x ∷ xs) zero h = ap (λ (o : Option ℕ). unwrap_or o 0) h
  number_none (x ∷ xs) (suc i) h = number_none xs i h

pub some_cases : {A P : Type 0} (o : Option A) → (o ≡ None → P) → ((x : A) → o ≡ Some x → P) → P
some_cases None f g = f refl
some_cases (Some x) f g = g x refl
