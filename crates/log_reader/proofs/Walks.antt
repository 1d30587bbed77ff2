-- What is made of a list as far as a walk has come, and one member more.
use Rattle.std.proofs.Common.{◌≡◌, ℕ, zero, suc, ◌+◌, ◌<◌, List, [], ◌∷◌, ◌++◌, Some, length, set, take, refl, sym, ap, ◌∙◌, append_assoc, arith}
use Rattle.std.specs.Prelude.{slice_get}
use Rattle.std.specs.List.{flat_map}
use Rattle.std.proofs.lemmas.List.{append-nil, length-take-le, take_more}
use Rattle.std.proofs.lemmas.List.Concat.{flat_map-append}
use Rattle.std.proofs.lemmas.Option.{get_or_from_slice_get, slice_get_within}
use Rattle.lazy_rules.specs.Rows.{each_numbered}

pub take_one : {A : Type 0} (xs : List A) (k : ℕ) (x : A) → slice_get xs k ≡ Some x → take (k + 1) xs ≡ take k xs ++ x ∷ []
take_one xs k x is =
    take_more xs k x (slice_get_within xs k x is) ∙ ap (λ y. take k xs ++ y ∷ []) (get_or_from_slice_get xs k x x is)

pub flat_map_one : {A B : Type 0} (f : A → List B) (xs : List A) (k : ℕ) (x : A) → slice_get xs k ≡ Some x → flat_map f (take (k + 1) xs) ≡ flat_map f (take k xs) ++ f x
flat_map_one f xs k x is =
    ap (flat_map f) (take_one xs k x is) ∙ flat_map-append f (take k xs) (x ∷ []) ∙ ap (λ l. flat_map f (take k xs) ++ l) (append-nil (f x))

numbered_append : {A B : Type 0} (f : ℕ → A → List B) (i : ℕ) (xs : List A) (x : A) → each_numbered f i (xs ++ x ∷ []) ≡ each_numbered f i xs ++ f (i + length xs) x
numbered_append f i [] x = append-nil (f i x) ∙ ap (λ (j : ℕ). f j x) (omega arith)
numbered_append f i (y ∷ xs) x =
    ap (λ l. f i y ++ l) (numbered_append f (i + 1) xs x ∙ ap (λ (j : ℕ). each_numbered f (i + 1) xs ++ f j x) (omega arith))
    ∙ sym (append_assoc (f i y) (each_numbered f (i + 1) xs) (f (i + length (y ∷ xs)) x))

pub numbered_one : {A B : Type 0} (f : ℕ → A → List B) (xs : List A) (k : ℕ) (x : A) → slice_get xs k ≡ Some x → each_numbered f 0 (take (k + 1) xs) ≡ each_numbered f 0 (take k xs) ++ f k x
numbered_one f xs k x is =
    ap (each_numbered f 0) (take_one xs k x is) ∙ numbered_append f 0 (take k xs) x
    ∙ ap (λ (j : ℕ). each_numbered f 0 (take k xs) ++ f j x) (length_of_take xs k x is)
  where
    length_of_take : {A : Type 0} (xs : List A) (k : ℕ) (x : A) → slice_get xs k ≡ Some x → 0 + length (take k xs) ≡ k
    length_of_take xs k x is =
        let inside : k < length xs = slice_get_within xs k x is in
        omega (arith, length-take-le k xs (omega arith))

pub slice_get_other : {A : Type 0} (xs : List A) (i k : ℕ) (y : A) → i < k → slice_get (set xs i y) k ≡ slice_get xs k
slice_get_other [] i k y less = refl
slice_get_other (x ∷ xs) zero zero y less = absurd (omega arith)
slice_get_other (x ∷ xs) zero (suc k) y less = refl
slice_get_other (x ∷ xs) (suc i) zero y less = absurd (omega arith)
slice_get_other (x ∷ xs) (suc i) (suc k) y less = slice_get_other xs i k y (omega arith)
