-- How many digits are 1 fits 64 bits, since a word has at most 64.
use Rattle.std.proofs.Common.{◌≡◌, ℕ, suc, ◌+◌, ◌*◌, ◌<◌, ◌≤◌, ◌^◌, List, [], ◌∷◌, length, get_or, take, w64, Fits, arith}
use Rattle.std.specs.Prelude.{sum_by, count_ones}
use Rattle.std.proofs.lemmas.List.Sums.{sum_by-cons, sum_by_more_le}
use Rattle.std.proofs.lemmas.Nat.{ones-le}

bounded : (xs : List ℕ) → ((i : ℕ) → Fits w64 (get_or xs i 0)) → sum_by count_ones xs ≤ 64 * length xs
bounded [] fits = omega arith
bounded (x ∷ xs) fits =
    omega (arith, sum_by-cons count_ones x xs, ones-le 64 x (fits 0).fits, bounded xs (λ i. fits (suc i)))

pub one_fits : (xs : List ℕ) → ((i : ℕ) → Fits w64 (get_or xs i 0)) → length xs < 2 ^ 32
    → (i total : ℕ) → i < length xs → total ≡ sum_by count_ones (take i xs) → Fits w64 (total + count_ones (get_or xs i 0))
one_fits xs fits short i total inside so_far =
    record { fits = omega (arith, so_far, sum_by_more_le count_ones xs i 0 inside, bounded xs fits) }
