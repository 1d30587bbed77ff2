-- How high and how low keys stand.
use Rattle.std.proofs.Common.{ℕ, ◌+◌, ◌-◌, ◌^◌, ◌<◌, ◌≤◌, List, length, Option, inl, inr, arith}
use Rattle.std.proofs.lemmas.Bool.{cases_lt}
use Rattle.log_law.specs.Keys.{IsNext}
use Rattle.log_law.specs.Places.{StandsUnder, IsLimit}
use Rattle.log_law.proofs.Indexing.{key_within}

module _ (keys : List (Option (ℕ × ℕ))) (key : ℕ × ℕ) (n : ℕ) (h : IsNext keys 0 key n) where
  not_below : (place : ℕ) → StandsUnder keys key place → n < place
  not_below place s = elim (cases_lt s.place n) [
    | inl lt ↦ absurd (h.none s.place (omega arith) lt s.stands)
    | inr ge ↦ let lt = s.below in omega arith
  ]

  pub limit_found : n < 2 ^ 64 - 1 → n < length keys → IsLimit keys key (n + 1)
  limit_found short lt = record {
    at_most = λ place s. (let k = not_below place s in omega arith);
    stands = λ _. record { place = n; below = omega arith; stands = h.stands lt };
    fits = omega arith;
  }

  pub limit_none : length keys ≤ n → IsLimit keys key (2 ^ 64 - 1)
  limit_none ge = record {
    at_most = λ place s. absurd (h.none s.place (omega arith) (let w = key_within keys s.place key s.stands in omega arith) s.stands);
    stands = λ lt. absurd (omega arith);
    fits = omega arith;
  }
