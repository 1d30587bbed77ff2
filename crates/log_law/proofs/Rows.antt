-- Rows of two lists of numbers, from the last place to the first.
use Rattle.std.proofs.Common.{◌≡◌, ℕ, ◌+◌, ◌-◌, ◌^◌, ◌<◌, ◌≤◌, List, length, inl, inr, refl, subst, sym, arith}
use Rattle.std.specs.Prelude.{slice_index}
use Rattle.std.proofs.lemmas.Bool.{cases_eq, cases_lt}
use Rattle.rec_id.specs.Verdict.{IsPairBefore}
use Rattle.log_law.specs.Pairs.{IsFirstBreach, IsAbove, IsFirstRow, IsTakenFrom, IsLeastFrom, IsFirstBelow}

pub least_init : (lows : List ℕ) → IsLeastFrom lows (length lows) (2 ^ 64 - 1)
least_init lows = record { at_most = λ j le lt. absurd (omega arith); taken = λ h. absurd (omega arith) }

taken_before : (lows : List ℕ) (i from n : ℕ) → i ≤ from → IsTakenFrom lows from n → IsTakenFrom lows i n
taken_before lows i from n le t = record { place = t.place; after = let a = t.after in omega arith; inside = t.inside; is = t.is }

pub least_keep : (lows : List ℕ) (i least : ℕ) → IsLeastFrom lows (i + 1) least → least ≤ slice_index lows i → IsLeastFrom lows i least
least_keep lows i least h le = record {
  at_most = λ j ge lt. elim (cases_eq i j) [ inl e ↦ subst (λ (k : ℕ). least ≤ slice_index lows k) e le | inr ne ↦ h.at_most j (omega arith) lt ];
  taken = λ k. taken_before lows i (i + 1) least (omega arith) (h.taken k);
}

pub least_take : (lows : List ℕ) (i least : ℕ) → i < length lows → IsLeastFrom lows (i + 1) least → slice_index lows i < least → IsLeastFrom lows i (slice_index lows i)
least_take lows i least inside h lt = record {
  at_most = λ j ge lt2. elim (cases_eq i j) [ inl e ↦ subst (λ (k : ℕ). slice_index lows i ≤ slice_index lows k) e (omega arith) | inr ne ↦ let le = h.at_most j (omega arith) lt2 in omega arith ];
  taken = λ _. record { place = i; after = omega arith; inside = inside; is = refl };
}

pub row_init : (bounds lows : List ℕ) → IsFirstRow bounds lows (length lows) (length lows)
row_init bounds lows = record { within = omega arith; above = λ i j le lt. absurd (omega arith); broken = λ lt. absurd (omega arith) }

-- the bound at a place is kept by all later ones
kept_row : (bounds lows : List ℕ) (i least : ℕ) → IsLeastFrom lows (i + 1) least → slice_index bounds i ≤ least → (j : ℕ) → IsAbove bounds lows i j
kept_row bounds lows i least h le j later inside = let k = h.at_most j (omega arith) inside in omega arith

pub row_keep : (bounds lows : List ℕ) (i row least : ℕ) → IsLeastFrom lows (i + 1) least → slice_index bounds i ≤ least → IsFirstRow bounds lows (i + 1) row → IsFirstRow bounds lows i row
row_keep bounds lows i row least h le r = record {
  within = r.within;
  above = λ k j ge lt. elim (cases_eq i k) [ inl e ↦ subst (λ (x : ℕ). IsAbove bounds lows x j) e (kept_row bounds lows i least h le j) | inr ne ↦ r.above k j (omega arith) lt ];
  broken = r.broken;
}

pub row_take : (bounds lows : List ℕ) (i least : ℕ) → i < length lows → IsLeastFrom lows (i + 1) least → slice_index bounds i ≤ 2 ^ 64 - 1 → least < slice_index bounds i → IsFirstRow bounds lows i i
row_take bounds lows i least inside h short lt = record {
  within = omega arith;
  above = λ k j ge lt2. absurd (omega arith);
  broken = λ _. (let t = h.taken (omega arith) in record { column = t.place; later = let a = t.after in omega arith; inside = t.inside; below = let e = t.is in omega arith });
}

-- the first row that is broken with the first place that breaks it
pub breach : (bounds lows : List ℕ) (row j : ℕ) → row < length lows → IsFirstRow bounds lows 0 row → IsFirstBelow (slice_index bounds row) lows (row + 1) j → IsFirstBreach (IsAbove bounds lows) row j
breach bounds lows row j inside r b = record {
  broken = λ above. (let lt = b.below found in let le = above later found in omega arith);
  least = least;
}
  where
    later : row < j
    later = let a = b.at_least (omega arith) in omega arith

    found : j < length lows
    found = let t = r.broken inside in let tl = t.later in let ti = t.inside in let tb = t.below in elim (cases_lt j (length lows)) [
      | inl lt ↦ lt
      | inr ge ↦ absurd (let le = b.none t.column (omega arith) (omega arith) ti in omega arith)
    ]

    least : (k l : ℕ) → IsPairBefore k l row j → IsAbove bounds lows k l
    least k l (inl lt) = r.above k l (omega arith) lt
    least k l (inr e) = λ lt lt2. (subst (λ (x : ℕ). slice_index bounds x ≤ slice_index lows l) (sym e.0) (let same = e.0 in b.none l (omega arith) e.1 lt2))

-- no row is broken
pub no_breach : (bounds lows : List ℕ) (row : ℕ) → row ≡ length lows → IsFirstRow bounds lows 0 row → (i j : ℕ) → IsAbove bounds lows i j
no_breach bounds lows row e r i j lt lt2 = r.above i j (omega arith) (omega arith) lt lt2
