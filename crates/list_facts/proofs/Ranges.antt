-- The members of a range of numbers.
use Rattle.std.proofs.Common.{ℕ, zero, suc, ◌+◌, ◌<◌, ◌≤◌, inl, inr, arith}
use Rattle.std.specs.List.{range_with_len}
use Rattle.std.proofs.lemmas.Bool.{cases_eq}
use Rattle.list_facts.specs.Lists.{In}

in_range_from : (from count n : ℕ) → In n (range_with_len from count) → n < from + count
in_range_from from zero n h = absurd h
in_range_from from (suc count) n (inl e) = omega arith
in_range_from from (suc count) n (inr h) = let later = in_range_from (from + 1) count n h in omega arith

pub in_range_below : (count n : ℕ) → In n (range_with_len 0 count) → n < count
in_range_below count n h = let k = in_range_from 0 count n h in omega arith

from_in_range : (from count n : ℕ) → from ≤ n → n < from + count → In n (range_with_len from count)
from_in_range from zero n le lt = absurd (omega arith)
from_in_range from (suc count) n le lt = elim (cases_eq from n) [
  | inl same ↦ inl same
  | inr apart ↦ inr (from_in_range (from + 1) count n (omega arith) (omega arith))
]

pub below_in_range : (count n : ℕ) → n < count → In n (range_with_len 0 count)
below_in_range count n lt = from_in_range 0 count n (omega arith) (omega arith)
