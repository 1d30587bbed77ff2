-- The digits of the words count the marked numbers.
use Rattle.std.proofs.Common.{◌≡◌, ℕ, zero, suc, ◌+◌, ◌-◌, ◌*◌, ◌<◌, ◌≤◌, ◌^◌, List, [], ◌∷◌, Bool, cond, ◌&&◌, length, get_or, w64, Fits, inl, inr, sym, ap, ◌∙◌, refl, zero-add, arith}
use Rattle.std.specs.Prelude.{sum_by, count_by, count_ones}
use Rattle.std.specs.List.{range_with_len}
use Rattle.std.specs.Int.{bit_at}
use Rattle.std.proofs.lemmas.Bool.{cases_lt, lt-ltb, le-ltb, le-leb}
use Rattle.std.proofs.lemmas.List.FromFn.{length-range_with_len}
use Rattle.std.proofs.lemmas.List.Sums.{sum_by-cons, count_by-le-length}
use Rattle.std.proofs.lemmas.Nat.Bits.{bit_at-lt, same_from_bits_below}
use Rattle.std.proofs.lemmas.Simd.{ones-mask_l}
use Rattle.rec_id.specs.declared.marks.Marks.{Marks}
use Rattle.rec_id.specs.Marks.{span_of, bit_of, bits_where, is_marked, stands_marked}
use Rattle.seen_window.specs.Image.{marked_count}
use Rattle.seen_window.proofs.BitLemmas.{same_digit}
use Rattle.rec_id.proofs.MarkBits.{bit_in, bit_of-low, bit_of-high, bits_where-is, bits_where-lt, bit_in-bits_where}
use Rattle.seen_window.proofs.Formed.{IsFormed}

-- how many of so many numbers from `low` on pass
abbrev pub count_in : (ℕ → Bool) → ℕ → ℕ → ℕ
count_in p low count = count_by p (range_with_len low count)

abbrev pub one_if : (ℕ → Bool) → ℕ → ℕ
one_if p i = cond (p i) 1 0

pub count_in-suc : (p : ℕ → Bool) (low count : ℕ) → count_in p low (suc count) ≡ one_if p low + count_in p (low + 1) count
count_in-suc p low count = sum_by-cons (one_if p) low (range_with_len (low + 1) count)

pub count_in-same : (p q : ℕ → Bool) (low high count : ℕ) → ((i : ℕ) → i < count → p (low + i) ≡ q (high + i)) → count_in p low count ≡ count_in q high count
count_in-same p q low high zero same = refl
count_in-same p q low high (suc count) same =
    let first : p low ≡ q high = ap p (omega arith) ∙ same 0 (omega arith) ∙ ap q (omega arith) in
    let rest : count_in p (low + 1) count ≡ count_in q (high + 1) count =
    count_in-same p q (low + 1) (high + 1) count (λ i inside. ap p (omega arith) ∙ same (suc i) (omega arith) ∙ ap q (omega arith)) in
    count_in-suc p low count ∙ ap (λ (b : Bool). cond b 1 0 + count_in p (low + 1) count) first
    ∙ ap (λ (n : ℕ). one_if q high + n) rest ∙ sym (count_in-suc q high count)

pub count_in-split : (p : ℕ → Bool) (low count more : ℕ) → count_in p low (count + more) ≡ count_in p low count + count_in p (low + count) more
count_in-split p low zero more =
    let none : 0 + more ≡ more = omega arith in
    let here : low ≡ low + 0 = omega arith in
    ap (count_in p low) none ∙ ap (λ (n : ℕ). count_in p n more) here ∙ sym (zero-add (count_in p (low + 0) more))
count_in-split p low (suc count) more =
    let next : suc count + more ≡ suc (count + more) = omega arith in
    let place : low + 1 + count ≡ low + suc count = omega arith in
    ap (count_in p low) next ∙ count_in-suc p low (count + more)
    ∙ ap (λ (n : ℕ). one_if p low + n) (count_in-split p (low + 1) count more)
    ∙ ap (λ (n : ℕ). one_if p low + (count_in p (low + 1) count + count_in p n more)) place
    ∙ omega (arith, count_in-suc p low count)

word_is : (word : ℕ) → word < 2 ^ 64 → word ≡ bits_where 64 0 (bit_in word)
word_is word fits = same_from_bits_below 64 word (bits_where 64 0 (bit_in word)) fits (bits_where-lt 64 0 (bit_in word)) (λ i below.
    same_digit (bit_at word i) (bit_at (bits_where 64 0 (bit_in word)) i) (bit_at-lt word i) (bit_at-lt (bits_where 64 0 (bit_in word)) i)
    (ap (bit_in word) (omega arith) ∙ sym (bit_in-bits_where 64 0 (bit_in word) i below)))

ones_is : (word : ℕ) → word < 2 ^ 64 → count_ones word ≡ count_in (bit_in word) 0 64
ones_is word fits =
    ap count_ones (word_is word fits ∙ bits_where-is 64 0 (bit_in word)) ∙ ones-mask_l (bit_in word) (range_with_len 0 64)

pub digits_are : (words : List ℕ) → ((i : ℕ) → Fits w64 (get_or words i 0)) → sum_by count_ones words ≡ count_in (bit_of words) 0 (64 * length words)
digits_are [] fits = refl
digits_are (word ∷ words) fits =
    let all = bit_of (word ∷ words) in
    let first : count_in all 0 64 ≡ count_in (bit_in word) 0 64 =
    count_in-same all (bit_in word) 0 0 64 (λ i below. ap all (omega arith) ∙ bit_of-low word words i below ∙ ap (bit_in word) (omega arith)) in
    let rest : count_in all 64 (64 * length words) ≡ count_in (bit_of words) 0 (64 * length words) =
    count_in-same all (bit_of words) 64 0 (64 * length words) (λ i below. bit_of-high word words i ∙ ap (bit_of words) (omega arith)) in
    let here : count_ones word + sum_by count_ones words ≡ count_in all 0 64 + count_in all 64 (64 * length words) =
    omega (arith, ones_is word (fits 0).fits, digits_are words (λ i. fits (suc i)), first, rest) in
    let places : 64 + 64 * length words ≡ 64 * length (word ∷ words) = omega arith in
    sum_by-cons count_ones word words ∙ here ∙ sym (count_in-split all 0 64 (64 * length words)) ∙ ap (count_in all 0) places

module _ (marks : Marks) (formed : IsFormed (length marks.bits) marks) where
  pub bit_stands : (i : ℕ) → bit_of marks.bits i ≡ stands_marked marks.top (is_marked marks) i
  bit_stands i = elim (cases_lt i marks.top) [
    | inl below ↦
        ap (bit_of marks.bits) (omega arith)
        ∙ sym (ap (λ (b : Bool). b && bit_of marks.bits (marks.top - (marks.top - i))) (le-leb (marks.top - i) marks.top (omega arith)))
        ∙ sym (ap (λ (b : Bool). b && is_marked marks (marks.top - i)) (lt-ltb i marks.top below))
    | inr past ↦
        formed.low i past ∙ sym (ap (λ (b : Bool). b && is_marked marks (marks.top - i)) (le-ltb i marks.top past))
  ]

  pub marked_is : count_in (bit_of marks.bits) 0 (span_of marks) ≡ marked_count marks
  marked_is =
      count_in-same (bit_of marks.bits) (stands_marked marks.top (is_marked marks)) 0 0 (span_of marks) (λ i below. bit_stands (0 + i))

  pub marked_few : marked_count marks ≤ 64 * length marks.bits
  marked_few =
      omega (arith, count_by-le-length (stands_marked marks.top (is_marked marks)) (range_with_len 0 (span_of marks)), length-range_with_len 0 (span_of marks))
