-- The words of marks, bit by bit.
use Rattle.std.proofs.Common.{◌≡◌, ℕ, zero, suc, ◌+◌, ◌-◌, ◌*◌, ◌/◌, ◌%◌, ◌^◌, ◌<◌, ◌≤◌, List, ◌∷◌, Bool, true, false, cond, eqb, length, get_or, map, inl, inr, ap, ◌∙◌, refl, arith}
use Rattle.std.specs.Int.{bit_at}
use Rattle.std.specs.List.{range_with_len}
use Rattle.std.proofs.lemmas.Bool.{cases_lt}
use Rattle.std.proofs.lemmas.List.{get_or_past}
use Rattle.std.proofs.lemmas.List.FromFn.{get_or-map-range_with_len, length-map-range_with_len}
use Rattle.std.proofs.lemmas.Nat.Bits.{bit_at-zero}
use Rattle.std.proofs.lemmas.Simd.{bit_mask_l, mask_l-lt}
use lib.Lanes.{mask_l}
use Rattle.rec_id.specs.Marks.{bit_of, bits_where, words_where}

-- bit i of a word
abbrev pub bit_in : ℕ → ℕ → Bool
bit_in word i = eqb (bit_at word i) 1

pub bit_of-low : (word : ℕ) (words : List ℕ) (i : ℕ) → i < 64 → bit_of (word ∷ words) i ≡ bit_in word i
bit_of-low word words i low =
    let first : i / 64 ≡ 0 = omega arith in
    let same : i % 64 ≡ i = omega arith in
    ap (λ (q : ℕ). eqb (get_or (word ∷ words) q 0 / 2 ^ (i % 64) % 2) 1) first ∙ ap (λ (r : ℕ). eqb (word / 2 ^ r % 2) 1) same

pub bit_of-high : (word : ℕ) (words : List ℕ) (i : ℕ) → bit_of (word ∷ words) (64 + i) ≡ bit_of words i
bit_of-high word words i =
    let next : (64 + i) / 64 ≡ suc (i / 64) = omega arith in
    let same : (64 + i) % 64 ≡ i % 64 = omega arith in
    ap (λ (q : ℕ). eqb (get_or (word ∷ words) q 0 / 2 ^ ((64 + i) % 64) % 2) 1) next
    ∙ ap (λ (r : ℕ). eqb (get_or words (i / 64) 0 / 2 ^ r % 2) 1) same

pub bit_of-past : (words : List ℕ) (i : ℕ) → 64 * length words ≤ i → bit_of words i ≡ false
bit_of-past words i past =
    ap (λ (word : ℕ). eqb (word / 2 ^ (i % 64) % 2) 1) (get_or_past words (i / 64) 0 (omega arith))
    ∙ ap (λ (n : ℕ). eqb n 1) (bit_at-zero (i % 64))

pub bits_where-is : (count low : ℕ) (told : ℕ → Bool) → bits_where count low told ≡ mask_l (map told (range_with_len low count))
bits_where-is zero low told = refl
bits_where-is (suc count) low told = ap (λ (n : ℕ). cond (told low) 1 0 + 2 * n) (bits_where-is count (low + 1) told)

test_of : (b : Bool) → eqb (cond b 1 0) 1 ≡ b
test_of true = refl
test_of false = refl

pub bit_in-bits_where : (count low : ℕ) (told : ℕ → Bool) (i : ℕ) → i < count → bit_in (bits_where count low told) i ≡ told (low + i)
bit_in-bits_where count low told i below =
    ap (λ (n : ℕ). bit_in n i) (bits_where-is count low told)
    ∙ ap (λ (n : ℕ). eqb n 1) (bit_mask_l (map told (range_with_len low count)) i)
    ∙ test_of (get_or (map told (range_with_len low count)) i false)
    ∙ get_or-map-range_with_len told low count i (low + i) false below refl

pub bits_where-lt : (count low : ℕ) (told : ℕ → Bool) → bits_where count low told < 2 ^ count
bits_where-lt count low told =
    let same : bits_where count low told < 2 ^ length (map told (range_with_len low count)) =
    rw (bits_where-is count low told) (mask_l-lt (map told (range_with_len low count))) in
    rw (length-map-range_with_len told low count) at same

pub length-words_where : (count low : ℕ) (told : ℕ → Bool) → length (words_where count low told) ≡ count
length-words_where zero low told = refl
length-words_where (suc count) low told = ap suc (length-words_where count (low + 64) told)

pub bit_of-words_where : (count low : ℕ) (told : ℕ → Bool) (i : ℕ) → i < 64 * count → bit_of (words_where count low told) i ≡ told (low + i)
bit_of-words_where zero low told i below = absurd (omega arith)
bit_of-words_where (suc count) low told i below = elim (cases_lt i 64) [
  | inl early ↦ bit_of-low (bits_where 64 low told) (words_where count (low + 64) told) i early ∙ bit_in-bits_where 64 low told i early
  | inr late ↦
      let split : i ≡ 64 + (i - 64) = omega arith in
      ap (bit_of (words_where (suc count) low told)) split
      ∙ bit_of-high (bits_where 64 low told) (words_where count (low + 64) told) (i - 64)
      ∙ bit_of-words_where count (low + 64) told (i - 64) (omega arith)
      ∙ ap told (omega arith)
]
