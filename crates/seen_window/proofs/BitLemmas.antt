-- Lists of words, bit by bit.
use Rattle.std.proofs.Common.{◌≡◌, ◌≢◌, ℕ, suc, ◌+◌, ◌-◌, ◌*◌, ◌/◌, ◌%◌, ◌^◌, ◌<◌, ◌≤◌, List, [], ◌∷◌, ◌++◌, Bool, cond, ◌&&◌, ◌||◌, eqb, leb, ltb, length, get_or, take, set, replicate, w64, Fits, bit_or, inl, inr, sym, ap, subst, ◌∙◌, refl, add-zero, arith}
use Rattle.std.specs.Int.{bit_at}
use Rattle.std.proofs.lemmas.Bool.{cond-true, cond-false, lt-ltb, le-ltb, cases_lt, cases_eq, cases_Bool, eqb-true, eqb-false, eq-eqb, ne_eqb, le-leb, lt-leb}
use Rattle.std.proofs.lemmas.List.{get_or-set_same, get_or-set_other, get_or_append_left, get_or-append_right, get_or-replicate, get_or-take, length-replicate}
use Rattle.std.proofs.lemmas.Nat.Bits.{bit_at-zero, bit_at-lt, same_from_bits_below, bit_at_set_same, bit_at_set_other, bit_at_cat_low, bit_at_cat_high}
use Rattle.std.proofs.Math.Nat.{mul-mod_left}
use Rattle.std.proofs.lemmas.Nat.{shr_below, shl-shr, shr-shr, shr_split, pow_pos, or_shifted, mod-pow-add}
use Rattle.rec_id.specs.Marks.{bit_of, bits_where, words_where}
use Rattle.rec_id.proofs.MarkBits.{bit_in, bit_of-low, bit_of-high, bits_where-lt, bit_in-bits_where}
use Rattle.seen_window.specs.Shifted.{shifted}

pub same_digit : (a b : ℕ) → a < 2 → b < 2 → eqb a 1 ≡ eqb b 1 → a ≡ b
same_digit a b small_a small_b same = elim (cases_Bool (eqb b 1)) [
  | inl one ↦ eqb-true a 1 (same ∙ one) ∙ sym (eqb-true b 1 one)
  | inr none ↦
      let not_a : a ≢ 1 = eqb-false a 1 (same ∙ none) in
      let not_b : b ≢ 1 = eqb-false b 1 none in
      omega arith
]

-- words are known by their bits
pub words_are : (words : List ℕ) (low : ℕ) (told : ℕ → Bool) → ((i : ℕ) → Fits w64 (get_or words i 0)) → ((i : ℕ) → i < 64 * length words → bit_of words i ≡ told (low + i)) → words ≡ words_where (length words) low told
words_are [] low told fits bits = refl
words_are (word ∷ words) low told fits bits =
    let first : word ≡ bits_where 64 low told =
    same_from_bits_below 64 word (bits_where 64 low told) (fits 0).fits (bits_where-lt 64 low told) (λ i below.
    same_digit (bit_at word i) (bit_at (bits_where 64 low told) i) (bit_at-lt word i) (bit_at-lt (bits_where 64 low told) i)
    (sym (bit_of-low word words i below) ∙ bits i (omega arith) ∙ sym (bit_in-bits_where 64 low told i below))) in
    let rest : words ≡ words_where (length words) (low + 64) told =
    words_are words (low + 64) told (λ i. fits (suc i)) (λ i below.
    sym (bit_of-high word words i) ∙ bits (64 + i) (omega arith) ∙ ap told (omega arith)) in
    ap (λ (w : ℕ). w ∷ words) first ∙ ap (λ (ws : List ℕ). bits_where 64 low told ∷ ws) rest

-- ---- one bit set
pub bit_of-set : (words : List ℕ) (k j : ℕ) → k / 64 < length words → bit_of (set words (k / 64) (bit_or (get_or words (k / 64) 0) (1 * 2 ^ (k % 64) % 2 ^ 64))) j ≡ (eqb j k || bit_of words j)
bit_of-set words k j inside =
    let word = get_or words (k / 64) 0 in
    let written = bit_or word (1 * 2 ^ (k % 64) % 2 ^ 64) in
    elim (cases_eq (j / 64) (k / 64)) [
      | inl here ↦
          let read : get_or (set words (k / 64) written) (j / 64) 0 ≡ written =
          ap (λ (q : ℕ). get_or (set words (k / 64) written) q 0) here ∙ get_or-set_same words (k / 64) written 0 inside in
          let is : bit_of (set words (k / 64) written) j ≡ bit_in written (j % 64) = ap (λ (n : ℕ). bit_in n (j % 64)) read in
          elim (cases_eq (j % 64) (k % 64)) [
            | inl same ↦
                let equal : j ≡ k = omega arith in
                is ∙ ap (bit_in written) same ∙ ap (λ (n : ℕ). eqb n 1) (bit_at_set_same w64 word (k % 64) (omega arith))
                ∙ sym (ap (λ (b : Bool). b || bit_of words j) (eq-eqb j k equal))
            | inr other ↦
                let apart : j ≢ k = λ equal. other (ap (λ (n : ℕ). n % 64) equal) in
                is ∙ ap (λ (n : ℕ). eqb n 1) (bit_at_set_other w64 word (k % 64) (omega arith) (j % 64) other)
                ∙ ap (λ (q : ℕ). bit_in (get_or words q 0) (j % 64)) (sym here)
                ∙ sym (ap (λ (b : Bool). b || bit_of words j) (ne_eqb j k apart))
          ]
      | inr elsewhere ↦
          let apart : j ≢ k = λ equal. elsewhere (ap (λ (n : ℕ). n / 64) equal) in
          ap (λ (n : ℕ). bit_in n (j % 64)) (get_or-set_other words (k / 64) (j / 64) written 0 elsewhere)
          ∙ sym (ap (λ (b : Bool). b || bit_of words j) (ne_eqb j k apart))
    ]

-- ---- whole words moved up
pub bit_of-moved : (words : List ℕ) (by j : ℕ) → by ≤ length words → j < 64 * length words → bit_of (replicate by 0 ++ take (length words - by) words) j ≡ (leb (64 * by) j && bit_of words (j - 64 * by))
bit_of-moved words by j short inside = elim (cases_lt j (64 * by)) [
  | inl below ↦
      let early : j / 64 < by = omega arith in
      let read : get_or (replicate by 0 ++ take (length words - by) words) (j / 64) 0 ≡ 0 =
      get_or_append_left (replicate by 0) (take (length words - by) words) 0 (j / 64) (omega (arith, length-replicate {A = ℕ} by 0))
      ∙ get_or-replicate by (j / 64) 0 0 early in
      ap (λ (n : ℕ). bit_in n (j % 64)) read ∙ ap (λ (n : ℕ). eqb n 1) (bit_at-zero (j % 64))
      ∙ sym (ap (λ (b : Bool). b && bit_of words (j - 64 * by)) (lt-leb (64 * by) j below))
  | inr from ↦
      let late : by ≤ j / 64 = omega arith in
      let place : j / 64 - by ≡ (j - 64 * by) / 64 = omega arith in
      let rest : j % 64 ≡ (j - 64 * by) % 64 = omega arith in
      let read : get_or (replicate by 0 ++ take (length words - by) words) (j / 64) 0 ≡ get_or words ((j - 64 * by) / 64) 0 =
      get_or-append_right (replicate by 0) (take (length words - by) words) by (j / 64) 0 (length-replicate by 0) late
      ∙ get_or-take (length words - by) words (j / 64 - by) 0 (omega arith)
      ∙ ap (λ (q : ℕ). get_or words q 0) place in
      ap (λ (n : ℕ). bit_in n (j % 64)) read ∙ ap (bit_in (get_or words ((j - 64 * by) / 64) 0)) rest
      ∙ sym (ap (λ (b : Bool). b && bit_of words (j - 64 * by)) (le-leb (64 * by) j from))
]

-- ---- a move within words
-- the low bits of a number that is cut at bit k
bit_at-mod : (n k i : ℕ) → i < k → bit_at (n % 2 ^ k) i ≡ bit_at n i
bit_at-mod n k i low = sym (bit_at_cat_low (n / 2 ^ k) k (n % 2 ^ k) i low) ∙ ap (λ (m : ℕ). bit_at m i) (shr_split n k)

module _ (by : ℕ) (some : 1 ≤ by) (few : by < 64) where
  -- what a word becomes
  joined : (word carried : ℕ) → carried < 2 ^ by → bit_or (word * 2 ^ by % 2 ^ 64) carried ≡ (word % 2 ^ (64 - by)) * 2 ^ by + carried
  joined word carried small =
      let width : 64 ≡ (64 - by) + by = omega arith in
      let cut : word * 2 ^ by % 2 ^ 64 ≡ (word % 2 ^ (64 - by)) * 2 ^ by =
      ap (λ (w : ℕ). word * 2 ^ by % 2 ^ w) width ∙ mod-pow-add (word * 2 ^ by) (64 - by) by
      ∙ ap (λ (n : ℕ). (n % 2 ^ (64 - by)) * 2 ^ by + word * 2 ^ by % 2 ^ by) (shl-shr word by)
      ∙ ap (λ (n : ℕ). (word % 2 ^ (64 - by)) * 2 ^ by + n) (mul-mod_left word (2 ^ by))
      ∙ add-zero ((word % 2 ^ (64 - by)) * 2 ^ by) in
      ap (λ (n : ℕ). bit_or n carried) cut ∙ or_shifted (word % 2 ^ (64 - by)) by carried small

  -- bit j of words that were moved up, with `carried` from below
  abbrev from_below : ℕ → List ℕ → ℕ → Bool
  from_below carried words j = cond (ltb j by) (bit_in carried j) (bit_of words (j - by))

  below_is : (carried : ℕ) (words : List ℕ) (j : ℕ) → j < by → from_below carried words j ≡ bit_in carried j
  below_is carried words j low = cond-true (ltb j by) (bit_in carried j) (bit_of words (j - by)) (lt-ltb j by low)

  above_is : (carried : ℕ) (words : List ℕ) (j : ℕ) → by ≤ j → from_below carried words j ≡ bit_of words (j - by)
  above_is carried words j high = cond-false (ltb j by) (bit_in carried j) (bit_of words (j - by)) (le-ltb j by high)

  first_word : (word carried : ℕ) (words : List ℕ) (j : ℕ) → carried < 2 ^ by → j < 64
      → bit_in (bit_or (word * 2 ^ by % 2 ^ 64) carried) j ≡ from_below carried (word ∷ words) j
  first_word word carried words j small early =
      let cut = word % 2 ^ (64 - by) in
      ap (λ (n : ℕ). bit_in n j) (joined word carried small) ∙ elim (cases_lt j by) [
        | inl low ↦ ap (λ (n : ℕ). eqb n 1) (bit_at_cat_low cut by carried j low) ∙ sym (below_is carried (word ∷ words) j low)
        | inr high ↦
            ap (λ (n : ℕ). eqb n 1) (bit_at_cat_high cut by carried j small high ∙ bit_at-mod word (64 - by) (j - by) (omega arith))
            ∙ sym (bit_of-low word words (j - by) (omega arith)) ∙ sym (above_is carried (word ∷ words) j high)
      ]

  pub bit_of-shifted : (words : List ℕ) (carried : ℕ) → carried < 2 ^ by → ((i : ℕ) → Fits w64 (get_or words i 0)) → (j : ℕ) → j < 64 * length words
      → bit_of (shifted by carried words) j ≡ from_below carried words j
  bit_of-shifted [] carried small fits j inside = absurd (omega arith)
  bit_of-shifted (word ∷ words) carried small fits j inside =
      let head = bit_or (word * 2 ^ by % 2 ^ 64) carried in
      let lost = word / 2 ^ (64 - by) in
      let width : by + (64 - by) ≡ 64 = omega arith in
      let small_lost : lost < 2 ^ by =
      shr_below word by (64 - by) (subst (λ (w : ℕ). word < 2 ^ w) (sym width) (fits 0).fits) in
      elim (cases_lt j 64) [
        | inl early ↦ bit_of-low head (shifted by lost words) j early ∙ first_word word carried words j small early
        | inr late ↦
            let m = j - 64 in
            let split : j ≡ 64 + m = omega arith in
            ap (bit_of (shifted by carried (word ∷ words))) split ∙ bit_of-high head (shifted by lost words) m
            ∙ bit_of-shifted words lost small_lost (λ i. fits (suc i)) m (omega arith)
            ∙ elim (cases_lt m by) [
              | inl low ↦
                  let place : (64 - by) + m ≡ j - by = omega arith in
                  below_is lost words m low ∙ ap (λ (n : ℕ). eqb (n % 2) 1) (shr-shr word (64 - by) m)
                  ∙ ap (bit_in word) place ∙ sym (bit_of-low word words (j - by) (omega arith))
                  ∙ sym (above_is carried (word ∷ words) j (omega arith))
              | inr high ↦
                  let place : 64 + (m - by) ≡ j - by = omega arith in
                  above_is lost words m high ∙ sym (bit_of-high word words (m - by)) ∙ ap (bit_of (word ∷ words)) place
                  ∙ sym (above_is carried (word ∷ words) j (omega arith))
            ]
      ]

  -- with nothing from below
  pub bit_of-shifted_up : (words : List ℕ) → ((i : ℕ) → Fits w64 (get_or words i 0)) → (j : ℕ) → j < 64 * length words
      → bit_of (shifted by 0 words) j ≡ (leb by j && bit_of words (j - by))
  bit_of-shifted_up words fits j inside = bit_of-shifted words 0 (pow_pos by) fits j inside ∙ elim (cases_lt j by) [
    | inl low ↦
        below_is 0 words j low ∙ ap (λ (n : ℕ). eqb n 1) (bit_at-zero j)
        ∙ sym (ap (λ (b : Bool). b && bit_of words (j - by)) (lt-leb by j low))
    | inr high ↦ above_is 0 words j high ∙ sym (ap (λ (b : Bool). b && bit_of words (j - by)) (le-leb by j high))
  ]
