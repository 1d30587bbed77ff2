-- The bits of marks in a frame are the bits of their words.
use Rattle.std.proofs.Common.{◌≡◌, ℕ, zero, suc, ◌+◌, ◌-◌, ◌*◌, ◌/◌, ◌%◌, ◌^◌, ◌<◌, ◌≤◌, false, List, [], ◌∷◌, ◌++◌, slice_index, min, refl, sym, ap, ◌∙◌, arith, inl, inr}
use Rattle.std.specs.List.{flat_map}
use Rattle.std.specs.Int.{byte_at}
use Rattle.std.proofs.lemmas.Bool.{cases_lt}
use Rattle.std.proofs.lemmas.List.{get_or_append_left, get_or-append_right}
use Rattle.std.proofs.lemmas.Nat.{pow-add}
use Rattle.std.proofs.Math.Nat.{pow-suc, div-div-eq-div-mul, div-eq_of_lt, div-one, pow-le-pow_right}
use Rattle.rec_id.specs.Marks.{bit_of}
use Rattle.lazy_msgs.specs.Frame.{word_form}
use Rattle.lazy_msgs.specs.FrameLimits.{EndAt}
use Rattle.wire_frames.specs.Laws.{bit_in, MarksByBit, NoneBelowOne}
use Rattle.wire_frames.proofs.FieldLengths.{length-word_form}

-- byte j of a word
byte_of_form : (word j : ℕ) → j < 8 → slice_index (word_form word) j ≡ byte_at j word
unfolding word_form
byte_of_form word zero below = refl
byte_of_form word (suc zero) below = refl
byte_of_form word (suc (suc zero)) below = refl
byte_of_form word (suc (suc (suc zero))) below = refl
byte_of_form word (suc (suc (suc (suc zero)))) below = refl
byte_of_form word (suc (suc (suc (suc (suc zero))))) below = refl
byte_of_form word (suc (suc (suc (suc (suc (suc zero)))))) below = refl
byte_of_form word (suc (suc (suc (suc (suc (suc (suc zero))))))) below = refl
byte_of_form word (suc (suc (suc (suc (suc (suc (suc (suc j)))))))) below = absurd (omega arith)

byte_is : (j word : ℕ) → byte_at j word ≡ word / 256 ^ j % 256
byte_is zero word = ap (λ (n : ℕ). n % 256) (sym (div-one word))
byte_is (suc j) word = refl

pow_256 : (j : ℕ) → 256 ^ j ≡ 2 ^ (8 * j)
pow_256 zero = refl
pow_256 (suc j) =
    let exponent : 8 * suc j ≡ 8 * j + 8 = omega arith in
    rw (pow-suc 256 j, exponent, pow-add 2 (8 * j) 8, pow_256 j) refl

-- a bit of the lowest byte
low_bit : (n r : ℕ) → r < 8 → (n % 256) / 2 ^ r % 2 ≡ n / 2 ^ r % 2
low_bit n zero below = omega arith
low_bit n (suc zero) below = omega arith
low_bit n (suc (suc zero)) below = omega arith
low_bit n (suc (suc (suc zero))) below = omega arith
low_bit n (suc (suc (suc (suc zero)))) below = omega arith
low_bit n (suc (suc (suc (suc (suc zero))))) below = omega arith
low_bit n (suc (suc (suc (suc (suc (suc zero)))))) below = omega arith
low_bit n (suc (suc (suc (suc (suc (suc (suc zero))))))) below = omega arith
low_bit n (suc (suc (suc (suc (suc (suc (suc (suc r)))))))) below = absurd (omega arith)

-- bit r of byte j of a word is bit 8 * j + r
bit_of_byte : (word j r : ℕ) → r < 8 → (byte_at j word) / 2 ^ r % 2 ≡ word / 2 ^ (8 * j + r) % 2
bit_of_byte word j r below =
    rw (byte_is j word, low_bit (word / 256 ^ j) r below, div-div-eq-div-mul word (256 ^ j) (2 ^ r), pow_256 j, pow-add 2 (8 * j) r) refl

-- the bits of a word's bytes, whatever stands behind them
first_word : (word i : ℕ) (rest words : List ℕ) → i < 64 → bit_in (word_form word ++ rest) i ≡ bit_of (word ∷ words) i
first_word word i rest words below =
    let len = length-word_form word in
    let byte : slice_index (word_form word ++ rest) (i / 8) ≡ byte_at (i / 8) word =
    get_or_append_left (word_form word) rest 0 (i / 8) (omega arith) ∙ byte_of_form word (i / 8) (omega arith) in
    let place : 8 * (i / 8) + i % 8 ≡ i = omega arith in
    let bit : byte_at (i / 8) word / 2 ^ (i % 8) % 2 ≡ word / 2 ^ i % 2 = rw (bit_of_byte word (i / 8) (i % 8) (omega arith), place) refl in
    let row : i / 64 ≡ 0 = omega arith in
    let column : i % 64 ≡ i = omega arith in
    rw (byte, bit, row, column) refl

pub marks_by_bit : MarksByBit
marks_by_bit [] i below = absurd (omega arith)
marks_by_bit (word ∷ words) i below =
    elim (cases_lt i 64) [
      | inl first ↦ first_word word i (flat_map word_form words) words first
      | inr later ↦
          let j : ℕ = i - 64 in
          let behind : slice_index (word_form word ++ flat_map word_form words) (i / 8) ≡ slice_index (flat_map word_form words) (j / 8) =
          get_or-append_right (word_form word) (flat_map word_form words) 8 (i / 8) 0 (length-word_form word) (omega arith) ∙ ap (slice_index (flat_map word_form words)) (omega arith) in
          let in_byte : i % 8 ≡ j % 8 = omega arith in
          let row : i / 64 ≡ suc (j / 64) = omega arith in
          let column : i % 64 ≡ j % 64 = omega arith in
          rw (behind, in_byte, row, column) (marks_by_bit words j (omega arith))
    ]

-- no bit from i on is set in a number below 2 ^ i
no_bit : (word top i : ℕ) → word < 2 ^ top → top ≤ i → word / 2 ^ i % 2 ≡ 0
no_bit word top i below most =
    let larger : 2 ^ top ≤ 2 ^ i = pow-le-pow_right {n = 2} (omega arith) {i = top} {j = i} most in
    let none : word / 2 ^ i ≡ 0 = div-eq_of_lt (omega arith) in
    rw none refl

no_bit_from : (top i : ℕ) (words : List ℕ) → EndAt top words → top ≤ i → bit_of words i ≡ false
no_bit_from top i [] ends most = let none : 0 / 2 ^ (i % 64) % 2 ≡ 0 = no_bit 0 0 (i % 64) (omega arith) (omega arith) in rw none refl
no_bit_from top i (word ∷ words) ends most =
    elim (cases_lt i 64) [
      | inl first ↦
          let least : min 64 top ≡ top = omega arith in
          let below : word < 2 ^ top = rw least at ends.0 in
          let row : i / 64 ≡ 0 = omega arith in
          let column : i % 64 ≡ i = omega arith in
          let none : word / 2 ^ i % 2 ≡ 0 = no_bit word top i below most in
          rw (row, column, none) refl
      | inr later ↦
          let row : i / 64 ≡ suc ((i - 64) / 64) = omega arith in
          let column : i % 64 ≡ (i - 64) % 64 = omega arith in
          rw (row, column) (no_bit_from (top - 64) (i - 64) words ends.1 (omega arith))
    ]

pub none_below_one : NoneBelowOne
none_below_one edition marks i fits most = no_bit_from marks.top i marks.bits fits.lowest most
