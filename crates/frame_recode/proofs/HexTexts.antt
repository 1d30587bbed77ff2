-- A line in hexadecimal with lower-case letters is the text of its bytes, and of no others.
use Rattle.std.proofs.Common.{◌≡◌, ℕ, zero, suc, ◌+◌, ◌-◌, ◌*◌, ◌/◌, ◌%◌, ◌<◌, ◌≤◌, Bool, true, false, List, [], ◌∷◌, Option, Some, None, Result, Ok, Err, refl, sym, ap, ◌∙◌, arith, inl, inr}
use Rattle.std.specs.Prelude.{◌||◌, slice_index}
use Rattle.std.specs.List.{list_any}
use Rattle.std.proofs.lemmas.Bool.{cases_lt, or_from, or_parts}
use Rattle.std.proofs.lemmas.List.{get_or_past}
use Rattle.hex.specs.Hex.{IsBytes, decode_of, decode_pairs, digit_or_error, encode_lower, encode_with, hex_digit_value, lower_digits, pair_value, value_at, ◌>>=◌}
use Rattle.hex.specs.declared.error.FromHexError.{FromHexError}
use Rattle.hex.proofs.HexLemmas.{decode_of-encode_lower, decode_of-even, decode_of-ok}
use Rattle.frame_recode.specs.Hexadecimal.{bytes_in, decoded, is_capital, without_capitals}

-- the digits of the numbers
numeral : (k : ℕ) → k < 10 → slice_index lower_digits k ≡ 48 + k
numeral zero below = refl
numeral (suc zero) below = refl
numeral (suc (suc zero)) below = refl
numeral (suc (suc (suc zero))) below = refl
numeral (suc (suc (suc (suc zero)))) below = refl
numeral (suc (suc (suc (suc (suc zero))))) below = refl
numeral (suc (suc (suc (suc (suc (suc zero)))))) below = refl
numeral (suc (suc (suc (suc (suc (suc (suc zero))))))) below = refl
numeral (suc (suc (suc (suc (suc (suc (suc (suc zero)))))))) below = refl
numeral (suc (suc (suc (suc (suc (suc (suc (suc (suc zero))))))))) below = refl
numeral (suc (suc (suc (suc (suc (suc (suc (suc (suc (suc k)))))))))) below = absurd (omega arith)

letter : (k : ℕ) → k < 6 → slice_index lower_digits (10 + k) ≡ 97 + k
letter zero below = refl
letter (suc zero) below = refl
letter (suc (suc zero)) below = refl
letter (suc (suc (suc zero))) below = refl
letter (suc (suc (suc (suc zero)))) below = refl
letter (suc (suc (suc (suc (suc zero))))) below = refl
letter (suc (suc (suc (suc (suc (suc k)))))) below = absurd (omega arith)

-- the digit of a value, where it is no capital letter
letter_of : (c v : ℕ) → hex_digit_value c ≡ Some v → is_capital c ≡ false → 97 ≤ c → (c ≤ 102) × (v ≡ c - 87)
letter_of c v read small past = (grind arith, grind arith)

numeral_of : (c v : ℕ) → hex_digit_value c ≡ Some v → is_capital c ≡ false → c < 97 → (48 ≤ c) × (c ≤ 57) × (v ≡ c - 48)
numeral_of c v read small below = (grind arith, grind arith, grind arith)

digit_again : (c v : ℕ) → hex_digit_value c ≡ Some v → is_capital c ≡ false → slice_index lower_digits v ≡ c
digit_again c v read small = elim (cases_lt c 97) [
  | inl below ↦
      let is = numeral_of c v read small below in
      let place : v ≡ c - 48 = is.2 in
      let back : 48 + (c - 48) ≡ c = omega (arith, is.0) in
      ap (slice_index lower_digits) place ∙ numeral (c - 48) (omega (arith, is.0, is.1)) ∙ back
  | inr past ↦
      let is = letter_of c v read small past in
      let place : v ≡ 10 + (c - 97) = omega (arith, is.1) in
      let back : 97 + (c - 97) ≡ c = omega arith in
      ap (slice_index lower_digits) place ∙ letter (c - 97) (omega (arith, is.0)) ∙ back
]

digit_read : (c i : ℕ) (o : Option ℕ) (v : ℕ) → digit_or_error c i o ≡ Ok v → o ≡ Some v
digit_read c i (Some w) v h = let same : Ok w ≡ Ok v = h in cc
digit_read c i None v h = cc h

then_ok : {A B : Type 0} (r : Result A FromHexError) (f : A → Result B FromHexError) (y : B) → (r >>= f) ≡ Ok y → (x : A) × (r ≡ Ok x) × (f x ≡ Ok y)
then_ok (Ok x) f y h = (x, refl, h)
then_ok (Err e) f y h = cc h

-- two digits, and the byte that they say
pair_again : (high low h l : ℕ) → h < 16 → l < 16 → slice_index lower_digits h ≡ high → slice_index lower_digits l ≡ low → (rest : List ℕ) →
    encode_lower ((h * 16 + l) ∷ rest) ≡ high ∷ low ∷ encode_lower rest
unfolding encode_with
pair_again high low h l small less high_is low_is rest =
    let first : (h * 16 + l) / 16 ≡ h = omega arith in
    let second : (h * 16 + l) % 16 ≡ l = omega arith in
    rw (first, second, high_is, low_is) refl

small_value : (c v : ℕ) → hex_digit_value c ≡ Some v → v < 16
small_value c v h = grind arith

text_again : (i : ℕ) (line bytes : List ℕ) → decode_pairs i line ≡ Ok bytes → list_any is_capital line ≡ false → line ≡ encode_lower bytes
unfolding decode_pairs encode_with
text_again i [] bytes h small = let none : Ok [] ≡ Ok bytes = h in let same : [] ≡ bytes = cc in ap encode_lower same
text_again i (digit ∷ []) bytes h small = cc h
text_again i (high ∷ low ∷ rest) bytes h small =
    let pair = then_ok (pair_value high low i) _ bytes h in
    let first = then_ok (value_at high i) _ pair.0 pair.1 in
    let second = then_ok (value_at low (i + 1)) _ pair.0 first.2 in
    let more = then_ok (decode_pairs (i + 2) rest) _ bytes pair.2 in
    let high_value = digit_read high i (hex_digit_value high) first.0 first.1 in
    let low_value = digit_read low (i + 1) (hex_digit_value low) second.0 second.1 in
    let high_small = or_parts (is_capital high) (is_capital low || list_any is_capital rest) small in
    let low_small = or_parts (is_capital low) (list_any is_capital rest) high_small.1 in
    let byte : Ok (first.0 * 16 + second.0) ≡ Ok pair.0 = second.2 in
    let whole : Ok (pair.0 ∷ more.0) ≡ Ok bytes = more.2 in
    let bytes_are : (first.0 * 16 + second.0) ∷ more.0 ≡ bytes = cc in
    let again = text_again (i + 2) rest more.0 more.1 low_small.1 in
    ap (λ (xs : List ℕ). high ∷ low ∷ xs) again
    ∙ sym (pair_again high low first.0 second.0 (small_value high first.0 high_value) (small_value low second.0 low_value) (digit_again high first.0 high_value high_small.0) (digit_again low second.0 low_value low_small.0) more.0)
    ∙ ap encode_lower bytes_are

-- no digit of the text of bytes is a capital letter
small_digit : (v : ℕ) → is_capital (slice_index lower_digits v) ≡ false
small_digit v = elim (cases_lt v 10) [
  | inl below ↦ let is = numeral v below in grind (arith, is)
  | inr past ↦ elim (cases_lt v 16) [
    | inl within ↦ let is : slice_index lower_digits v ≡ 97 + (v - 10) = ap (slice_index lower_digits) (omega arith) ∙ letter (v - 10) (omega arith) in grind (arith, is)
    | inr over ↦ let is : slice_index lower_digits v ≡ 0 = get_or_past lower_digits v 0 over in grind (arith, is)
  ]
]

no_capitals : (bytes : List ℕ) → list_any is_capital (encode_lower bytes) ≡ false
unfolding encode_with
no_capitals [] = refl
no_capitals (byte ∷ bytes) = or_from _ _ (small_digit (byte / 16)) (or_from _ _ (small_digit (byte % 16)) (no_capitals bytes))

by_test : (test : Bool) (line bytes : List ℕ) → list_any is_capital line ≡ test → without_capitals test line ≡ Some bytes → IsBytes bytes × (line ≡ encode_lower bytes)
by_test true line bytes is h = cc h
by_test false line bytes is h = by_decoded (decode_of line) refl h
  where
    by_decoded : (r : Result (List ℕ) FromHexError) → decode_of line ≡ r → decoded r ≡ Some bytes → IsBytes bytes × (line ≡ encode_lower bytes)
    by_decoded (Ok other) e h =
        let same : Some other ≡ Some bytes = h in
        let found : decode_of line ≡ Ok bytes = let equal : other ≡ bytes = cc in e ∙ ap Ok equal in
        let ok = decode_of-ok line bytes found in
        (ok.3, text_again 0 line bytes (sym (decode_of-even line ok.0) ∙ found) is)
    by_decoded (Err e) is h = cc h

-- the bytes of a line
pub bytes_of_line : (line bytes : List ℕ) → bytes_in line ≡ Some bytes → IsBytes bytes × (line ≡ encode_lower bytes)
bytes_of_line line bytes h = by_test (list_any is_capital line) line bytes refl h

-- a line without capital letters that was decoded
pub decoded_bytes : (line bytes : List ℕ) → list_any is_capital line ≡ false → decode_of line ≡ Ok bytes → bytes_in line ≡ Some bytes
decoded_bytes line bytes plain found = ap (λ (b : Bool). without_capitals b line) plain ∙ ap decoded found

-- the line of bytes
pub line_of_bytes : (bytes : List ℕ) → IsBytes bytes → bytes_in (encode_lower bytes) ≡ Some bytes
line_of_bytes bytes are =
    ap (λ (b : Bool). without_capitals b (encode_lower bytes)) (no_capitals bytes)
    ∙ ap decoded (decode_of-encode_lower bytes are)
