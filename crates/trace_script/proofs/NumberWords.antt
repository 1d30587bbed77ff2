-- The number that a word writes.
use Rattle.std.proofs.Common.{◌≡◌, ◌≢◌, ℕ, ◌<◌, ◌^◌, List, Bool, true, false, Some, None, ◌&&◌, refl, sym, ap, ◌∙◌, rules}
use Rattle.std.specs.Prelude.{decimal, nat_lt, if◌then◌else◌}
use Rattle.std.specs.Str.{bytes_eq}
use Rattle.std.specs.Str.Parse.{digits_value}
use Rattle.std.proofs.lemmas.Bool.{and_parts, and_from, ltb-true, lt-ltb}
use Rattle.std.proofs.lemmas.Slice.Eq.{bytes_eq-Decides}
use Rattle.trace_script.specs.Words.{number_if, number_of}
use Rattle.trace_script.proofs.Decimals.{text_value}

same_bytes : (xs ys : List ℕ) → bytes_eq xs ys ≡ true → xs ≡ ys
same_bytes xs ys h = search (rules, bytes_eq-Decides)

bytes_same : (xs : List ℕ) → bytes_eq xs xs ≡ true
bytes_same xs = search (rules, bytes_eq-Decides)

-- the word of a number is read as it
pub number_is : (word : List ℕ) (n : ℕ) → n < 2 ^ 32 → word ≡ decimal n → Some n ≡ number_of word
number_is word n small is =
    let value : digits_value 10 word ≡ n = text_value word n small is in
    let same : bytes_eq word (decimal n) ≡ true = ap (λ (w : List ℕ). bytes_eq w (decimal n)) is ∙ bytes_same (decimal n) in
    let passes : (bytes_eq word (decimal n) && nat_lt n (2 ^ 32)) ≡ true = and_from (bytes_eq word (decimal n)) (nat_lt n (2 ^ 32)) same (lt-ltb n (2 ^ 32) small) in
    sym (ap (number_if word) value ∙ ap (λ (b : Bool). if b then Some n else None) passes)

-- another word is no number
pub number_none : (word : List ℕ) → ((n : ℕ) → n < 2 ^ 32 → word ≢ decimal n) → None ≡ number_of word
number_none word other = by (bytes_eq word (decimal (digits_value 10 word)) && nat_lt (digits_value 10 word) (2 ^ 32)) refl
  where
    by : (b : Bool) → (bytes_eq word (decimal (digits_value 10 word)) && nat_lt (digits_value 10 word) (2 ^ 32)) ≡ b → None ≡ (if b then Some (digits_value 10 word) else None)
    by true passes =
        let parts = and_parts (bytes_eq word (decimal (digits_value 10 word))) (nat_lt (digits_value 10 word) (2 ^ 32)) passes in
        absurd (other (digits_value 10 word) (ltb-true (digits_value 10 word) (2 ^ 32) parts.1) (same_bytes word (decimal (digits_value 10 word)) parts.0))
    by false fails = refl

pub ruleset numbers = (number_is, number_none)
