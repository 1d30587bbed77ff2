use Rattle.std.proofs.Common.{◌≡◌, ℕ, zero, suc, ◌+◌, ◌-◌, ◌*◌, ◌^◌, ◌<◌, ◌≤◌, List, [], ◌∷◌, length, get_or, drop, add-one, drop-cons, arith, sym, ap}
use Rattle.std.specs.Char.{digit_value}
use Rattle.std.specs.Fmt.{decimal}
use Rattle.std.specs.Int.{IsInRange}
use Rattle.std.specs.Str.Parse.{digits_value, digits_value_after}
use Rattle.std.proofs.lemmas.Fmt.{decimal-digits_value, decimal_digit, first_decimal, decimal_nonempty, digits_decimal, digits_value-decimal}
use Rattle.std.proofs.lemmas.Str.Parse.{IsNumeralModel, numerals_by_value, tells_by_index}
use Rattle.trace_script.specs.Digits.{AreDigits}

abbrev InRange : List ℕ → Type 0
InRange ds = (i : ℕ) → i < length ds → IsInRange 48 57 (get_or ds i 0)

own : IsNumeralModel InRange (digits_value 10)
own = numerals_by_value InRange tells_by_index

in_range : (ds : List ℕ) → AreDigits ds → InRange ds
in_range ds are i below = ((are i below).least, (are i below).most)

are_digits : (ds : List ℕ) → InRange ds → AreDigits ds
are_digits ds in_it i below = record { least = (in_it i below).0; most = (in_it i below).1 }

digit_value_of : (c : ℕ) → 48 ≤ c → c ≤ 57 → digit_value c ≡ c - 48
digit_value_of c low high = grind arith

-- what digits write is at least the number before them
pub value_grows : (word : List ℕ) (n : ℕ) → n ≤ digits_value_after 10 n word
value_grows [] n = omega arith
value_grows (c ∷ cs) n = omega (arith, value_grows cs (n * 10 + digit_value c))

value_cons : (c n : ℕ) (cs : List ℕ) → 48 ≤ c → c ≤ 57 → digits_value_after 10 n (c ∷ cs) ≡ digits_value_after 10 (n * 10 + (c - 48)) cs
value_cons c n cs low high = ap (λ (d : ℕ). digits_value_after 10 (n * 10 + d) cs) (digit_value_of c low high)

-- one more digit
pub value_step : (word : List ℕ) (i n : ℕ) → i < length word → 48 ≤ get_or word i 0 → get_or word i 0 ≤ 57 →
    digits_value_after 10 n (drop i word) ≡ digits_value_after 10 (n * 10 + (get_or word i 0 - 48)) (drop (i + 1) word)
value_step word i n below low high = rw (add-one, drop-cons word i 0) (value_cons (get_or word i 0) n (drop (suc i) word) low high)

-- digits with no leading zero are the text of what they write
pub reads : (word : List ℕ) → AreDigits word → 0 < length word → (get_or word 0 0 ≡ 48 → length word ≤ 1) → digits_value 10 word < 2 ^ 32 → word ≡ decimal (digits_value 10 word)
reads word are some leads small =
    sym (decimal-digits_value own word (in_range word are) some (λ zero. let one : length word ≤ 1 = leads zero in omega arith) (omega arith))

-- the text of a number
pub text_digits : (word : List ℕ) (n : ℕ) → n < 2 ^ 32 → word ≡ decimal n → AreDigits word
text_digits word n small e = rw e (are_digits (decimal n) (digits_decimal own n (omega arith)))

pub text_value : (word : List ℕ) (n : ℕ) → n < 2 ^ 32 → word ≡ decimal n → digits_value 10 word ≡ n
text_value word n small e = rw e (digits_value-decimal own n (omega arith))

pub text_some : (word : List ℕ) (n : ℕ) → n < 2 ^ 32 → word ≡ decimal n → 0 < length word
text_some word n small e = rw e (decimal_nonempty n (omega arith))

pub text_leads : (word : List ℕ) (n : ℕ) → n < 2 ^ 32 → word ≡ decimal n → get_or word 0 0 ≡ 48 → length word ≤ 1
text_leads word zero small e lead = rw (e, decimal_digit 0 (omega arith)) (omega arith)
text_leads word (suc n) small e lead =
    let more : 48 < get_or (decimal (suc n)) 0 0 = first_decimal (suc n) (omega arith) (omega arith) in
    let same : get_or (decimal (suc n)) 0 0 ≡ 48 = rw e at lead in
    absurd (omega arith)

pub ruleset numerals = (reads, text_digits, text_value, text_some, text_leads)
