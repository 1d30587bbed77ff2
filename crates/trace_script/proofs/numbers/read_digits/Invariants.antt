use Rattle.std.proofs.Common.{◌≡◌, ℕ, ◌<◌, drop}
use Rattle.std.specs.Str.Parse.{digits_value, digits_value_after}
use Rattle.trace_script.specs.Digits.{IsDigit}
use Rattle.trace_script.proofs.numbers.read_digits.Given as goal

-- what the digits so far write, goes before the others; and these are digits
abbrev pub invariant-loop-byte : goal.invariant-loop-byte
invariant-loop-byte l =
    (digits_value_after 10 l.number (drop l.byte-index l.word) ≡ digits_value 10 l.word)
    × ((k : ℕ) → k < l.byte-index → IsDigit l.word k)
