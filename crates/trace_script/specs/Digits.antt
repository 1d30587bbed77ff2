use Rattle.std.specs.Prelude.{ℕ, ◌<◌, ◌≤◌, List, length, slice_index}

-- this byte of the word is a digit
pub record IsDigit (word : List ℕ) (i : ℕ) : Type 0 where
  pub least : 48 ≤ slice_index word i
  pub most : slice_index word i ≤ 57

-- each byte is a digit
abbrev pub AreDigits : List ℕ → Type 0
AreDigits word = (i : ℕ) → i < length word → IsDigit word i
