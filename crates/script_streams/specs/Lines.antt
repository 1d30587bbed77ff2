-- The lines of some bytes.
use Rattle.std.specs.Prelude.{◌≡◌, ℕ, ◌≤◌, Bool, false, ◌==◌, nat_le, if◌then◌else◌, List, [], ◌∷◌, ◌++◌, length}
use Rattle.std.specs.List.{list_any}

-- what stands behind the last newline: so many bytes, maybe none; or more than a line may have
pub data Rest : Type 0 where
  Part : List ℕ → Rest
  Long : Rest

-- the lines that end with a newline, without it, and what stands behind them
pub record Lines : Type 0 where
  pub whole : List (List ℕ)
  pub rest : Rest

abbrev pub only : Rest → Lines
only rest = record { whole = []; rest = rest }

-- one line more before the others
abbrev pub before_all : List ℕ → Lines → Lines
before_all line lines = record { whole = line ∷ lines.whole; rest = lines.rest }

-- The lines of a part of a line and the bytes behind it, where a line has at most so many bytes, its newline not
-- counted. They end where one has more.
abbrev pub lines_from : ℕ → List ℕ → List ℕ → Lines
lines_from most part [] = only (Part part)
lines_from most part (byte ∷ bytes) =
    if byte == 10 then before_all part (lines_from most [] bytes)
    else (if nat_le most (length part) then only Long
    else lines_from most (part ++ byte ∷ []) bytes)

abbrev pub lines_of : ℕ → List ℕ → Lines
lines_of most bytes = lines_from most [] bytes

abbrev pub is_newline : ℕ → Bool
is_newline byte = byte == 10

-- there is no newline among the bytes
abbrev pub IsPlain : List ℕ → Type 0
IsPlain bytes = list_any is_newline bytes ≡ false

-- a line, or a part of one
pub record IsLine (most : ℕ) (bytes : List ℕ) : Type 0 where
  pub plain : IsPlain bytes
  pub short : length bytes ≤ most
