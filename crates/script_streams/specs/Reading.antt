-- What a reader of lines does to the bytes of its source.
use Rattle.std.specs.Prelude.{◌≡◌, ◌≢◌, ℕ, ◌<◌, ◌≤◌, List, [], ◌∷◌, ◌++◌, length, take, drop, Bool, true, false, Option, Result, Ok, Err}
use Rattle.std.specs.Io.KnownBytes.{prepend_known, IsAtEnd}
use Rattle.script_streams.specs.Lines.{IsLine, IsPlain}
use Rattle.script_streams.specs.declared.line_reader.Next.{Next}
use Rattle.script_streams.specs.declared.line_reader.Next.TheVariants.{Line, Last, End}
use Rattle.script_streams.specs.declared.line_reader.LineError.{LineError}
use Rattle.script_streams.specs.declared.line_reader.LineError.TheVariants.{TooLong, Failed, Memory}

-- a reader: how many bytes its lines may have, the line that it read last, and what it read behind that
pub record Reading : Type 0 where
  pub most : ℕ
  pub line : List ℕ
  pub ahead : List ℕ

-- so many bytes more are taken into the line
abbrev pub with_part : Reading → ℕ → Reading
with_part r count = record { most = r.most; line = r.line ++ take count r.ahead; ahead = drop count r.ahead }

-- what comes, where the source tells what it has left
abbrev pub coming : Reading → Option (List ℕ) → Option (List ℕ)
coming r left = prepend_known r.ahead left

-- the line is over its length: so many bytes of it were taken
pub record IsLong (most : ℕ) (had left : Option (List ℕ)) : Type 0 where
  pub read : List ℕ
  pub plain : IsPlain read
  pub long : most < length read
  pub taken : had ≡ prepend_known read left

-- A line was taken with its newline, or the last one without, or there is none.
abbrev pub Gives : Next → ℕ → Option (List ℕ) → Reading → Option (List ℕ) → Type 0
Gives Line most had r left = IsLine most r.line × (had ≡ prepend_known (r.line ++ 10 ∷ []) (coming r left))
Gives Last most had r left = IsLine most r.line × (r.line ≢ []) × (r.ahead ≡ []) × IsAtEnd left × (had ≡ prepend_known r.line left)
Gives End most had r left = (r.line ≡ []) × (r.ahead ≡ []) × IsAtEnd left × (had ≡ left)

-- Why no line was taken. Where the source failed, a part of a line was. Nothing is said of want of memory.
abbrev pub StopsSo : LineError → ℕ → Option (List ℕ) → Reading → Option (List ℕ) → Type 0
StopsSo TooLong most had r left = IsLong most had (coming r left)
StopsSo Failed most had r left = IsLine most r.line × (r.ahead ≡ []) × (had ≡ prepend_known r.line left)
StopsSo Memory most had r left = Unit {0}

-- a piece of what was read ahead belongs to the line
pub record TakesPiece (old new : Reading) (rest : List ℕ) : Type 0 where
  pub piece : List ℕ
  pub plain : IsPlain piece
  pub ahead : old.ahead ≡ piece ++ rest
  pub line : new.line ≡ old.line ++ piece

-- What was read ahead is taken into the line: up to its newline, which is taken too, or all of it. It may be too
-- long for a line.
abbrev pub TakesPart : Reading → Reading → Result Bool LineError → Type 0
TakesPart old new (Ok true) = TakesPiece old new (10 ∷ new.ahead) × (length new.line ≤ old.most)
TakesPart old new (Ok false) = TakesPiece old new new.ahead × (new.ahead ≡ []) × (length new.line ≤ old.most)
TakesPart old new (Err TooLong) = (piece : List ℕ) × IsPlain piece × (old.ahead ≡ piece ++ new.ahead) × (old.most < length (old.line ++ piece)) × (new.line ≡ old.line)
TakesPart old new (Err Failed) = Unit {0}
TakesPart old new (Err Memory) = Unit {0}
