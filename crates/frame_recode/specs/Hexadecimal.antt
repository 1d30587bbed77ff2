use Rattle.std.specs.Prelude.{ℕ, Bool, true, false, ◌&&◌, nat_le, List, Option, Some, None, Result, Ok, Err}
use Rattle.std.specs.List.{list_any}
use Rattle.hex.specs.Hex.{decode_of}
use Rattle.hex.specs.declared.error.FromHexError.{FromHexError}

-- `A` to `Z`
abbrev pub is_capital : ℕ → Bool
is_capital byte = nat_le 65 byte && nat_le byte 90

abbrev pub decoded : Result (List ℕ) FromHexError → Option (List ℕ)
decoded (Ok bytes) = Some bytes
decoded (Err e) = None

abbrev pub without_capitals : Bool → List ℕ → Option (List ℕ)
without_capitals true line = None
without_capitals false line = decoded (decode_of line)

-- the bytes of a line in hexadecimal, where it has no capital letter: two digits a byte, the higher first
abbrev pub bytes_in : List ℕ → Option (List ℕ)
bytes_in line = without_capitals (list_any is_capital line) line
