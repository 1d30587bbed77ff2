-- The lines of some bytes, by what they begin with.
use Rattle.std.proofs.Common.{◌≡◌, ℕ, ◌+◌, ◌<◌, ◌≤◌, Bool, false, List, [], ◌∷◌, ◌++◌, length, sym, ap, ◌∙◌, append_assoc, append-nil, length-append, arith, inl, inr}
use Rattle.std.specs.Prelude.{nat_le, if◌then◌else◌}
use Rattle.std.specs.List.{list_any}
use Rattle.std.proofs.lemmas.Bool.{cases_lt, le-leb, lt-leb, or_parts}
use Rattle.script_streams.specs.Lines.{IsLine, IsPlain, Long, Part, before_all, is_newline, lines_from, lines_of, only}

module _ (most : ℕ) where
  -- a byte that belongs to the line
  one_more : (part : List ℕ) (byte : ℕ) (bytes : List ℕ) → is_newline byte ≡ false → length part < most → lines_from most part (byte ∷ bytes) ≡ lines_from most (part ++ byte ∷ []) bytes
  one_more part byte bytes plain short =
      ap (λ (b : Bool). if b then before_all part (lines_from most [] bytes) else (if nat_le most (length part) then only Long else lines_from most (part ++ byte ∷ []) bytes)) plain
      ∙ ap (λ (b : Bool). if b then only Long else lines_from most (part ++ byte ∷ []) bytes) (lt-leb most (length part) short)

  -- one that is too much for it
  one_over : (part : List ℕ) (byte : ℕ) (bytes : List ℕ) → is_newline byte ≡ false → most ≤ length part → lines_from most part (byte ∷ bytes) ≡ only Long
  one_over part byte bytes plain full =
      ap (λ (b : Bool). if b then before_all part (lines_from most [] bytes) else (if nat_le most (length part) then only Long else lines_from most (part ++ byte ∷ []) bytes)) plain
      ∙ ap (λ (b : Bool). if b then only Long else lines_from most (part ++ byte ∷ []) bytes) (le-leb most (length part) full)

  -- bytes without a newline belong to the line
  part_of_line : (part bytes more : List ℕ) → IsPlain bytes → length part + length bytes ≤ most → lines_from most part (bytes ++ more) ≡ lines_from most (part ++ bytes) more
  part_of_line part [] more plain short = ap (λ (xs : List ℕ). lines_from most xs more) (sym (append-nil part))
  part_of_line part (byte ∷ bytes) more plain short =
      let parts = or_parts (is_newline byte) (list_any is_newline bytes) plain in
      one_more part byte (bytes ++ more) parts.0 (omega arith)
      ∙ part_of_line (part ++ byte ∷ []) bytes more parts.1 (omega (arith, length-append part (byte ∷ [])))
      ∙ ap (λ (xs : List ℕ). lines_from most xs more) (append_assoc part (byte ∷ []) bytes)

  long_part : (part bytes more : List ℕ) → IsPlain bytes → length part ≤ most → most < length part + length bytes → lines_from most part (bytes ++ more) ≡ only Long
  long_part part [] more plain short long = absurd (omega arith)
  long_part part (byte ∷ bytes) more plain short long =
      let parts = or_parts (is_newline byte) (list_any is_newline bytes) plain in
      elim (cases_lt (length part) most) [
        | inl below ↦
            one_more part byte (bytes ++ more) parts.0 below
            ∙ long_part (part ++ byte ∷ []) bytes more parts.1 (omega (arith, length-append part (byte ∷ []))) (omega (arith, length-append part (byte ∷ [])))
        | inr full ↦ one_over part byte (bytes ++ more) parts.0 full
      ]

  -- a line, and those behind it
  pub line_first : (line more : List ℕ) → IsLine most line → lines_of most ((line ++ 10 ∷ []) ++ more) ≡ before_all line (lines_of most more)
  line_first line more is =
      ap (lines_of most) (append_assoc line (10 ∷ []) more)
      ∙ part_of_line [] line (10 ∷ more) is.plain (omega (arith, is.short))

  -- a part of a line is all that is left
  pub part_alone : (part : List ℕ) → IsLine most part → lines_of most part ≡ only (Part part)
  part_alone part is = ap (lines_of most) (sym (append-nil part)) ∙ part_of_line [] part [] is.plain (omega (arith, is.short))

  -- a line that is too long, whatever comes behind it
  pub long_first : (read more : List ℕ) → IsPlain read → most < length read → lines_of most (read ++ more) ≡ only Long
  long_first read more plain long = long_part [] read more plain (omega arith) (omega arith)
