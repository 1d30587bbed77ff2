use Rattle.std.specs.Prelude.{ℕ, suc, zero, ◌+◌, ◌-◌, ◌*◌, ◌/◌, ◌%◌, ◌^◌, Bool, false, true, ◌&&◌, ◌||◌, ◌==◌, nat_lt, nat_le, List, [], ◌∷◌, length, max, slice_index, if◌then◌else◌}
use Rattle.rec_id.specs.declared.marks.Marks.{Marks}

-- how many of a client's numbers, up to the greatest marked one, have a bit
abbrev pub span_of : Marks → ℕ
span_of marks = 64 * length marks.bits

-- bit i of the words, the least significant of the first word being bit 0
abbrev pub bit_of : List ℕ → ℕ → Bool
bit_of words i = (slice_index words (i / 64) / 2 ^ (i % 64)) % 2 == 1

-- the number is marked: its bit is there and set
abbrev pub is_marked : Marks → ℕ → Bool
is_marked marks number = nat_le number marks.top && bit_of marks.bits (marks.top - number)

-- the number is too far below the greatest marked one to have a bit
abbrev pub is_stale : Marks → ℕ → Bool
is_stale marks number = nat_le (number + span_of marks) marks.top

-- the number is marked, or stale
abbrev pub is_seen : Marks → ℕ → Bool
is_seen marks number = is_marked marks number || is_stale marks number

-- the number whose bits from `low` on, `count` of them, are as told, the others 0
abbrev pub bits_where : ℕ → ℕ → (ℕ → Bool) → ℕ
bits_where zero low told = 0
bits_where (suc count) low told = (if told low then 1 else 0) + 2 * bits_where count (low + 1) told

-- `count` words from bit `low` on, whose bits are as told
abbrev pub words_where : ℕ → ℕ → (ℕ → Bool) → List ℕ
words_where zero low told = []
words_where (suc count) low told = bits_where 64 low told ∷ words_where count (low + 64) told

-- the number stands at this bit below `top`, and is marked as told
abbrev pub stands_marked : ℕ → (ℕ → Bool) → ℕ → Bool
stands_marked top told i = nat_lt i top && told (top - i)

-- the marks of so many words whose marked numbers, as far as they have a bit, are as told
abbrev pub marks_where : ℕ → ℕ → (ℕ → Bool) → Marks
marks_where words top told = record { top = top; bits = words_where words 0 (stands_marked top told) }

-- the marks with one number more
abbrev pub mark : Marks → ℕ → Marks
mark marks number =
    marks_where (length marks.bits) (max marks.top number) (λ other. other == number || is_marked marks other)

-- no mark
abbrev pub no_marks : ℕ → Marks
no_marks words = marks_where words 0 (λ other. false)
