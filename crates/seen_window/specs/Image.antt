use Rattle.std.specs.Prelude.{ℕ, Bool, not, ◌&&◌, ◌||◌, ◌==◌, nat_lt, nat_le, List, length, map, replicate, slice_index_or, slice_set, count_by}
use Rattle.std.specs.List.{range_with_len, list_all}
use Rattle.rec_id.specs.Identity.{Identity}
use Rattle.rec_id.specs.Marks.{span_of, bit_of, is_marked, is_seen, stands_marked, marks_where, mark, no_marks}
use Rattle.rec_id.specs.declared.marks.Marks.{Marks}

-- the marks of a client; those of no words where the image has none
abbrev pub marks_of : List Marks → ℕ → Marks
marks_of image client = slice_index_or image client (no_marks 0)

-- how many words each client has
abbrev pub words_of : List Marks → ℕ
words_of image = length (marks_of image 0).bits

-- the image of so many clients, of whose numbers none is marked
abbrev pub no_image : ℕ → ℕ → List Marks
no_image clients words = replicate clients (no_marks words)

abbrev pub top_in : List Marks → ℕ → ℕ
top_in image client = (marks_of image client).top

abbrev pub seen_in : List Marks → Identity → Bool
seen_in image id = is_seen (marks_of image id.client) id.number

-- the image with one identity more
abbrev pub mark_in : List Marks → Identity → List Marks
mark_in image id = slice_set image id.client (mark (marks_of image id.client) id.number)

-- how many of the numbers that have a bit, from the greatest marked one down to 1, are marked
abbrev pub marked_count : Marks → ℕ
marked_count marks = count_by (stands_marked marks.top (is_marked marks)) (range_with_len 0 (span_of marks))

abbrev pub marked_in : List Marks → ℕ → ℕ
marked_in image client = marked_count (marks_of image client)

-- so many words, no bit for a number below 1, and the bit of the greatest marked number, if there is one
unfoldable pub is_formed : ℕ → Marks → Bool
is_formed words marks =
    length marks.bits == words
    && (list_all (λ i. nat_lt i marks.top || not (bit_of marks.bits i)) (range_with_len 0 (span_of marks))
    && (marks.top == 0 || bit_of marks.bits 0))

-- the marks of 1 to 256 clients, all of 4 words or all of 64, in the form of a window
unfoldable pub is_image : List Marks → Bool
is_image image =
    (words_of image == 4 || words_of image == 64)
    && (nat_le 1 (length image) && (nat_le (length image) 256 && list_all (is_formed (words_of image)) image))

-- the marks in 64 words by which the same numbers are seen
unfoldable pub widened : Marks → Marks
widened marks = marks_where 64 marks.top (is_seen marks)

abbrev pub widened_image : List Marks → List Marks
widened_image image = map widened image
