use Rattle.std.specs.Prelude.{ℕ, ◌≡◌, ◌+◌, ◌*◌, ◌<◌, ◌≤◌, Bool, false, ◌&&◌, ◌||◌, ◌==◌, nat_lt, nat_le, List, [], ◌∷◌, length, max, count_by, if◌then◌else◌}
use Rattle.std.specs.List.{range_with_len}
use Rattle.rec_id.specs.Identity.{Identity}
use Rattle.rec_id.specs.declared.marks.Marks.{Marks}
use Rattle.seen_window.specs.Image.{words_of, top_in, seen_in, marked_in}

-- the identity is among those that were marked
abbrev pub was_marked : List Identity → ℕ → ℕ → Bool
was_marked [] client number = false
was_marked (id ∷ ids) client number = (id.client == client && id.number == number) || was_marked ids client number

-- the greatest number of the client that was marked, or 0
abbrev pub top_after : List Identity → ℕ → ℕ
top_after [] client = 0
top_after (id ∷ ids) client = if id.client == client then max id.number (top_after ids client) else top_after ids client

-- the number was marked, or is so far below the greatest marked one that nobody asks
abbrev pub seen_after : ℕ → List Identity → ℕ → ℕ → Bool
seen_after window ids client number =
    was_marked ids client number || nat_le (number + window) (top_after ids client)

-- how many marked numbers aren't so far below the greatest marked one
abbrev pub marked_after : ℕ → List Identity → ℕ → ℕ
marked_after window ids client =
    count_by (λ number. was_marked ids client number && nat_lt (top_after ids client) (number + window)) (range_with_len 1 (top_after ids client))

-- how many of a client's numbers have a bit
abbrev pub width_of : List Marks → ℕ
width_of image = 64 * words_of image

-- what the image tells of each of its clients is what these marks, in any order, tell
pub record StandsFor (image : List Marks) (ids : List Identity) : Type 0 where
  pub top : (client : ℕ) → client < length image → top_in image client ≡ top_after ids client
  pub seen : (id : Identity) → id.client < length image → 1 ≤ id.number → seen_in image id ≡ seen_after (width_of image) ids id.client id.number
  pub marked : (client : ℕ) → client < length image → marked_in image client ≡ marked_after (width_of image) ids client
