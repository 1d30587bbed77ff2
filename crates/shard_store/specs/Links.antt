use Rattle.std.specs.Prelude.{ℕ, suc, zero, slice_index_or, ◌+◌, ◌*◌, ◌%◌, ◌<◌, ◌≡◌, List, length, ◌==◌, if◌then◌else◌}
use Rattle.rec_id.specs.Identity.{Identity}
use Rattle.rec_id.specs.declared.item.Cell.{Cell}
use Rattle.rec_id.specs.declared.item.Body.TheVariants.{Elsewhere}

-- the bucket of an identity, of so many
abbrev pub bucket : ℕ → Identity → ℕ
bucket size id = (id.client * 40503 + id.number) % size

-- the cell at a place, and its bucket
abbrev pub blank : Cell
blank = record { id = record { client = 0; number = 0 }; body = Elsewhere }

abbrev pub cell_at : List Cell → ℕ → Cell
cell_at cells place = slice_index_or cells place blank

abbrev pub tag_in : ℕ → List Cell → ℕ → ℕ
tag_in size cells place = bucket size (cell_at cells place).id

-- the end of the last place below n with this tag, 0 where there is none
unfoldable pub last_end : (ℕ → ℕ) → ℕ → ℕ → ℕ
last_end tag_of tag zero = 0
last_end tag_of tag (suc n) = if tag_of n == tag then suc n else last_end tag_of tag n

-- of n places: each bucket knows the end of its last one, each place that of the one before it
pub record IsLinked (tag_of : ℕ → ℕ) (heads before : List ℕ) (n : ℕ) : Type 0 where
  pub head_is : (tag : ℕ) → tag < length heads → slice_index_or heads tag 0 ≡ last_end tag_of tag n
  pub before_is : (place : ℕ) → place < n → slice_index_or before place 0 ≡ last_end tag_of (tag_of place) place
