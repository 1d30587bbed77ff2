use Rattle.std.specs.Prelude.{ℕ, ◌+◌, ◌^◌, ◌<◌, ◌≤◌, ◌≡◌, List, [], ◌∷◌, length, map, if◌then◌else◌}
use Rattle.rec_id.specs.declared.item.Cell.{Cell}
use Rattle.lazy_rules.specs.Store.{is_open, closed_cell, given_up_cell}
use Rattle.shard_store.specs.Links.{cell_at, tag_in, IsLinked}

-- an order, and for how many cells more it has room
pub record Places : Type 0 where
  pub cells : List Cell
  pub spare : ℕ

-- the places of the open cells, counted from this one
abbrev pub open_from : ℕ → List Cell → List ℕ
open_from place [] = []
open_from place (cell ∷ cells) =
    if is_open cell.body then place ∷ open_from (place + 1) cells else open_from (place + 1) cells

-- the buckets and the open places are those of the cells, and there is so much room for all of them
pub record IsIndexed (cells : List Cell) (heads before opens : List ℕ) (spare cell_room before_room open_room : ℕ) : Type 0 where
  pub linked : IsLinked (tag_in (length heads) cells) heads before (length cells)
  pub before_len : length before ≡ length cells
  pub open_is : opens ≡ open_from 0 cells
  pub short : length cells < 2 ^ 32
  pub bucket_room : length cells + spare ≤ length heads
  pub cell_room_is : length cells + spare ≤ cell_room
  pub before_room_is : length cells + spare ≤ before_room
  pub open_room_is : length opens + spare ≤ open_room

-- what is kept in [from, to) was given up, and the rest stays
pub record IsGivenUp (from to : ℕ) (before after : List Cell) : Type 0 where
  pub len : length after ≡ length before
  pub within : (place : ℕ) → from ≤ place → place < to → cell_at after place ≡ given_up_cell (cell_at before place)
  pub below : (place : ℕ) → place < from → cell_at after place ≡ cell_at before place
  pub above : (place : ℕ) → to ≤ place → cell_at after place ≡ cell_at before place

-- open cells have become no-ops, all but those at these places
pub record IsClosing (before now : List Cell) (opens : List ℕ) : Type 0 where
  pub len : length now ≡ length before
  pub ids : (place : ℕ) → (cell_at now place).id ≡ (cell_at before place).id
  pub left : open_from 0 now ≡ opens
  pub same : map closed_cell now ≡ map closed_cell before
