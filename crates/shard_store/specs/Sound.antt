use Rattle.std.specs.Prelude.{ℕ, ◌<◌, ◌≤◌, ◌≡◌, List, length, Bool, false, Option, Some, None, slice_get}
use Rattle.rec_id.specs.declared.item.Cell.{Cell}
use Rattle.lazy_rules.specs.Store.{Store, is_open}
use Rattle.shard_store.specs.Kinds.{is_kept}
use Rattle.shard_store.specs.Links.{cell_at}

-- a store has its shard, its floor is final, what is final is there and has no open cell, and no data
-- is kept below the floor
pub record IsSound (store : Store) : Type 0 where
  pub shard_is : store.shard < store.shards
  pub floor_is : store.floor ≤ store.stable
  pub stable_is : store.stable ≤ length store.order
  pub closed : (place : ℕ) → place < store.stable → is_open (cell_at store.order place).body ≡ false
  pub given_up : (place : ℕ) → place < store.floor → is_kept (cell_at store.order place).body ≡ false

-- the cell at this place is there, and open
abbrev pub is_open_in : Option Cell → Bool
is_open_in None = false
is_open_in (Some cell) = is_open cell.body

abbrev pub is_open_at : List Cell → ℕ → Bool
is_open_at cells place = is_open_in (slice_get cells place)
