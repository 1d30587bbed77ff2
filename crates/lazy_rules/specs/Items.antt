use Rattle.std.specs.Prelude.{ℕ, ◌+◌, ◌%◌, List, [], ◌∷◌, Bool, true, false, ◌&&◌, ◌==◌, if◌then◌else◌, Option, None}
use Rattle.rec_id.specs.declared.item.Item.{Item}
use Rattle.view_config.specs.declared.edition.Mode.{Mode}
use Rattle.view_config.specs.declared.edition.Mode.TheVariants.{M, St}
use Rattle.view_config.specs.Shape.{Dimensions}

-- records go through the sequencing replicas with their bytes
abbrev pub is_whole : Mode → Bool
is_whole M = true
is_whole St = false

-- the bytes of a record at this place, as its shard is given them by a Place or a Flush: only where
-- records go whole, and only to the shard that the place belongs to
abbrev pub bytes_for : Dimensions → ℕ → ℕ → Option (List ℕ) → Option (List ℕ)
bytes_for shape shard place bytes = if is_whole shape.mode && place % shape.shards == shard then bytes else None

-- items from this place on, as a shard is given them
abbrev pub items_for : Dimensions → ℕ → ℕ → List Item → List Item
items_for shape shard place [] = []
items_for shape shard place (item ∷ items) =
    record { id = item.id; bytes = bytes_for shape shard place item.bytes } ∷ items_for shape shard (place + 1) items
