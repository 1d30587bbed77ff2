use Rattle.std.specs.Prelude.{ℕ, ◌+◌, ◌%◌, List, [], ◌∷◌, ◌++◌, drop, Bool, ◌==◌, ◌||◌, if◌then◌else◌, Option, Some, None}
use Rattle.std.specs.List.{list_any}
use Rattle.std.specs.Option.{is_some}
use Rattle.rec_id.specs.Identity.{Identity, shard_of}
use Rattle.rec_id.specs.declared.item.Body.{Body}
use Rattle.rec_id.specs.declared.item.Body.TheVariants.{Elsewhere, Open}
use Rattle.rec_id.specs.declared.item.Cell.{Cell}
use Rattle.rec_id.specs.declared.item.Item.{Item}
use Rattle.view_config.specs.declared.edition.Mode.{Mode}
use Rattle.view_config.specs.declared.edition.Mode.TheVariants.{M, St}
use Rattle.lazy_rules.specs.Store.{filled_or_open, held_bytes, held_beside, has_data, is_cell_of, bytes_in, kept_bytes, Store, recut}

-- the place belongs to this shard, of so many
abbrev pub owns : Mode → ℕ → ℕ → ℕ → Identity → Bool
owns M shard shards place id = place % shards == shard
owns St shard shards place id = shard_of id shards == shard

-- what an item becomes before the held data is looked at
abbrev pub drafted : Mode → ℕ → ℕ → ℕ → Item → Cell
drafted mode shard shards place item = record {
  id = item.id;
  body = if owns mode shard shards place item.id then filled_or_open item.bytes else Elsewhere;
}

abbrev pub drafts : Mode → ℕ → ℕ → ℕ → List Item → List Cell
drafts mode shard shards place [] = []
drafts mode shard shards place (item ∷ items) =
    drafted mode shard shards place item ∷ drafts mode shard shards (place + 1) items

-- an open draft gets the held data
abbrev pub settled_body : List (Identity × List ℕ) → Identity → Body → Body
settled_body held id Open = filled_or_open (held_bytes held id)
settled_body held id body = body

abbrev pub settled : List (Identity × List ℕ) → Cell → Cell
settled held cell = record cell { body = settled_body held cell.id cell.body }

-- what is held beside one cell more, and beside several
abbrev pub held_after : List (Identity × List ℕ) → Cell → List (Identity × List ℕ)
held_after held cell = held_beside cell.body held cell.id

abbrev pub held_beside_all : List (Identity × List ℕ) → List Cell → List (Identity × List ℕ)
held_beside_all held [] = held
held_beside_all held (cell ∷ cells) = held_beside_all (held_after held cell) cells

-- all drafts in their order, each with what is held by then
abbrev pub settled_all : List (Identity × List ℕ) → List Cell → List Cell
settled_all held [] = []
settled_all held (cell ∷ cells) = settled held cell ∷ settled_all (held_after held (settled held cell)) cells

-- data of the record is in the order or held
abbrev pub has_in : List Cell → List (Identity × List ℕ) → Identity → Bool
has_in cells held id = is_some (held_bytes held id) || list_any (is_cell_of has_data id) cells

-- data that is held unless it is there, beside this order
abbrev pub held_again : List Cell → List (Identity × List ℕ) → Identity → Option (List ℕ) → List (Identity × List ℕ)
held_again cells held id None = held
held_again cells held id (Some bytes) = if has_in cells held id then held else held ++ (id, bytes) ∷ []

abbrev pub held_again_all : List Cell → List (Identity × List ℕ) → List Cell → List (Identity × List ℕ)
held_again_all cells held [] = held
held_again_all cells held (cell ∷ others) = held_again_all cells (held_again cells held cell.id (bytes_in cell.body)) others

-- what a cut gives back: only where data came by itself
abbrev pub given_back : Mode → List Cell → List (Identity × List ℕ) → List Cell → List (Identity × List ℕ)
given_back M cells held tail = held
given_back St cells held tail = held_again_all cells held tail

abbrev pub cut_count : Mode → ℕ → ℕ
cut_count M count = 0
cut_count St count = count

-- the data that a cut gives back of a record that isn't held
abbrev pub bytes_back : Mode → List Cell → List Cell → Identity → Option (List ℕ)
bytes_back M cells tail id = None
bytes_back St cells tail id = if list_any (is_cell_of has_data id) cells then None else kept_bytes tail id

-- the cells that items would become from this place on
abbrev pub cells_of : Store → ℕ → List Item → List Cell
cells_of store from items = drop from (recut store from items).order
