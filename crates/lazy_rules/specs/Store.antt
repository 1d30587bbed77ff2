use Rattle.std.specs.Prelude.{ℕ, ◌+◌, ◌%◌, max, List, [], ◌∷◌, ◌++◌, length, map, filter, take, drop, position, Bool, true, false, not, ◌&&◌, ◌||◌, ◌==◌, if◌then◌else◌, Option, Some, None, slice_get, slice_set, slice_range}
use Rattle.std.specs.List.{list_any}
use Rattle.std.specs.Option.{is_some, option_or}
use Rattle.rec_id.specs.Identity.{Identity, shard_of}
use Rattle.rec_id.specs.declared.entry.Entry.{Entry}
use Rattle.rec_id.specs.declared.entry.Entry.TheVariants.{Kept as KeptEntry, Noop as NoopEntry}
use Rattle.rec_id.specs.declared.item.Body.{Body}
use Rattle.rec_id.specs.declared.item.Body.TheVariants.{Elsewhere, Kept, Noop, Open, Gone}
use Rattle.rec_id.specs.declared.item.Cell.{Cell}
use Rattle.rec_id.specs.declared.item.Item.{Item}
use Rattle.view_config.specs.declared.edition.Mode.{Mode}
use Rattle.view_config.specs.declared.edition.Mode.TheVariants.{M, St}
use Rattle.rec_id.specs.Identity.{same_id}

-- what a shard replica stores: the order of all records, with the data of those of its own shard;
-- data that has no place yet; how far the order is final; and below which place data was given up
pub record Store : Type 0 where
  pub mode : Mode
  -- the shard, of so many
  pub shard : ℕ
  pub shards : ℕ
  pub order : List Cell
  pub held : List (Identity × List ℕ)
  pub stable : ℕ
  pub floor : ℕ

-- the store at first
abbrev pub new_store : Mode → ℕ → ℕ → Store
new_store mode shard shards = record {
  mode = mode;
  shard = shard;
  shards = shards;
  order = [];
  held = [];
  stable = 0;
  floor = 0;
}

abbrev pub is_noop : Body → Bool
is_noop Noop = true
is_noop _ = false

abbrev pub is_open : Body → Bool
is_open Open = true
is_open _ = false

-- the record's data is here, or was given up
abbrev pub has_data : Body → Bool
has_data (Kept bytes) = true
has_data Gone = true
has_data _ = false

-- the data that is here
abbrev pub bytes_in : Body → Option (List ℕ)
bytes_in (Kept bytes) = Some bytes
bytes_in _ = None

-- a cell of this record whose body passes the test
abbrev pub is_cell_of : (Body → Bool) → Identity → Cell → Bool
is_cell_of test id cell = same_id cell.id id && test cell.body

-- the data that is held for the record, and what is held without it
abbrev pub held_bytes : List (Identity × List ℕ) → Identity → Option (List ℕ)
held_bytes [] id = None
held_bytes (one ∷ others) id = if same_id one.0 id then Some one.1 else held_bytes others id

abbrev pub without_held : List (Identity × List ℕ) → Identity → List (Identity × List ℕ)
without_held held id = filter (λ one. not (same_id one.0 id)) held

-- the data of the record's first cell that has any
abbrev pub kept_bytes : List Cell → Identity → Option (List ℕ)
kept_bytes [] id = None
kept_bytes (cell ∷ cells) id =
    if same_id cell.id id then option_or (bytes_in cell.body) (kept_bytes cells id) else kept_bytes cells id

-- the data of the record is held, or kept, or was given up
abbrev pub has : Store → Identity → Bool
has store id = is_some (held_bytes store.held id) || list_any (is_cell_of has_data id) store.order

-- the first place of a no-op of the record, and of an open cell of it
abbrev pub noop_at : Store → Identity → Option ℕ
noop_at store id = position (is_cell_of is_noop id) store.order

abbrev pub open_at : Store → Identity → Option ℕ
open_at store id = position (is_cell_of is_open id) store.order

-- some cell below this place is open, and some cell at all
abbrev pub has_open_below : Store → ℕ → Bool
has_open_below store place = list_any (λ cell. is_open cell.body) (take place store.order)

abbrev pub has_open : Store → Bool
has_open store = list_any (λ cell. is_open cell.body) store.order

-- the first open place
abbrev pub first_open : Store → Option ℕ
first_open store = position (λ cell. is_open cell.body) store.order

-- the data of the record: what is held, or else what its first kept cell has
abbrev pub bytes_of : Store → Identity → Option (List ℕ)
bytes_of store id = option_or (held_bytes store.held id) (kept_bytes store.order id)

-- the data is held, unless it is there
abbrev pub hold : Store → Identity → List ℕ → Store
hold store id bytes = if has store id then store else record store { held = store.held ++ (id, bytes) ∷ [] }

-- the place belongs to the store's shard: by its number where records go whole, else by its record
abbrev pub is_own_by : Mode → Store → ℕ → Identity → Bool
is_own_by M store place id = place % store.shards == store.shard
is_own_by St store place id = shard_of id store.shards == store.shard

abbrev pub is_own : Store → ℕ → Identity → Bool
is_own store place id = is_own_by store.mode store place id

-- a cell with this data, or open
abbrev pub filled_or_open : Option (List ℕ) → Body
filled_or_open None = Open
filled_or_open (Some bytes) = Kept bytes

-- the cell that an item becomes behind the order: of its own data, or of the held data
abbrev pub body_for : Store → Item → Body
body_for store item =
    if is_own store (length store.order) item.id
    then filled_or_open (option_or item.bytes (held_bytes store.held item.id))
    else Elsewhere

abbrev pub cell_for : Store → Item → Cell
cell_for store item = record { id = item.id; body = body_for store item }

-- what is held beside a cell with this body: nothing of a kept record
abbrev pub held_beside : Body → List (Identity × List ℕ) → Identity → List (Identity × List ℕ)
held_beside (Kept bytes) held id = without_held held id
held_beside _ held id = held

-- the order with one cell more
abbrev pub with_cell : Store → Cell → Store
with_cell store cell = record store {
  order = store.order ++ cell ∷ [];
  held = held_beside cell.body store.held cell.id;
}

-- the order with cells as given
abbrev pub extend_cells : Store → List Cell → Store
extend_cells store [] = store
extend_cells store (cell ∷ cells) = extend_cells (with_cell store cell) cells

-- the order with a cell for each item
abbrev pub extend : Store → List Item → Store
extend store [] = store
extend store (item ∷ items) = extend (with_cell store (cell_for store item)) items

-- the order with another body at this place
abbrev pub with_body : List Cell → ℕ → Body → Option Cell → List Cell
with_body order place body None = order
with_body order place body (Some cell) = slice_set order place (record cell { body = body })

-- the data of an open cell has come
abbrev pub fill : Store → ℕ → List ℕ → Store
fill store place bytes = record store {
  order = with_body store.order place (Kept bytes) (slice_get store.order place);
}

-- all open cells become no-ops, so many
abbrev pub closed : Body → Body
closed Open = Noop
closed body = body

abbrev pub closed_cell : Cell → Cell
closed_cell cell = record cell { body = closed cell.body }

abbrev pub open_to_noop : Store → Store
open_to_noop store = record store { order = map closed_cell store.order }

abbrev pub open_count : Store → ℕ
open_count store = length (filter (λ cell. is_open cell.body) store.order)

-- the data of cells that were cut off is held again, each in the order of their places
abbrev pub hold_again : Store → Identity → Option (List ℕ) → Store
hold_again store id None = store
hold_again store id (Some bytes) = hold store id bytes

abbrev pub hold_cells : Store → List Cell → Store
hold_cells store [] = store
hold_cells store (cell ∷ cells) = hold_cells (hold_again store cell.id (bytes_in cell.body)) cells

-- only where data came by itself
abbrev pub give_back : Mode → Store → List Cell → Store
give_back M store cells = store
give_back St store cells = hold_cells store cells

-- the order is cut off from this place on
abbrev pub cut : Store → ℕ → Store
cut store from = give_back store.mode (record store { order = take from store.order }) (drop from store.order)

-- another order from this place on
abbrev pub recut : Store → ℕ → List Item → Store
recut store from items = extend (cut store from) items

abbrev pub recut_cells : Store → ℕ → List Cell → Store
recut_cells store from cells = extend_cells (cut store from) cells

abbrev pub raise_stable : Store → ℕ → Store
raise_stable store to = record store { stable = to }

-- the entry of a cell of the store's own shard, if it has data or is a no-op
abbrev pub entry_in : Identity → Body → Option Entry
entry_in id (Kept bytes) = Some (KeptEntry id bytes)
entry_in id Noop = Some (NoopEntry id)
entry_in id _ = None

abbrev pub placed_entry : ℕ → Option Entry → List (ℕ × Entry)
placed_entry place None = []
placed_entry place (Some entry) = (place, entry) ∷ []

-- the entries of cells from this place on
abbrev pub entries_from : ℕ → List Cell → List (ℕ × Entry)
entries_from place [] = []
entries_from place (cell ∷ cells) = placed_entry place (entry_in cell.id cell.body) ++ entries_from (place + 1) cells

-- the entries of the store's own places in [from, to)
abbrev pub part : Store → ℕ → ℕ → List (ℕ × Entry)
part store from to = entries_from from (slice_range store.order from to)

-- kept data below the floor is given up
abbrev pub given_up : Body → Body
given_up (Kept bytes) = Gone
given_up body = body

abbrev pub given_up_cell : Cell → Cell
given_up_cell cell = record cell { body = given_up cell.body }

abbrev pub trim : Store → ℕ → Store
trim store to = record store {
  order = map given_up_cell (take (max store.floor to) store.order) ++ drop (max store.floor to) store.order;
  floor = max store.floor to;
}
