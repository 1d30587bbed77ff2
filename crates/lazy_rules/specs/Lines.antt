use Rattle.std.specs.Prelude.{ℕ, ◌+◌, ◌%◌, List, [], ◌∷◌, ◌++◌, map, take, find, position, Option, Some, None, option_and_then, slice_get, slice_index_or, unwrap_or, Result, Ok, Err}
use Rattle.std.specs.Option.{is_none, option_map, option_map_or}
use Rattle.rec_id.specs.Identity.{Identity, shard_of}
use Rattle.rec_id.specs.declared.entry.Entry.{Entry}
use Rattle.rec_id.specs.declared.entry.Entry.TheVariants.{Kept as KeptEntry, Noop as NoopEntry, Gone as GoneEntry}
use Rattle.rec_id.specs.declared.item.Body.{Body}
use Rattle.rec_id.specs.declared.item.Body.TheVariants.{Kept, Gone, Open}
use Rattle.rec_id.specs.declared.item.Cell.{Cell}
use Rattle.rec_id.specs.declared.item.Item.{Item}
use Rattle.view_config.specs.declared.edition.Mode.{Mode}
use Rattle.view_config.specs.declared.edition.Mode.TheVariants.{M, St}
use Rattle.view_config.specs.declared.nodes.Node.{Node}
use Rattle.view_config.specs.declared.nodes.Node.TheVariants.{Shard}
use Rattle.view_config.specs.Shape.{Dimensions, node_of}
use Rattle.lazy_rules.specs.ControlState.{newest}
use Rattle.lazy_rules.specs.Holders.{Holding, holding, is_alive}
use Rattle.lazy_rules.specs.ShardState.{ShardState}
use Rattle.lazy_rules.specs.Store.{Store, bytes_of}
use Rattle.lazy_rules.specs.WorldState.{WorldState, shard_place}

-- The log, as a holder has it: what is bound, as the shards have it, and then what it holds itself. Each
-- shard is asked at its first replica, which is the first of the newest configuration that isn't crashed.

-- the number of a shard's first replica, where these are its replicas
abbrev pub first_alive : WorldState → List ℕ → Option ℕ
first_alive w nodes = find (is_alive w) nodes

-- the first shard that has none: where there is one, every line is lost
abbrev pub lost_shard : WorldState → Option ℕ
lost_shard w = position (λ nodes. is_none (first_alive w nodes)) (newest w.control).shards

-- the shard replica of this number
abbrev pub shard_at : WorldState → Option Node → Option ShardState
shard_at w (Some (Shard i j)) = slice_get w.shards (shard_place w.shape i j)
shard_at w _ = None

abbrev pub store_numbered : WorldState → ℕ → Option Store
store_numbered w node = option_map (λ shard. shard.store) (shard_at w (node_of w.shape node))

-- the stores of the first replicas, by shard
abbrev pub first_store : WorldState → List ℕ → Option Store
first_store w nodes = option_and_then (store_numbered w) (first_alive w nodes)

abbrev pub first_stores : WorldState → List (Option Store)
first_stores w = map (first_store w) (newest w.control).shards

abbrev pub store_of : List (Option Store) → ℕ → Option Store
store_of stores shard = slice_index_or stores shard None

-- the shard that a place belongs to: by its number where records go whole, else by its record
abbrev pub owner_of : Dimensions → ℕ → Identity → ℕ
owner_of shape place id = elim shape.mode [ M ↦ place % shape.shards | St ↦ shard_of id shape.shards ]

-- the order that a shard has, and its body at a place; an open one stands for none, and reads as a no-op
abbrev pub order_of : List (Option Store) → ℕ → List Cell
order_of stores shard = option_map_or (λ store. store.order) (store_of stores shard) []

abbrev pub body_at : List (Option Store) → ℕ → ℕ → Body
body_at stores shard place = option_map_or (λ cell. cell.body) (slice_get (order_of stores shard) place) Open

-- the entry of a bound place: its identity, as the first shard has it, and the body that its own shard has
abbrev pub entry_of : Identity → Body → Entry
entry_of id (Kept bytes) = KeptEntry id bytes
entry_of id Gone = GoneEntry id
entry_of id _ = NoopEntry id

abbrev pub bound_entry : Dimensions → List (Option Store) → ℕ → Identity → Entry
bound_entry shape stores place id = entry_of id (body_at stores (owner_of shape place id) place)

-- the entries of these cells, the first of which is at this place
abbrev pub bound_entries : Dimensions → List (Option Store) → ℕ → List Cell → List Entry
bound_entries shape stores place [] = []
bound_entries shape stores place (cell ∷ cells) =
    bound_entry shape stores place cell.id ∷ bound_entries shape stores (place + 1) cells

-- the data that a shard holds or keeps of a record
abbrev pub data_of : List (Option Store) → ℕ → Identity → Option (List ℕ)
data_of stores shard id = option_and_then (λ store. bytes_of store id) (store_of stores shard)

-- the entry of a record with this data, and a no-op where there is none
abbrev pub entry_with : Identity → Option (List ℕ) → Entry
entry_with id bytes = option_map_or (KeptEntry id) bytes (NoopEntry id)

-- the entry of an item that isn't bound: its own bytes where records go whole, else its shard's data
abbrev pub item_entry : Dimensions → List (Option Store) → Item → Entry
item_entry shape stores item = elim shape.mode [
  | M ↦ KeptEntry item.id (unwrap_or item.bytes [])
  | St ↦ entry_with item.id (data_of stores (shard_of item.id shape.shards) item.id)
]

-- the line of what a holder has, over these stores. The identities are read in the first shard's
abbrev pub line_over : Dimensions → List (Option Store) → Holding → List Entry
line_over shape stores held =
    bound_entries shape stores 0 (take held.bound (order_of stores 0))
    ++ map (item_entry shape stores) held.items

-- the line of a holder, of any world
abbrev pub line_of : WorldState → ℕ → List Entry
line_of w holder = line_over w.shape (first_stores w) (holding w holder)

-- the line of a holder, or the first shard that has no replica left
abbrev pub line_told : WorldState → ℕ → Result (List Entry) ℕ
line_told w holder = option_map_or Err (lost_shard w) (Ok (line_of w holder))
