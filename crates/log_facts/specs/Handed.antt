use Rattle.std.specs.Prelude.{◌≡◌, ◌≢◌, ◌<◌, ◌≤◌, ℕ, ◌+◌, List, [], ◌∷◌, Some}
use Rattle.list_facts.specs.Lists.{In}
use Rattle.rec_id.specs.Identity.{Identity}
use Rattle.rec_id.specs.declared.event.Event.{Event}
use Rattle.rec_id.specs.declared.event.Event.TheVariants.{Invoke}
use Rattle.rec_id.specs.declared.item.Body.{Body}
use Rattle.rec_id.specs.declared.item.Body.TheVariants.{Elsewhere, Kept, Noop, Open, Gone}
use Rattle.rec_id.specs.declared.item.Cell.{Cell}
use Rattle.rec_id.specs.declared.item.Item.{Item}
use Rattle.view_config.specs.declared.edition.Mode.TheVariants.{St}
use Rattle.view_config.specs.Shape.{Dimensions}
use Rattle.lazy_rules.specs.Items.{bytes_for}
use Rattle.lazy_rules.specs.Lines.{owner_of}
use Rattle.log_facts.specs.Past.{IsBegun}

-- What is handed on and kept beside identities: the data of items and of cells.

-- P holds of each member and its place, the first one's being this
abbrev pub EachFrom : {A : Type 0} → (ℕ → A → Type 0) → ℕ → List A → Type 0
EachFrom P place [] = Unit {0}
EachFrom P place (x ∷ xs) = P place x × EachFrom P (place + 1) xs

-- an item that a shard is given for this place: its append began, and it has the bytes of that exactly where they
-- are due
pub record ItemGiven (shape : Dimensions) (history : List Event) (shard place : ℕ) (item : Item) : Type 0 where
  pub own : List ℕ
  pub begun : In (Invoke item.id own) history
  pub has : item.bytes ≡ bytes_for shape shard place (Some own)

-- the body of a cell at a place whose data is this shard's: elsewhere exactly where the place is another shard's. In
-- Erwin-m data comes with its place, so none is ever lacking
abbrev pub BodyPlaced : Dimensions → ℕ → ℕ → Body → Type 0
BodyPlaced shape shard owner Elsewhere = owner ≢ shard
BodyPlaced shape shard owner (Kept bytes) = owner ≡ shard
BodyPlaced shape shard owner Noop = (owner ≡ shard) × (shape.mode ≡ St)
BodyPlaced shape shard owner Open = (owner ≡ shard) × (shape.mode ≡ St)
BodyPlaced shape shard owner Gone = owner ≡ shard

abbrev pub CellPlaced : Dimensions → ℕ → ℕ → Cell → Type 0
CellPlaced shape shard place cell = BodyPlaced shape shard (owner_of shape place cell.id) cell.body

-- the append of a cell began, with its bytes where they are there
abbrev pub BodyBegun : List Event → Identity → Body → Type 0
BodyBegun history id (Kept bytes) = In (Invoke id bytes) history
BodyBegun history id _ = IsBegun history id

abbrev pub CellBegun : List Event → Cell → Type 0
CellBegun history cell = BodyBegun history cell.id cell.body

-- what is handed on is decided: no cell is open, and none is gone
abbrev pub BodyDecided : Body → Type 0
BodyDecided Open = ⊥
BodyDecided Gone = ⊥
BodyDecided _ = Unit {0}

-- what is kept is above the floor, what is gone below it
abbrev pub BodyFloored : ℕ → ℕ → Body → Type 0
BodyFloored floor place (Kept bytes) = floor ≤ place
BodyFloored floor place Gone = place < floor
BodyFloored floor place _ = Unit {0}

abbrev pub CellFloored : ℕ → ℕ → Cell → Type 0
CellFloored floor place cell = BodyFloored floor place cell.body

-- a cell that a primary hands to a backup
pub record CellHanded (shape : Dimensions) (history : List Event) (shard place : ℕ) (cell : Cell) : Type 0 where
  pub placed : CellPlaced shape shard place cell
  pub begun : CellBegun history cell
  pub decided : BodyDecided cell.body
