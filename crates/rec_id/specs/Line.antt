use Rattle.std.specs.Prelude.{◌≡◌, ℕ, ◌<◌, List, Option, Some, None, option_map, slice_get}
use Rattle.rec_id.specs.Identity.{Identity}
use Rattle.rec_id.specs.History.{told_at, IsInvokedWith}
use Rattle.rec_id.specs.declared.entry.Entry.{Entry}
use Rattle.rec_id.specs.declared.entry.Entry.TheVariants.{Kept, Noop, Gone}
use Rattle.rec_id.specs.declared.event.Event.{Event}

-- the identity that an entry names
abbrev pub named_id : Entry → Identity
named_id (Kept id bytes) = id
named_id (Noop id) = id
named_id (Gone id) = id

-- the identity of an entry that has the bytes of its record, or had them
abbrev pub appended_id : Entry → Option Identity
appended_id (Kept id bytes) = Some id
appended_id (Noop id) = None
appended_id (Gone id) = Some id

-- the identity that the line names at a place
abbrev pub id_at : List Entry → ℕ → Option Identity
id_at line place = option_map named_id (slice_get line place)

-- a kept or gone entry of the identity stands in the line
pub record IsAppended (line : List Entry) (id : Identity) : Type 0 where
  pub place : ℕ
  pub tells : told_at appended_id line place ≡ Some id

-- the identity stands in the line, at a place below this one
pub record StandsBelow (line : List Entry) (id : Identity) (limit : ℕ) : Type 0 where
  pub place : ℕ
  pub below : place < limit
  pub names : id_at line place ≡ Some id

-- the entry may be told where this one stands in the line: the same, but of a gone one the bytes with which it was invoked
abbrev pub IsToldOf : List Event → Entry → Entry → Type 0
IsToldOf history (Kept id bytes) told = told ≡ Kept id bytes
IsToldOf history (Noop id) told = told ≡ Noop id
IsToldOf history (Gone id) told = (bytes : List ℕ) × (told ≡ Kept id bytes) × IsInvokedWith history id bytes

-- the entry may be told of a place of the line
pub record IsToldAt (history : List Event) (line : List Entry) (place : ℕ) (told : Entry) : Type 0 where
  pub entry : Entry
  pub stands : slice_get line place ≡ Some entry
  pub is_told : IsToldOf history entry told
