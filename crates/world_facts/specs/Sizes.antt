use Rattle.lazy_msgs.specs.declared.msg.Msg.{Msg}
use Rattle.lazy_msgs.specs.declared.msg.Msg.TheVariants.{Append, AppendAck, Put, DataAck, Rejected, Place, Placed, Copy, Copied, Order, Ordered, Stable, Probe, ProbeAck, TailReady, Fetch, Part, Flush, FlushCopy, Flushed, Seal, Sealed, SealedEmpty, NewView, Started, AskView, ViewIs, Claim, Trim, TrimAck, TrimmedAt}
use Rattle.lazy_msgs.specs.FrameLimits.{IsWord, IsCounted, BytesFit, IsTwo}
use Rattle.lazy_msgs.specs.declared.limits.TheConstants.{BATCH_LIMIT, PENDING_LIMIT}
use Rattle.lazy_rules.specs.declared.limits.TheConstants.{POSITION_LIMIT}
use Rattle.rec_id.specs.declared.limits.TheConstants.{READ_LIMIT}
use Rattle.rec_id.specs.declared.item.Body.{Body}
use Rattle.rec_id.specs.declared.item.Body.TheVariants.{Elsewhere, Kept, Noop, Open, Gone}
use Rattle.rec_id.specs.declared.entry.Entry.{Entry}
use Rattle.rec_id.specs.declared.entry.Entry.TheVariants.{Kept as KeptEntry, Noop as NoopEntry, Gone as GoneEntry}
use Rattle.rec_id.specs.declared.item.Cell.{Cell}
use Rattle.view_config.specs.Shape.{Dimensions}
use Rattle.list_facts.specs.Lists.{Each}
use Rattle.view_config.specs.declared.edition.Edition.{Edition}
use Rattle.rec_id.specs.Identity.{Identity}
use Rattle.rec_id.specs.declared.item.Item.{Item}
use Rattle.rec_id.specs.declared.marks.Marks.{Marks}
use Rattle.lazy_rules.specs.Store.{is_open}
use Rattle.lazy_rules.specs.Items.{is_whole}
use Rattle.rec_id.specs.Marks.{marks_where}
use Rattle.view_config.specs.Limits.{window_of}
use Rattle.std.specs.Prelude.{◌≡◌, ◌+◌, ◌<◌, ◌≤◌, ◌∷◌, ℕ, Bool, List, Option, true, length, Some, [], false, None, ◌&&◌, ◌==◌, ◌/◌, ◌%◌}
use Rattle.std.specs.List.{list_any}

-- What holds of the parts of messages and states, in a world that is asked with numbers of 32 bits.

-- a line has no more positions than this
abbrev pub line_limit : ℕ
line_limit = POSITION_LIMIT + PENDING_LIMIT

-- the identity of an append of a client of the shape
pub record IsOwn (shape : Dimensions) (id : Identity) : Type 0 where
  pub client : id.client < shape.clients
  pub least : 1 ≤ id.number
  pub word : IsWord id.number

-- data is there exactly where it is due, and isn't longer than a record
abbrev pub DueBytes : Bool → Edition → Option (List ℕ) → Type 0
DueBytes true edition (Some bytes) = BytesFit edition bytes
DueBytes true edition None = ⊥
DueBytes false edition (Some bytes) = ⊥
DueBytes false edition None = Unit {0}

-- an item that isn't bound yet: where records go whole it has its data
pub record IsPending (shape : Dimensions) (item : Item) : Type 0 where
  pub id : IsOwn shape item.id
  pub bytes : DueBytes (is_whole shape.mode) shape.edition item.bytes

-- an item at this place as a shard is given it: with its data only where records go whole and the place is the shard's
pub record IsHanded (shape : Dimensions) (shard place : ℕ) (item : Item) : Type 0 where
  pub id : IsOwn shape item.id
  pub bytes : DueBytes (is_whole shape.mode && place % shape.shards == shard) shape.edition item.bytes

abbrev pub AreHanded : Dimensions → ℕ → ℕ → List Item → Type 0
AreHanded shape shard place [] = Unit {0}
AreHanded shape shard place (item ∷ items) = IsHanded shape shard place item × AreHanded shape shard (place + 1) items

-- a body of a cell: data is given up in edition Two alone
abbrev pub IsBody : Edition → Body → Type 0
IsBody edition Elsewhere = Unit {0}
IsBody edition (Kept bytes) = BytesFit edition bytes
IsBody edition Noop = Unit {0}
IsBody edition Open = Unit {0}
IsBody edition Gone = IsTwo edition

pub record IsCell (shape : Dimensions) (cell : Cell) : Type 0 where
  pub id : IsOwn shape cell.id
  pub body : IsBody shape.edition cell.body

-- a cell that is sent isn't open
pub record IsSentCell (shape : Dimensions) (cell : Cell) : Type 0 where
  pub sized : IsCell shape cell
  pub closed : is_open cell.body ≡ false

abbrev pub IsEntry : Dimensions → Entry → Type 0
IsEntry shape (KeptEntry id bytes) = IsOwn shape id × BytesFit shape.edition bytes
IsEntry shape (NoopEntry id) = IsOwn shape id
IsEntry shape (GoneEntry id) = ⊥

pub record IsPlaced (shape : Dimensions) (placed : ℕ × Entry) : Type 0 where
  pub place : placed.0 ≤ line_limit
  pub entry : IsEntry shape placed.1

-- the marks of a client, as marking makes them: the edition's number of words, the bit of the greatest number
pub record IsMarked (shape : Dimensions) (marks : Marks) : Type 0 where
  pub told : ℕ → Bool
  pub is : marks ≡ marks_where (window_of shape.edition / 64) marks.top told
  pub word : IsWord marks.top
  pub highest : 1 ≤ marks.top → told marks.top ≡ true

-- the marks of each client
pub record IsWindow (shape : Dimensions) (window : List Marks) : Type 0 where
  pub count : length window ≡ shape.clients
  pub each : Each (IsMarked shape) window

-- so many members at most from this position on, none of which is at this limit or above
pub record IsStretch (limit most from count : ℕ) : Type 0 where
  pub few : count ≤ most
  pub end : from + count ≤ limit

-- what a message says, by its kind
pub record PlaceSays (shape : Dimensions) (from : ℕ) (items : List Item) : Type 0 where
  pub some : 1 ≤ length items
  pub stretch : IsStretch POSITION_LIMIT BATCH_LIMIT from (length items)
  pub shard : ℕ
  pub each : AreHanded shape shard from items

pub record OrderSays (shape : Dimensions) (from : ℕ) (ids : List Identity) : Type 0 where
  pub some : 1 ≤ length ids
  pub stretch : IsStretch POSITION_LIMIT BATCH_LIMIT from (length ids)
  pub each : Each (IsOwn shape) ids

pub record CopySays (shape : Dimensions) (most from : ℕ) (cells : List Cell) : Type 0 where
  pub stretch : IsStretch line_limit most from (length cells)
  pub each : Each (IsSentCell shape) cells

pub record PartSays (shape : Dimensions) (end : ℕ) (entries : List (ℕ × Entry)) : Type 0 where
  pub most : end ≤ line_limit
  pub few : length entries ≤ READ_LIMIT
  pub each : Each (IsPlaced shape) entries

pub record FlushSays (shape : Dimensions) (from : ℕ) (items : List Item) : Type 0 where
  pub stretch : IsStretch line_limit PENDING_LIMIT from (length items)
  pub shard : ℕ
  pub each : AreHanded shape shard from items

pub record SealedSays (shape : Dimensions) (bound : ℕ) (window : List Marks) (items : List Item) : Type 0 where
  pub stretch : IsStretch line_limit PENDING_LIMIT bound (length items)
  pub marks : IsWindow shape window
  pub each : Each (IsPending shape) items

-- a read covers few positions
pub record FetchSays (from end : ℕ) : Type 0 where
  pub least : IsWord from
  pub most : IsWord end
  pub few : end ≤ from + READ_LIMIT

abbrev pub Sized : Dimensions → Msg → Type 0
Sized shape (Append view id bytes) = IsCounted view × IsOwn shape id × DueBytes (is_whole shape.mode) shape.edition bytes
Sized shape (AppendAck view id) = IsCounted view × IsOwn shape id
Sized shape (Put id bytes) = IsOwn shape id × BytesFit shape.edition bytes
Sized shape (DataAck view id) = IsCounted view × IsOwn shape id
Sized shape (Rejected id place) = IsOwn shape id × (place ≤ line_limit)
Sized shape (Place view from items) = IsCounted view × PlaceSays shape from items
Sized shape (Placed view upto) = IsCounted view × (upto ≤ line_limit)
Sized shape (Copy view from cells) = IsCounted view × CopySays shape BATCH_LIMIT from cells
Sized shape (Copied view upto) = IsCounted view × (upto ≤ line_limit)
Sized shape (Order view from ids) = IsCounted view × OrderSays shape from ids
Sized shape (Ordered view upto) = IsCounted view × (upto ≤ line_limit)
Sized shape (Stable view upto) = IsCounted view × (upto ≤ line_limit)
Sized shape (Probe view read) = IsCounted view × IsCounted read
Sized shape (ProbeAck view read) = IsCounted view × IsCounted read
Sized shape (TailReady view read tail) = IsCounted view × IsCounted read × (tail ≤ line_limit)
Sized shape (Fetch read from end) = IsCounted read × FetchSays from end
Sized shape (Part read from end entries) = IsCounted read × IsWord from × PartSays shape end entries
Sized shape (Flush config from items) = IsCounted config.view × FlushSays shape from items
Sized shape (FlushCopy view from cells) = IsCounted view × CopySays shape PENDING_LIMIT from cells
Sized shape (Flushed view) = IsCounted view
Sized shape (Seal view) = IsCounted view
Sized shape (Sealed view bound window items) = IsCounted view × SealedSays shape bound window items
Sized shape (SealedEmpty view) = IsCounted view
Sized shape (NewView config base window) = IsCounted config.view × (base ≤ line_limit) × IsWindow shape window
Sized shape (Started view) = IsCounted view
Sized shape AskView = Unit {0}
Sized shape (ViewIs config) = IsCounted config.view
Sized shape (Claim stable) = stable ≤ line_limit
Sized shape (Trim read floor) = IsCounted read × IsTwo shape.edition × IsWord floor
Sized shape (TrimAck read) = IsCounted read × IsTwo shape.edition
Sized shape (TrimmedAt read floor) = IsCounted read × IsTwo shape.edition × (floor ≤ line_limit)

-- data was given up
abbrev pub is_gone : Body → Bool
is_gone Gone = true
is_gone _ = false

-- a message that carries no cell whose data was given up
abbrev pub GivesNothingUp : Msg → Type 0
GivesNothingUp (Copy view from cells) = list_any (λ cell. is_gone cell.body) cells ≡ false
GivesNothingUp (FlushCopy view from cells) = list_any (λ cell. is_gone cell.body) cells ≡ false
GivesNothingUp _ = Unit {0}
