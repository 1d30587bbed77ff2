-- What has the form of a frame: the limits of each field, in each edition.
use Rattle.std.specs.Prelude.{◌≡◌, ℕ, ◌-◌, ◌%◌, ◌^◌, ◌<◌, ◌≤◌, min, List, [], ◌∷◌, length, slice_index, Option, Some, None}
use Rattle.std.specs.List.{AllByRecursion}
use Rattle.rec_id.specs.Identity.{IsIdentity}
use Rattle.rec_id.specs.declared.entry.Entry.{Entry}
use Rattle.rec_id.specs.declared.entry.Entry.TheVariants.{Kept as KeptEntry, Noop as NoopEntry, Gone as GoneEntry}
use Rattle.rec_id.specs.declared.item.Item.{Item}
use Rattle.rec_id.specs.declared.item.Body.{Body}
use Rattle.rec_id.specs.declared.item.Body.TheVariants.{Elsewhere, Kept, Noop, Open, Gone}
use Rattle.rec_id.specs.declared.item.Cell.{Cell}
use Rattle.rec_id.specs.declared.marks.Marks.{Marks}
use Rattle.view_config.specs.declared.edition.Edition.{Edition}
use Rattle.view_config.specs.declared.edition.Edition.TheVariants.{One, Two}
use Rattle.view_config.specs.declared.config.Config.{Config}
use Rattle.view_config.specs.Limits.{record_limit, window_of}
use Rattle.view_config.specs.declared.limits.TheConstants.{MAX_CLIENTS, MAX_COPIES, MAX_SEQ, MAX_SHARDS}
use Rattle.view_config.specs.declared.nodes.TheConstants.{BOARD, MAX_NODE}
use Rattle.rec_id.specs.declared.limits.TheConstants.{READ_LIMIT}
use Rattle.lazy_msgs.specs.declared.limits.TheConstants.{BATCH_LIMIT, PENDING_LIMIT, TIME_LIMIT}
use Rattle.lazy_msgs.specs.declared.msg.Envelope.{Envelope}
use Rattle.lazy_msgs.specs.declared.msg.Msg.{Msg}
use Rattle.lazy_msgs.specs.declared.msg.Msg.TheVariants.{Append, AppendAck, Put, DataAck, Rejected, Place, Placed, Copy, Copied, Order, Ordered, Stable, Probe, ProbeAck, TailReady, Fetch, Part, Flush, FlushCopy, Flushed, Seal, Sealed, SealedEmpty, NewView, Started, AskView, ViewIs, Claim, Trim, TrimAck, TrimmedAt}

-- a number of four bytes
abbrev pub IsWord : ℕ → Type 0
IsWord n = n < 2 ^ 32

-- views and reads are counted from 1
pub record IsCounted (n : ℕ) : Type 0 where
  pub least : 1 ≤ n
  pub word : IsWord n

abbrev pub IsNode : ℕ → Type 0
IsNode node = node ≤ MAX_NODE

abbrev pub BytesFit : Edition → List ℕ → Type 0
BytesFit edition bytes = length bytes ≤ record_limit edition

abbrev pub OptionalFits : Edition → Option (List ℕ) → Type 0
OptionalFits edition None = Unit {0}
OptionalFits edition (Some bytes) = BytesFit edition bytes

-- at most so many members, each within its limits
pub record ListFits {A : Type 0} (limit : ℕ) (Member : A → Type 0) (members : List A) : Type 0 where
  pub count : length members ≤ limit
  pub each : AllByRecursion Member members

pub record ItemFits (edition : Edition) (item : Item) : Type 0 where
  pub id : IsIdentity item.id
  pub bytes : OptionalFits edition item.bytes

-- an open cell is never sent
abbrev pub BodyFits : Edition → Body → Type 0
BodyFits edition Elsewhere = Unit {0}
BodyFits edition (Kept bytes) = BytesFit edition bytes
BodyFits edition Noop = Unit {0}
BodyFits edition Open = ⊥
BodyFits edition Gone = ⊥

pub record CellFits (edition : Edition) (cell : Cell) : Type 0 where
  pub id : IsIdentity cell.id
  pub body : BodyFits edition cell.body

abbrev pub EntryFits : Edition → Entry → Type 0
EntryFits edition (KeptEntry id bytes) = IsIdentity id × BytesFit edition bytes
EntryFits edition (NoopEntry id) = IsIdentity id
EntryFits edition (GoneEntry id) = ⊥

pub record PlacedFits (edition : Edition) (placed : ℕ × Entry) : Type 0 where
  pub place : IsWord placed.0
  pub entry : EntryFits edition placed.1

-- from one up to so many nodes
pub record NodesFit (limit : ℕ) (nodes : List ℕ) : Type 0 where
  pub least : 1 ≤ length nodes
  pub most : length nodes ≤ limit
  pub each : AllByRecursion IsNode nodes

pub record ConfigFits (config : Config) : Type 0 where
  pub view : IsCounted config.view
  pub seq : NodesFit MAX_SEQ config.seq
  pub shards_least : 1 ≤ length config.shards
  pub shards_most : length config.shards ≤ MAX_SHARDS
  pub shards : AllByRecursion (NodesFit MAX_COPIES) config.shards

-- how many words the bits of a client take
abbrev pub words_of : Edition → ℕ
words_of One = 4
words_of Two = 64

-- words of 64 bits, of which none from bit `top` on is set
abbrev pub EndAt : ℕ → List ℕ → Type 0
EndAt top [] = Unit {0}
EndAt top (word ∷ words) = (word < 2 ^ min 64 top) × EndAt (top - 64) words

-- The bit of the greatest number is set, and none of a number below 1.
pub record MarksFit (edition : Edition) (marks : Marks) : Type 0 where
  pub top : IsWord marks.top
  pub words : length marks.bits ≡ words_of edition
  pub highest : 1 ≤ marks.top → slice_index marks.bits 0 % 2 ≡ 1
  pub lowest : EndAt marks.top marks.bits

-- the marks of each client
pub record WindowFits (edition : Edition) (window : List Marks) : Type 0 where
  pub least : 1 ≤ length window
  pub most : length window ≤ MAX_CLIENTS
  pub each : AllByRecursion (MarksFit edition) window

-- which kinds edition Two alone has
abbrev pub IsTwo : Edition → Type 0
IsTwo One = ⊥
IsTwo Two = Unit {0}

abbrev pub MessageFits : Edition → Msg → Type 0
MessageFits edition (Append view id bytes) = IsCounted view × IsIdentity id × OptionalFits edition bytes
MessageFits edition (AppendAck view id) = IsCounted view × IsIdentity id
MessageFits edition (Put id bytes) = IsIdentity id × BytesFit edition bytes
MessageFits edition (DataAck view id) = IsCounted view × IsIdentity id
MessageFits edition (Rejected id place) = IsIdentity id × IsWord place
MessageFits edition (Place view from items) = IsCounted view × IsWord from × ListFits BATCH_LIMIT (ItemFits edition) items
MessageFits edition (Placed view upto) = IsCounted view × IsWord upto
MessageFits edition (Copy view from cells) = IsCounted view × IsWord from × ListFits BATCH_LIMIT (CellFits edition) cells
MessageFits edition (Copied view upto) = IsCounted view × IsWord upto
MessageFits edition (Order view from ids) = IsCounted view × IsWord from × ListFits BATCH_LIMIT IsIdentity ids
MessageFits edition (Ordered view upto) = IsCounted view × IsWord upto
MessageFits edition (Stable view upto) = IsCounted view × IsWord upto
MessageFits edition (Probe view read) = IsCounted view × IsCounted read
MessageFits edition (ProbeAck view read) = IsCounted view × IsCounted read
MessageFits edition (TailReady view read tail) = IsCounted view × IsCounted read × IsWord tail
MessageFits edition (Fetch read from to) = IsCounted read × IsWord from × IsWord to
MessageFits edition (Part read from end entries) = IsCounted read × IsWord from × IsWord end × ListFits READ_LIMIT (PlacedFits edition) entries
MessageFits edition (Flush config from items) = ConfigFits config × IsWord from × ListFits PENDING_LIMIT (ItemFits edition) items
MessageFits edition (FlushCopy view from cells) = IsCounted view × IsWord from × ListFits PENDING_LIMIT (CellFits edition) cells
MessageFits edition (Flushed view) = IsCounted view
MessageFits edition (Seal view) = IsCounted view
MessageFits edition (Sealed view bound window items) = IsCounted view × IsWord bound × WindowFits edition window × ListFits PENDING_LIMIT (ItemFits edition) items
MessageFits edition (SealedEmpty view) = IsCounted view
MessageFits edition (NewView config base window) = ConfigFits config × IsWord base × WindowFits edition window
MessageFits edition (Started view) = IsCounted view
MessageFits edition AskView = Unit {0}
MessageFits edition (ViewIs config) = ConfigFits config
MessageFits edition (Claim stable) = IsWord stable
MessageFits edition (Trim read floor) = IsTwo edition × IsCounted read × IsWord floor
MessageFits edition (TrimAck read) = IsTwo edition × IsCounted read
MessageFits edition (TrimmedAt read floor) = IsTwo edition × IsCounted read × IsWord floor

-- the envelope has a form in the edition
pub record Fits (edition : Edition) (env : Envelope) : Type 0 where
  pub from : IsNode env.from
  pub to : env.to ≤ BOARD
  pub time : env.time < TIME_LIMIT
  pub message : MessageFits edition env.msg
