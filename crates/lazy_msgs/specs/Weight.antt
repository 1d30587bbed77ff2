use Rattle.std.specs.Prelude.{ℕ, ◌+◌, ◌-◌, ◌*◌, ◌^◌, min, List, length, sum_by, Option, Some, None}
use Rattle.lazy_msgs.specs.declared.limits.TheConstants.{MESSAGE_WEIGHT, MEMBER_WEIGHT, MARKS_WEIGHT, WORD_WEIGHT}
use Rattle.rec_id.specs.declared.entry.Entry.{Entry}
use Rattle.rec_id.specs.declared.entry.Entry.TheVariants.{Kept as KeptEntry, Noop as NoopEntry, Gone as GoneEntry}
use Rattle.rec_id.specs.declared.item.Item.{Item}
use Rattle.rec_id.specs.declared.item.Body.{Body}
use Rattle.rec_id.specs.declared.item.Body.TheVariants.{Elsewhere, Kept, Noop, Open, Gone}
use Rattle.rec_id.specs.declared.item.Cell.{Cell}
use Rattle.rec_id.specs.declared.marks.Marks.{Marks}
use Rattle.rec_id.specs.Identity.{Identity}
use Rattle.lazy_msgs.specs.declared.msg.Msg.{Msg}
use Rattle.lazy_msgs.specs.declared.msg.Msg.TheVariants.{Append, AppendAck, Put, DataAck, Rejected, Place, Placed, Copy, Copied, Order, Ordered, Stable, Probe, ProbeAck, TailReady, Fetch, Part, Flush, FlushCopy, Flushed, Seal, Sealed, SealedEmpty, NewView, Started, AskView, ViewIs, Claim, Trim, TrimAck, TrimmedAt}

-- a weight stands still at the greatest word
abbrev pub capped : ℕ → ℕ
capped weight = min weight (2 ^ 64 - 1)

-- the bytes that are there
abbrev pub data_weight : Option (List ℕ) → ℕ
data_weight None = 0
data_weight (Some bytes) = length bytes

-- the bytes of a cell
abbrev pub body_weight : Body → ℕ
body_weight (Kept bytes) = length bytes
body_weight Elsewhere = 0
body_weight Noop = 0
body_weight Open = 0
body_weight Gone = 0

-- an item, a cell, an entry and an identity are 16 and their bytes
abbrev pub item_weight : Item → ℕ
item_weight item = data_weight item.bytes + MEMBER_WEIGHT

abbrev pub cell_weight : Cell → ℕ
cell_weight cell = body_weight cell.body + MEMBER_WEIGHT

abbrev pub entry_weight : Entry → ℕ
entry_weight (KeptEntry id bytes) = length bytes + MEMBER_WEIGHT
entry_weight (NoopEntry id) = MEMBER_WEIGHT
entry_weight (GoneEntry id) = MEMBER_WEIGHT

-- the marks of a client are 32, and 8 for each word
abbrev pub marks_weight : Marks → ℕ
marks_weight marks = WORD_WEIGHT * length marks.bits + MARKS_WEIGHT

abbrev pub ids_weight : List Identity → ℕ
ids_weight ids = MEMBER_WEIGHT * length ids

abbrev pub items_weight : List Item → ℕ
items_weight items = sum_by item_weight items

abbrev pub cells_weight : List Cell → ℕ
cells_weight cells = sum_by cell_weight cells

abbrev pub entries_weight : List (ℕ × Entry) → ℕ
entries_weight entries = sum_by (λ placed. entry_weight placed.1) entries

abbrev pub window_weight : List Marks → ℕ
window_weight window = sum_by marks_weight window

-- what a message carries
abbrev pub load_of : Msg → ℕ
load_of (Append view id bytes) = data_weight bytes
load_of (AppendAck view id) = 0
load_of (Put id bytes) = length bytes
load_of (DataAck view id) = 0
load_of (Rejected id place) = 0
load_of (Place view from items) = items_weight items
load_of (Placed view upto) = 0
load_of (Copy view from cells) = cells_weight cells
load_of (Copied view upto) = 0
load_of (Order view from ids) = ids_weight ids
load_of (Ordered view upto) = 0
load_of (Stable view upto) = 0
load_of (Probe view read) = 0
load_of (ProbeAck view read) = 0
load_of (TailReady view read tail) = 0
load_of (Fetch read from to) = 0
load_of (Part read from end entries) = entries_weight entries
load_of (Flush config from items) = items_weight items
load_of (FlushCopy view from cells) = cells_weight cells
load_of (Flushed view) = 0
load_of (Seal view) = 0
load_of (Sealed view bound window items) = window_weight window + items_weight items
load_of (SealedEmpty view) = 0
load_of (NewView config base window) = window_weight window
load_of (Started view) = 0
load_of AskView = 0
load_of (ViewIs config) = 0
load_of (Claim stable) = 0
load_of (Trim read floor) = 0
load_of (TrimAck read) = 0
load_of (TrimmedAt read floor) = 0

-- 64 for the message, and what it carries
abbrev pub weight_of : Msg → ℕ
weight_of msg = capped (load_of msg + MESSAGE_WEIGHT)

-- what several messages weigh together
abbrev pub sends_weight : List (ℕ × Msg) → ℕ
sends_weight sends = sum_by (λ send. weight_of send.1) sends
