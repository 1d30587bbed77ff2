-- The form of a frame: the one spelling of an envelope as bytes, in each edition.
use Rattle.std.specs.Prelude.{ℕ, List, [], ◌∷◌, ◌++◌, length, Option, Some, None}
use Rattle.std.specs.List.{flat_map}
use Rattle.std.specs.Int.{w16, w32, w64, to_be_bytes, to_le_bytes}
use Rattle.rec_id.specs.Identity.{Identity}
use Rattle.rec_id.specs.declared.entry.Entry.{Entry}
use Rattle.rec_id.specs.declared.entry.Entry.TheVariants.{Kept as KeptEntry, Noop as NoopEntry, Gone as GoneEntry}
use Rattle.rec_id.specs.declared.item.Item.{Item}
use Rattle.rec_id.specs.declared.item.Body.{Body}
use Rattle.rec_id.specs.declared.item.Body.TheVariants.{Elsewhere, Kept, Noop, Open, Gone}
use Rattle.rec_id.specs.declared.item.Cell.{Cell}
use Rattle.rec_id.specs.declared.marks.Marks.{Marks}
use Rattle.view_config.specs.declared.edition.Edition.{Edition}
use Rattle.view_config.specs.declared.edition.Edition.TheVariants.{One, Two}
use Rattle.view_config.specs.declared.config.Config.{Config}
use Rattle.lazy_msgs.specs.declared.msg.Envelope.{Envelope}
use Rattle.lazy_msgs.specs.declared.msg.Msg.{Msg}
use Rattle.lazy_msgs.specs.declared.msg.Msg.TheVariants.{Append, AppendAck, Put, DataAck, Rejected, Place, Placed, Copy, Copied, Order, Ordered, Stable, Probe, ProbeAck, TailReady, Fetch, Part, Flush, FlushCopy, Flushed, Seal, Sealed, SealedEmpty, NewView, Started, AskView, ViewIs, Claim, Trim, TrimAck, TrimmedAt}

-- a number in two, four or eight bytes, the highest byte first
unfoldable pub two : ℕ → List ℕ
two n = to_be_bytes w16 n

unfoldable pub four : ℕ → List ℕ
four n = to_be_bytes w32 n

unfoldable pub eight : ℕ → List ℕ
eight n = to_be_bytes w64 n

-- eight bytes of marks, the lowest byte first: bit i of byte b is bit 8 * b + i of the word
unfoldable pub word_form : ℕ → List ℕ
word_form word = to_le_bytes w64 word

-- the first byte
abbrev pub version_of : Edition → ℕ
version_of One = 1
version_of Two = 2

-- how many bytes of data follow
abbrev pub size_form : Edition → ℕ → List ℕ
size_form One size = two size
size_form Two size = four size

abbrev pub bytes_form : Edition → List ℕ → List ℕ
bytes_form edition bytes = size_form edition (length bytes) ++ bytes

abbrev pub optional_form : Edition → Option (List ℕ) → List ℕ
optional_form edition None = 0 ∷ []
optional_form edition (Some bytes) = 1 ∷ bytes_form edition bytes

-- a count, and the members one after the other
abbrev pub list_form : {A : Type 0} → (A → List ℕ) → List A → List ℕ
list_form member members = two (length members) ++ flat_map member members

abbrev pub id_form : Identity → List ℕ
id_form id = id.client ∷ four id.number

abbrev pub item_form : Edition → Item → List ℕ
item_form edition item = id_form item.id ++ optional_form edition item.bytes

-- an open cell and one whose data was given up have no form
abbrev pub body_form : Edition → Body → List ℕ
body_form edition Elsewhere = 0 ∷ []
body_form edition (Kept bytes) = 1 ∷ bytes_form edition bytes
body_form edition Noop = 2 ∷ []
body_form edition Open = []
body_form edition Gone = []

abbrev pub cell_form : Edition → Cell → List ℕ
cell_form edition cell = id_form cell.id ++ body_form edition cell.body

-- an entry whose data was given up has no form
abbrev pub entry_form : Edition → Entry → List ℕ
entry_form edition (KeptEntry id bytes) = id_form id ++ 1 ∷ bytes_form edition bytes
entry_form edition (NoopEntry id) = id_form id ++ 2 ∷ []
entry_form edition (GoneEntry id) = []

abbrev pub placed_form : Edition → ℕ × Entry → List ℕ
placed_form edition placed = four placed.0 ++ entry_form edition placed.1

abbrev pub nodes_form : List ℕ → List ℕ
nodes_form nodes = length nodes ∷ flat_map two nodes

abbrev pub config_form : Config → List ℕ
config_form config = four config.view ++ nodes_form config.seq ++ length config.shards ∷ flat_map nodes_form config.shards

-- the greatest number, and the bits of it and of those below it
abbrev pub marks_form : Marks → List ℕ
marks_form marks = four marks.top ++ flat_map word_form marks.bits

-- the second byte
abbrev pub kind_of : Msg → ℕ
kind_of (Append view id bytes) = 1
kind_of (AppendAck view id) = 2
kind_of (Put id bytes) = 3
kind_of (DataAck view id) = 4
kind_of (Rejected id place) = 5
kind_of (Place view from items) = 6
kind_of (Placed view upto) = 7
kind_of (Copy view from cells) = 8
kind_of (Copied view upto) = 9
kind_of (Order view from ids) = 10
kind_of (Ordered view upto) = 11
kind_of (Stable view upto) = 12
kind_of (Probe view read) = 13
kind_of (ProbeAck view read) = 14
kind_of (TailReady view read tail) = 15
kind_of (Fetch read from to) = 16
kind_of (Part read from end entries) = 17
kind_of (Flush config from items) = 18
kind_of (FlushCopy view from cells) = 19
kind_of (Flushed view) = 20
kind_of (Seal view) = 21
kind_of (Sealed view bound window items) = 22
kind_of (SealedEmpty view) = 23
kind_of (NewView config base window) = 24
kind_of (Started view) = 25
kind_of AskView = 26
kind_of (ViewIs config) = 27
kind_of (Claim stable) = 28
kind_of (Trim read floor) = 29
kind_of (TrimAck read) = 30
kind_of (TrimmedAt read floor) = 31

-- the fields of a message, in order
abbrev pub fields_form : Edition → Msg → List ℕ
fields_form edition (Append view id bytes) = four view ++ id_form id ++ optional_form edition bytes
fields_form edition (AppendAck view id) = four view ++ id_form id
fields_form edition (Put id bytes) = id_form id ++ bytes_form edition bytes
fields_form edition (DataAck view id) = four view ++ id_form id
fields_form edition (Rejected id place) = id_form id ++ four place
fields_form edition (Place view from items) = four view ++ four from ++ list_form (item_form edition) items
fields_form edition (Placed view upto) = four view ++ four upto
fields_form edition (Copy view from cells) = four view ++ four from ++ list_form (cell_form edition) cells
fields_form edition (Copied view upto) = four view ++ four upto
fields_form edition (Order view from ids) = four view ++ four from ++ list_form id_form ids
fields_form edition (Ordered view upto) = four view ++ four upto
fields_form edition (Stable view upto) = four view ++ four upto
fields_form edition (Probe view read) = four view ++ four read
fields_form edition (ProbeAck view read) = four view ++ four read
fields_form edition (TailReady view read tail) = four view ++ four read ++ four tail
fields_form edition (Fetch read from to) = four read ++ four from ++ four to
fields_form edition (Part read from end entries) = four read ++ four from ++ four end ++ list_form (placed_form edition) entries
fields_form edition (Flush config from items) = config_form config ++ four from ++ list_form (item_form edition) items
fields_form edition (FlushCopy view from cells) = four view ++ four from ++ list_form (cell_form edition) cells
fields_form edition (Flushed view) = four view
fields_form edition (Seal view) = four view
fields_form edition (Sealed view bound window items) = four view ++ four bound ++ list_form marks_form window ++ list_form (item_form edition) items
fields_form edition (SealedEmpty view) = four view
fields_form edition (NewView config base window) = config_form config ++ four base ++ list_form marks_form window
fields_form edition (Started view) = four view
fields_form edition AskView = []
fields_form edition (ViewIs config) = config_form config
fields_form edition (Claim stable) = four stable
fields_form edition (Trim read floor) = four read ++ four floor
fields_form edition (TrimAck read) = four read
fields_form edition (TrimmedAt read floor) = four read ++ four floor

-- what every frame begins with
abbrev pub head_form : Edition → Envelope → List ℕ
head_form edition env = version_of edition ∷ kind_of env.msg ∷ two env.from ++ two env.to ++ eight env.time

-- the frame of an envelope
abbrev pub frame : Edition → Envelope → List ℕ
frame edition env = head_form edition env ++ fields_form edition env.msg
