-- Reading a frame from left to right, with the first offence that is met. A field that needs more bytes
-- than are left is Short; a count or a length over its limit is Over with the limit; any other value that
-- isn't allowed is Field with the field's offset, or for the kind Kind with its byte; and what stands
-- behind the last field is Trailing. `size` is the length of all the bytes, so a field stands at the
-- offset `size` less the bytes that are left.
use Rattle.std.specs.Prelude.{◌≡◌, ◌≢◌, ◌≤◌, ℕ, zero, suc, ◌-◌, ◌*◌, ◌%◌, ◌^◌, min, Bool, true, ◌&&◌, ◌||◌, ◌==◌, nat_lt, nat_le, if◌then◌else◌, List, [], ◌∷◌, length, take, drop, slice_index, Option, Some, None, Result, Ok, Err}
use Rattle.std.specs.Int.{Width, w16, w32, w64, byte_len, from_be_bytes, from_le_bytes}
use Rattle.rec_id.specs.Identity.{Identity}
use Rattle.rec_id.specs.declared.entry.Entry.{Entry}
use Rattle.rec_id.specs.declared.entry.Entry.TheVariants.{Kept as KeptEntry, Noop as NoopEntry}
use Rattle.rec_id.specs.declared.item.Item.{Item}
use Rattle.rec_id.specs.declared.item.Body.{Body}
use Rattle.rec_id.specs.declared.item.Body.TheVariants.{Elsewhere, Kept, Noop}
use Rattle.rec_id.specs.declared.item.Cell.{Cell}
use Rattle.rec_id.specs.declared.marks.Marks.{Marks}
use Rattle.view_config.specs.declared.edition.Edition.{Edition}
use Rattle.view_config.specs.declared.edition.Edition.TheVariants.{One, Two}
use Rattle.view_config.specs.declared.config.Config.{Config}
use Rattle.lazy_msgs.specs.declared.msg.Envelope.{Envelope}
use Rattle.lazy_msgs.specs.declared.msg.Msg.{Msg}
use Rattle.lazy_msgs.specs.declared.msg.Msg.TheVariants.{Append, AppendAck, Put, DataAck, Rejected, Place, Placed, Copy, Copied, Order, Ordered, Stable, Probe, ProbeAck, TailReady, Fetch, Part, Flush, FlushCopy, Flushed, Seal, Sealed, SealedEmpty, NewView, Started, AskView, ViewIs, Claim, Trim, TrimAck, TrimmedAt}
use Rattle.lazy_msgs.specs.FrameLimits.{words_of}
use Rattle.lazy_msgs.specs.declared.limits.TheConstants.{BATCH_LIMIT, PENDING_LIMIT, TIME_LIMIT}
use Rattle.rec_id.specs.declared.limits.TheConstants.{READ_LIMIT}
use Rattle.view_config.specs.declared.limits.TheConstants.{MAX_CLIENTS, MAX_COPIES, MAX_SEQ, MAX_SHARDS, RECORD_LIMIT_ONE, RECORD_LIMIT_TWO}
use Rattle.view_config.specs.declared.nodes.TheConstants.{BOARD, MAX_NODE}
use Rattle.wire_frames.specs.declared.offence.FrameError.{FrameError}
use Rattle.wire_frames.specs.declared.offence.FrameError.TheVariants.{Short, Kind, Field, Over, Trailing, Memory}

-- what a reader takes from the front: a value and the bytes after it, or an offence
abbrev pub Taken : Type 0 → Type 0
Taken A = Result (A × List ℕ) FrameError

abbrev pub Reader : Type 0 → Type 0
Reader A = List ℕ → Taken A

abbrev pub goes_on : {A B : Type 0} → Taken A → (A → Reader B) → Taken B
goes_on (Ok x) next = next x.0 x.1
goes_on (Err offence) next = Err offence

infixl 10 ◌>>=◌
abbrev pub ◌>>=◌ : {A B : Type 0} → Reader A → (A → Reader B) → Reader B
(read >>= next) bytes = goes_on (read bytes) next

abbrev pub done : {A : Type 0} → A → Reader A
done value bytes = Ok (value, bytes)

-- ---- numbers

abbrev pub byte_at : Reader ℕ
byte_at [] = Err Short
byte_at (byte ∷ rest) = Ok (byte, rest)

-- so many bytes
abbrev pub part_at : ℕ → Reader (List ℕ)
part_at count bytes = if nat_lt (length bytes) count then Err Short else Ok (take count bytes, drop count bytes)

unfoldable pub number_at : Width → Reader ℕ
number_at width bytes = if nat_lt (length bytes) (byte_len width) then Err Short else Ok (from_be_bytes width (take (byte_len width) bytes), drop (byte_len width) bytes)

abbrev pub judged : {A : Type 0} → (A → Bool) → FrameError → Taken A → Taken A
judged test offence (Ok x) = if test x.0 then Ok x else Err offence
judged test offence (Err earlier) = Err earlier

-- a value that passes the test, else the field is the offence
abbrev pub allowed : {A : Type 0} → ℕ → (A → Bool) → Reader A → Reader A
allowed size test read bytes = judged test (Field (size - length bytes)) (read bytes)

-- a count or a length up to the limit
abbrev pub limited : ℕ → Reader ℕ → Reader ℕ
limited limit read bytes = judged (λ n. nat_le n limit) (Over limit) (read bytes)

unfoldable pub counted_at : ℕ → Reader ℕ
counted_at size = allowed size (nat_le 1) (number_at w32)

unfoldable pub node_at : ℕ → Reader ℕ
node_at size = allowed size (λ node. nat_le node MAX_NODE) (number_at w16)

unfoldable pub addressee_at : ℕ → Reader ℕ
addressee_at size = allowed size (λ node. nat_le node BOARD) (number_at w16)

unfoldable pub time_at : ℕ → Reader ℕ
time_at size = allowed size (λ time. nat_lt time TIME_LIMIT) (number_at w64)

-- ---- records

unfoldable pub id_at : ℕ → Reader Identity
id_at size = do
  client ← byte_at
  number ← counted_at size
  done (record { client = client; number = number })

abbrev pub size_at : Edition → Reader ℕ
size_at One = limited RECORD_LIMIT_ONE (number_at w16)
size_at Two = limited RECORD_LIMIT_TWO (number_at w32)

unfoldable pub bytes_at : Edition → Reader (List ℕ)
bytes_at edition = size_at edition >>= part_at

unfoldable pub optional_at : Edition → ℕ → Reader (Option (List ℕ))
optional_at edition size = do
  flag ← allowed size (λ flag. nat_le flag 1) byte_at
  if flag == 0 then done None else (bytes_at edition >>= λ bytes. done (Some bytes))

unfoldable pub item_at : Edition → ℕ → Reader Item
item_at edition size = do
  id ← id_at size
  bytes ← optional_at edition size
  done (record { id = id; bytes = bytes })

unfoldable pub body_at : Edition → ℕ → Reader Body
body_at edition size = do
  flag ← allowed size (λ flag. nat_le flag 2) byte_at
  if flag == 0 then done Elsewhere else (if flag == 1 then (bytes_at edition >>= λ bytes. done (Kept bytes)) else done Noop)

unfoldable pub cell_at : Edition → ℕ → Reader Cell
cell_at edition size = do
  id ← id_at size
  body ← body_at edition size
  done (record { id = id; body = body })

unfoldable pub entry_at : Edition → ℕ → Reader Entry
entry_at edition size = do
  id ← id_at size
  flag ← allowed size (λ flag. flag == 1 || flag == 2) byte_at
  if flag == 1 then (bytes_at edition >>= λ bytes. done (KeptEntry id bytes)) else done (NoopEntry id)

unfoldable pub placed_at : Edition → ℕ → Reader (ℕ × Entry)
placed_at edition size = do
  place ← number_at w32
  entry ← entry_at edition size
  done (place, entry)

-- ---- lists

-- so many members
abbrev pub members_at : {A : Type 0} → Reader A → ℕ → Reader (List A)
members_at read zero = done []
members_at read (suc count) = do
  first ← read
  others ← members_at read count
  done (first ∷ others)

unfoldable pub list_at : {A : Type 0} → ℕ → Reader A → Reader (List A)
list_at limit read = limited limit (number_at w16) >>= members_at read

unfoldable pub nodes_at : ℕ → ℕ → Reader (List ℕ)
nodes_at size limit = allowed size (nat_le 1) (limited limit byte_at) >>= members_at (node_at size)

unfoldable pub shards_at : ℕ → Reader (List (List ℕ))
shards_at size = allowed size (nat_le 1) (limited MAX_SHARDS byte_at) >>= members_at (nodes_at size MAX_COPIES)

unfoldable pub config_at : ℕ → Reader Config
config_at size = do
  view ← counted_at size
  seq ← nodes_at size MAX_SEQ
  shards ← shards_at size
  done (record { view = view; seq = seq; shards = shards })

-- the words in the bytes, the lowest byte of each first
abbrev pub words_in : ℕ → List ℕ → List ℕ
words_in zero bytes = []
words_in (suc count) bytes = from_le_bytes w64 (take 8 bytes) ∷ words_in count (drop 8 bytes)

-- no bit from `top` on is set
abbrev pub end_at : ℕ → List ℕ → Bool
end_at top [] = true
end_at top (word ∷ words) = nat_lt word (2 ^ min 64 top) && end_at (top - 64) words

-- the bits of marks whose greatest number is `top`
abbrev pub are_bits : ℕ → List ℕ → Bool
are_bits top words = (top == 0 || slice_index words 0 % 2 == 1) && end_at top words

abbrev pub words_at : ℕ → Reader (List ℕ)
words_at count = part_at (8 * count) >>= λ bytes. done (words_in count bytes)

unfoldable pub marks_at : Edition → ℕ → Reader Marks
marks_at edition size = do
  top ← number_at w32
  bits ← allowed size (are_bits top) (words_at (words_of edition))
  done (record { top = top; bits = bits })

unfoldable pub window_at : Edition → ℕ → Reader (List Marks)
window_at edition size = allowed size (nat_le 1) (limited MAX_CLIENTS (number_at w16)) >>= members_at (marks_at edition size)

-- ---- messages

abbrev pub one_field : {A B : Type 0} → Reader A → (A → B) → Reader B
one_field first make = first >>= λ a. done (make a)

abbrev pub two_fields : {A B C : Type 0} → Reader A → Reader B → (A → B → C) → Reader C
two_fields first second make = first >>= λ a. one_field second (make a)

abbrev pub three_fields : {A B C D : Type 0} → Reader A → Reader B → Reader C → (A → B → C → D) → Reader D
three_fields first second third make = first >>= λ a. two_fields second third (make a)

abbrev pub four_fields : {A B C D E : Type 0} → Reader A → Reader B → Reader C → Reader D → (A → B → C → D → E) → Reader E
four_fields first second third fourth make = first >>= λ a. three_fields second third fourth (make a)

-- the fields of a message of this kind
unfoldable pub fields_at : Edition → ℕ → ℕ → Reader Msg
fields_at edition size kind =
    if kind == 1 then three_fields (counted_at size) (id_at size) (optional_at edition size) Append
    else (if kind == 2 then two_fields (counted_at size) (id_at size) AppendAck
    else (if kind == 3 then two_fields (id_at size) (bytes_at edition) Put
    else (if kind == 4 then two_fields (counted_at size) (id_at size) DataAck
    else (if kind == 5 then two_fields (id_at size) (number_at w32) Rejected
    else (if kind == 6 then three_fields (counted_at size) (number_at w32) (list_at BATCH_LIMIT (item_at edition size)) Place
    else (if kind == 7 then two_fields (counted_at size) (number_at w32) Placed
    else (if kind == 8 then three_fields (counted_at size) (number_at w32) (list_at BATCH_LIMIT (cell_at edition size)) Copy
    else (if kind == 9 then two_fields (counted_at size) (number_at w32) Copied
    else (if kind == 10 then three_fields (counted_at size) (number_at w32) (list_at BATCH_LIMIT (id_at size)) Order
    else (if kind == 11 then two_fields (counted_at size) (number_at w32) Ordered
    else (if kind == 12 then two_fields (counted_at size) (number_at w32) Stable
    else (if kind == 13 then two_fields (counted_at size) (counted_at size) Probe
    else (if kind == 14 then two_fields (counted_at size) (counted_at size) ProbeAck
    else (if kind == 15 then three_fields (counted_at size) (counted_at size) (number_at w32) TailReady
    else (if kind == 16 then three_fields (counted_at size) (number_at w32) (number_at w32) Fetch
    else (if kind == 17 then four_fields (counted_at size) (number_at w32) (number_at w32) (list_at READ_LIMIT (placed_at edition size)) Part
    else (if kind == 18 then three_fields (config_at size) (number_at w32) (list_at PENDING_LIMIT (item_at edition size)) Flush
    else (if kind == 19 then three_fields (counted_at size) (number_at w32) (list_at PENDING_LIMIT (cell_at edition size)) FlushCopy
    else (if kind == 20 then one_field (counted_at size) Flushed
    else (if kind == 21 then one_field (counted_at size) Seal
    else (if kind == 22 then four_fields (counted_at size) (number_at w32) (window_at edition size) (list_at PENDING_LIMIT (item_at edition size)) Sealed
    else (if kind == 23 then one_field (counted_at size) SealedEmpty
    else (if kind == 24 then three_fields (config_at size) (number_at w32) (window_at edition size) NewView
    else (if kind == 25 then one_field (counted_at size) Started
    else (if kind == 26 then done AskView
    else (if kind == 27 then one_field (config_at size) ViewIs
    else (if kind == 28 then one_field (number_at w32) Claim
    else (if kind == 29 then two_fields (counted_at size) (number_at w32) Trim
    else (if kind == 30 then one_field (counted_at size) TrimAck
    else two_fields (counted_at size) (number_at w32) TrimmedAt)))))))))))))))))))))))))))))

-- ---- frames

unfoldable pub edition_at : Reader Edition
edition_at [] = Err Short
edition_at (version ∷ rest) = if version == 1 then Ok (One, rest) else (if version == 2 then Ok (Two, rest) else Err (Field 0))

abbrev pub last_kind : Edition → ℕ
last_kind One = 28
last_kind Two = 31

unfoldable pub kind_at : Edition → Reader ℕ
kind_at edition [] = Err Short
kind_at edition (kind ∷ rest) = if nat_le 1 kind && nat_le kind (last_kind edition) then Ok (kind, rest) else Err (Kind kind)

unfoldable pub envelope_at : ℕ → Edition → Reader Envelope
envelope_at size edition = do
  kind ← kind_at edition
  from ← node_at size
  to ← addressee_at size
  time ← time_at size
  msg ← fields_at edition size kind
  done (record { from = from; to = to; time = time; msg = msg })

unfoldable pub frame_at : ℕ → Reader (Edition × Envelope)
frame_at size = do
  edition ← edition_at
  env ← envelope_at size edition
  done (edition, env)

-- nothing may be left
abbrev pub ended : {A : Type 0} → ℕ → Taken A → Result A FrameError
ended size (Ok (value, [])) = Ok value
ended size (Ok (value, byte ∷ more)) = Err (Trailing (size - length (byte ∷ more)))
ended size (Err offence) = Err offence

-- all of the bytes: the envelope that they are the frame of, or their first offence
unfoldable pub whole_at : List ℕ → Result (Edition × Envelope) FrameError
whole_at bytes = ended (length bytes) (frame_at (length bytes) bytes)

-- ---- code

-- What a function answered, seen by `view`, and the bytes that it left are what reading gives, unless
-- memory ran out.
abbrev pub GivesAs : {X A : Type 0} → (X → A) → Result X FrameError → List ℕ → Taken A → Type 0
GivesAs view (Ok x) left read = read ≡ Ok (view x, left)
GivesAs view (Err offence) left read = offence ≢ Memory → read ≡ Err offence

abbrev pub Gives : {A : Type 0} → Result A FrameError → List ℕ → Taken A → Type 0
Gives result left read = GivesAs (λ x. x) result left read

-- these bytes are the end of all of them
pub record IsEnd (left all : List ℕ) : Type 0 where
  pub within : length left ≤ length all
  pub is : drop (length all - length left) all ≡ left
