-- The record of a disk in memory: the writes, cuts and syncs that took effect, and what they made of the file.
use Rattle.std.specs.Prelude.{◌≡◌, ◌⊎◌, ℕ, ◌+◌, ◌^◌, ◌<◌, ◌≤◌, List, [], ◌∷◌, ◌++◌, length, take, drop, Bool, true, false, if◌then◌else◌, None}
use Rattle.std.specs.List.{list_any}
use Rattle.std.proofs.Common.{refl, sym, inl, subst, arith}
use Rattle.std.proofs.lemmas.List.{take_all}
use Rattle.journal_disk.specs.declared.past.Change.{Change}
use Rattle.journal_disk.specs.declared.past.Change.TheVariants.{Write, Cut, Sync}
use Rattle.journal_disk.specs.Disk.{Room, room_after, with_bytes}
use Rattle.journal_disk.specs.Meter.{Metered, fails_next, after_call}

-- a change with its bytes
pub data Deed : Type 0 where
  Written : ℕ → List ℕ → Deed
  CutTo : ℕ → Deed
  Synced : Deed

-- how many bytes a change writes, and its deed, whose bytes stand in front
abbrev pub count_of : Change → ℕ
count_of (Write at count) = count
count_of (Cut size) = 0
count_of Sync = 0

abbrev pub deed_of : Change → List ℕ → Deed
deed_of (Write at count) bytes = Written at (take count bytes)
deed_of (Cut size) bytes = CutTo size
deed_of Sync bytes = Synced

-- the bytes of all writes stand one after the other
abbrev pub deeds_of : List Change → List ℕ → List Deed
deeds_of [] bytes = []
deeds_of (change ∷ changes) bytes = deed_of change bytes ∷ deeds_of changes (drop (count_of change) bytes)

abbrev pub total : List Change → ℕ
total [] = 0
total (change ∷ changes) = count_of change + total changes

-- what deeds make of a file
abbrev pub changed : Deed → List ℕ → List ℕ
changed (Written at bytes) file = with_bytes file at bytes
changed (CutTo size) file = take size file
changed Synced file = file

abbrev pub file_after : List Deed → List ℕ → List ℕ
file_after [] file = file
file_after (deed ∷ deeds) file = file_after deeds (changed deed file)

abbrev pub is_sync : Deed → Bool
is_sync Synced = true
is_sync _ = false

-- the deeds up to the last sync
abbrev pub until_synced : List Deed → List Deed
until_synced [] = []
until_synced (deed ∷ deeds) = if list_any is_sync (deed ∷ deeds) then deed ∷ until_synced deeds else []

-- a file with its past, and with room for more
pub record Taped : Type 0 where
  pub past : List Deed
  pub room : Room

-- a disk in memory: its file, and its device calls
pub record Memory : Type 0 where
  pub tape : Taped
  pub meter : Metered

abbrev pub file_of : List Deed → List ℕ
file_of deeds = file_after deeds []

-- a crash drops all writes and cuts behind the last sync, or none of them
abbrev pub LeftBy : List Deed → List ℕ → Type 0
LeftBy deeds file = (file ≡ file_of deeds) ⊎ (file ≡ file_of (until_synced deeds))

-- a crash behind at least t deeds
abbrev pub LeftSince : List Deed → ℕ → List ℕ → Type 0
LeftSince deeds t file = (k : ℕ) × (t ≤ k) × (k ≤ length deeds) × LeftBy (take k deeds) file

-- one deed more, which wrote so many bytes
abbrev pub after_deed : Taped → Deed → ℕ → Taped
after_deed tape deed count = record { past = tape.past ++ deed ∷ []; room = room_after tape.room count }

-- what wasn't synced is dropped, and there is no room
abbrev pub rewound : Taped → Taped
rewound tape = record { past = until_synced tape.past; room = record { calls = 0; bytes = 0 } }

-- the disk after a device call that is to change the file so
abbrev pub after_change : Memory → Deed → ℕ → Memory
after_change disk deed count = record {
  tape = if fails_next disk.meter then record disk.tape { room = room_after disk.tape.room count } else after_deed disk.tape deed count;
  meter = after_call disk.meter;
}

-- a disk that went off and on
abbrev pub after_off : Memory → Memory
after_off disk = record { tape = rewound disk.tape; meter = record disk.meter { stops_in = None } }

-- a change is one of this file, and ends within a limit and below 2^32
abbrev pub IsDoable : ℕ → Deed → List ℕ → Type 0
IsDoable limit (Written at bytes) file = (at ≤ length file) × (at + length bytes ≤ limit) × (at + length bytes < 2 ^ 32)
IsDoable limit (CutTo size) file = size ≤ length file
IsDoable limit Synced file = Unit {0}

abbrev pub AreDoable : ℕ → List Deed → List ℕ → Type 0
AreDoable limit [] file = Unit {0}
AreDoable limit (deed ∷ deeds) file = IsDoable limit deed file × AreDoable limit deeds (changed deed file)

-- the parts of a file with its past: what is kept of it, and the memory that is there for more
pub record IsTape (past : List Change) (bytes buffer : List ℕ) (len : ℕ) (room : Room) (past_room bytes_room : ℕ) : Type 0 where
  pub file : take len buffer ≡ file_of (deeds_of past bytes)
  pub within : len ≤ length buffer
  pub short : len < 2 ^ 32
  pub bytes_are : total past ≡ length bytes
  pub doable : AreDoable (length buffer) (deeds_of past bytes) []
  pub room_calls : length past + room.calls ≤ past_room
  pub room_bytes : length bytes + room.bytes ≤ bytes_room
  pub room_file : len + room.bytes ≤ length buffer

-- the laws of a disk

pub reads_file : (deeds : List Deed) → LeftBy deeds (file_of deeds)
reads_file deeds = inl refl

pub left_now : (deeds : List Deed) (t : ℕ) (file : List ℕ) → t ≤ length deeds → LeftBy deeds file → LeftSince deeds t file
left_now deeds t file le left =
    (length deeds, le, omega arith, subst (λ (ds : List Deed). LeftBy ds file) (sym (take_all (length deeds) deeds (omega arith))) left)

pub only_left : (deeds : List Deed) (file : List ℕ) → LeftSince deeds (length deeds) file → LeftBy deeds file
only_left deeds file since =
    subst (λ (ds : List Deed). LeftBy ds file) (take_all since.0 deeds since.1) since.3
