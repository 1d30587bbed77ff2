-- What contracts see of a journal, and what a keep adds.
use Rattle.std.specs.Prelude.{◌≡◌, ◌⊎◌, ℕ, ◌+◌, ◌-◌, ◌^◌, ◌<◌, ◌≤◌, min, List, [], ◌∷◌, ◌++◌, length, Bool, true, false, nat_lt, nat_le, if◌then◌else◌, ◌≢◌, Result, Ok, Err, IfOk, IfErr, OnOk}
use Rattle.rec_id.specs.declared.entry.Entry.{Entry}
use Rattle.rec_id.specs.declared.entry.Entry.TheVariants.{Kept, Noop, Gone}
use Rattle.rec_id.specs.declared.item.Body.{Body}
use Rattle.rec_id.specs.declared.item.Body.TheVariants.{Kept as KeptBody}
use Rattle.rec_id.specs.declared.item.Cell.{Cell}
use Rattle.rec_id.specs.declared.limits.TheConstants.{READ_LIMIT}
use Rattle.std.specs.Prelude.{slice_range}
use Rattle.std.specs.List.{list_all}
use Rattle.view_config.specs.declared.limits.TheConstants.{RECORD_LIMIT_ONE}
use Rattle.view_config.specs.declared.edition.Edition.TheVariants.{One}
use Rattle.lazy_msgs.specs.FrameLimits.{BytesFit}
use Rattle.lazy_rules.specs.Store.{Store, part}
use Rattle.journal_disk.specs.Calls.{Call, Does, put_calls}
use Rattle.journal_disk.specs.Disk.{Only}
use Rattle.shard_journal.specs.declared.block.Block.{Block}
use Rattle.shard_journal.specs.declared.limits.TheConstants.{FILE_LIMIT}
use Rattle.shard_journal.specs.declared.refused.JournalRefused.{JournalRefused}
use Rattle.shard_journal.specs.declared.refused.JournalRefused.TheVariants.{Closed, Full, DiskFault, Damaged, Memory}
use Rattle.shard_journal.specs.Blocks.{behind_form, blocks_form, entries_in, IsFile, IsWhole}
use Rattle.journal_disk.specs.Moments.{LeavesOnly, IsFew}

-- a journal: its disk; below which position it has all; at which offset the byte behind its last block
-- stands; and whether a keep met a fault
pub record JournalState (D : Type 0) : Type 0 where
  pub disk : D
  pub kept : ℕ
  pub end : ℕ
  pub closed : Bool

-- the file is whole and on the disk
pub record IsSettled {D : Type 0} (seen : D → List ℕ) (may_leave : D → List ℕ → Type 0) (disk : D) (kept end : ℕ) : Type 0 where
  pub blocks : List Block
  pub whole : IsWhole (seen disk) blocks kept
  pub end_is : end ≡ length (blocks_form blocks)
  pub durable : Only (seen disk) (may_leave disk)

-- the next positions that a journal keeps of a store, and the block that has them
abbrev pub next_to : Store → ℕ → ℕ
next_to store kept = kept + min READ_LIMIT (store.stable - kept)

abbrev pub next_block : Store → ℕ → Block
next_block store kept = record { from = kept; to = next_to store kept; entries = part store kept (next_to store kept) }

-- with nothing new no block is added
abbrev pub next_blocks : Store → ℕ → List Block
next_blocks store kept = if nat_lt kept store.stable then next_block store kept ∷ [] else []

-- data that a cell keeps is that of a record of edition One
abbrev pub body_is_short : Body → Bool
body_is_short (KeptBody bytes) = nat_le (length bytes) RECORD_LIMIT_ONE
body_is_short _ = true

abbrev pub is_short : Cell → Bool
is_short cell = body_is_short cell.body

-- the next positions of a store can be kept: nothing of them was trimmed, no more is kept than is final, and their data is
-- that of records of edition One
pub record CanKeep (store : Store) (kept : ℕ) : Type 0 where
  pub floor_is : store.floor ≤ kept
  pub stable_is : kept ≤ store.stable
  pub short : list_all is_short (slice_range store.order kept (next_to store kept)) ≡ true

-- the same of an entry, whose data wasn't given up either
abbrev pub DataIsShort : Entry → Type 0
DataIsShort (Kept id bytes) = BytesFit One bytes
DataIsShort (Noop id) = Unit {0}
DataIsShort (Gone id) = ⊥

pub record EntryIsShort (placed : ℕ × Entry) : Type 0 where
  pub data_is : DataIsShort placed.1

-- how long the file would be up to the byte behind the next block
abbrev pub next_size : Store → ℕ → ℕ → ℕ
next_size store kept end = end + 2 + length (behind_form (next_block store kept))

-- the file stands for the blocks from before, or for these and those that are added
abbrev pub IsBeforeOrAfter : List Block → ℕ → List Block → ℕ → List ℕ → Type 0
IsBeforeOrAfter blocks kept more to file = IsFile file blocks kept ⊎ IsFile file (blocks ++ more) to

-- what opening may leave: what a crash might have left before, or one file of fewer than two bytes in place of another
abbrev pub LeftByOpening : (List ℕ → Type 0) → List ℕ → List ℕ → Type 0
LeftByOpening may_leave file other = may_leave other ⊎ IsFew file other

-- the file as it reads once it is open
pub record IsReady (file file_now : List ℕ) : Type 0 where
  pub bare : length file < 2 → file_now ≡ 0 ∷ []
  pub same : 2 ≤ length file → file_now ≡ file

-- What a call that adds these blocks does to a journal that isn't closed. Its file then stands for them too, and a
-- crash at any moment of the call leaves a file that stands for the blocks from before, or for these and those that
-- are added. Where the disk failed the journal is closed, and otherwise a refused call changes nothing of it.
pub record Adds {D : Type 0} (seen : D → List ℕ) (may_leave : D → List ℕ → Type 0) (moment : D → ℕ) (left_since : D → ℕ → List ℕ → Type 0) (old new : JournalState D) (more : List Block) (to : ℕ) (result : Result ℕ JournalRefused) : Type 0 where
  pub answer : IfOk result (λ kept. kept ≡ to)
  pub kept_is : OnOk result (new.kept ≡ to)
  pub file : (blocks : List Block) → IsFile (seen old.disk) blocks old.kept → OnOk result (IsFile (seen new.disk) (blocks ++ more) to)
  pub durable : OnOk result (Only (seen new.disk) (may_leave new.disk))
  pub any_moment : (blocks : List Block) → IsFile (seen old.disk) blocks old.kept → LeavesOnly moment left_since old.disk new.disk (IsBeforeOrAfter blocks old.kept more to)
  pub closes : result ≡ Err DiskFault → new.closed ≡ true
  pub stays_open : result ≢ Err DiskFault → new.closed ≡ false
  pub same : IfErr result (λ refused. refused ≢ DiskFault → (new.kept ≡ old.kept) × (new.end ≡ old.end) × (seen new.disk ≡ seen old.disk))

-- the calls that put a block behind the others made this of a disk, for which room was made before
abbrev pub HasPut : {D : Type 0} → (D → Call → Bool → D → Type 0) → (D → D → Type 0) → D → ℕ → Block → Bool → D → Type 0
HasPut {D = D} made alike old end block ok new = (ready : D) × alike old ready × Does made (put_calls end (behind_form block ++ 0 ∷ [])) ready ok new

pub record Puts {D : Type 0} (made : D → Call → Bool → D → Type 0) (alike : D → D → Type 0) (old new : JournalState D) (block : Block) (result : Result ℕ JournalRefused) : Type 0 where
  pub done : OnOk result (HasPut made alike old.disk old.end block true new.disk)
  pub failed : result ≡ Err DiskFault → HasPut made alike old.disk old.end block false new.disk
  pub end_is : OnOk result (new.end ≡ old.end + 1 + length (behind_form block))

-- what opening answers, and what the disk is then
abbrev pub disk_after : {D : Type 0} → Result (JournalState D × List (ℕ × Entry)) (JournalRefused × D) → D
disk_after (Ok opened) = opened.0.disk
disk_after (Err refused) = refused.1

-- the file stands for some blocks, which end at this position and have these entries
pub record Holds (file : List ℕ) (kept : ℕ) (entries : List (ℕ × Entry)) : Type 0 where
  pub blocks : List Block
  pub is_file : IsFile file blocks kept
  pub entries_are : entries ≡ entries_in blocks

-- why a file isn't opened
abbrev pub StopsOpening : JournalRefused → Type 0
StopsOpening Closed = ⊥
StopsOpening Full = ⊥
StopsOpening DiskFault = Unit {0}
StopsOpening (Damaged at) = Unit {0}
StopsOpening Memory = Unit {0}
