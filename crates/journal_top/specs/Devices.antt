-- The disk in memory, by what its device calls do.
use Rattle.std.specs.Prelude.{ℕ, ◌+◌, ◌-◌, List, [], ◌∷◌, ◌++◌, length, Bool, true, false, ◌==◌, nat_lt, if◌then◌else◌, Option, Some, None, option_map}
use Rattle.journal_disk.specs.Calls.{Call, Writes, Syncs}
use Rattle.journal_disk.specs.Drive.{bytes_after}
use Rattle.journal_disk.specs.Past.{Memory, file_of, until_synced}
use Rattle.shard_journal.specs.declared.block.Block.{Block}
use Rattle.shard_journal.specs.Blocks.{behind_form}

-- the bytes that it reads, those that are left where its power goes off, and how many more calls succeed where it is to stop
pub record Device : Type 0 where
  pub bytes : List ℕ
  pub synced : List ℕ
  pub left : Option ℕ

-- no more call succeeds
abbrev pub is_stopped : Option ℕ → Bool
is_stopped None = false
is_stopped (Some left) = left == 0

-- what is left of the calls behind one of them
abbrev pub one_less : Option ℕ → Option ℕ
one_less left = option_map (λ n. n - 1) left

-- a call failed, which changes nothing of the bytes
abbrev pub failed : Device → Device
failed disk = record disk { left = one_less disk.left }

-- a call succeeded: a sync makes what is read last
abbrev pub synced_after : Call → Device → List ℕ
synced_after Syncs disk = disk.bytes
synced_after _ disk = disk.synced

abbrev pub succeeded : Call → Device → Device
succeeded call disk = record { bytes = bytes_after call disk.bytes; synced = synced_after call disk; left = one_less disk.left }

-- calls one after the other, up to the first that fails; and whether all succeeded
pub record Made : Type 0 where
  pub disk : Device
  pub ok : Bool

abbrev pub made : Device → List Call → Made
made disk [] = record { disk = disk; ok = true }
made disk (call ∷ calls) = if is_stopped disk.left then record { disk = failed disk; ok = false } else made (succeeded call disk) calls

-- The calls that keep a block, where this is the offset of the byte behind the last one: its length and body and a byte 00
-- are written behind that byte and synced, and then 01 is written over it and synced.
abbrev pub keep_calls : ℕ → Block → List Call
keep_calls end block = Writes (end + 1) (behind_form block ++ 0 ∷ []) ∷ Syncs ∷ Writes end (1 ∷ []) ∷ Syncs ∷ []

-- the file once it is open: one of fewer than two bytes becomes that of a byte 00
abbrev pub ready : List ℕ → List ℕ
ready file = if nat_lt (length file) 2 then 0 ∷ [] else file

-- the power went off and on, and the file was opened
abbrev pub reopened : List ℕ → Device
reopened file = record { bytes = ready file; synced = ready file; left = None }

-- the calls from this number on fail, counted from 1 from now on
abbrev pub stopping : Device → ℕ → Device
stopping disk number = record disk { left = Some (number - 1) }

-- the device that a disk in memory is
abbrev pub device_of : Memory → Device
device_of disk = record { bytes = file_of disk.tape.past; synced = file_of (until_synced disk.tape.past); left = disk.meter.stops_in }
