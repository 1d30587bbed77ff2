-- What is seen of a disk in memory, and what device calls make of that.
use Rattle.std.specs.Prelude.{◌≡◌, ℕ, Bool, true, false, not, List, [], ◌∷◌, take, None, if◌then◌else◌}
use Rattle.journal_disk.specs.Calls.{Call, Sizes, Reads, Writes, Cuts, Syncs}
use Rattle.journal_disk.specs.Disk.{with_bytes}
use Rattle.journal_disk.specs.Meter.{Metered, fails_next, after_call, unmetered}
use Rattle.journal_disk.specs.Past.{Memory, file_of, until_synced}

-- the bytes that it reads, those that are left where its power goes off, and which of its calls fail
pub record Drive : Type 0 where
  pub bytes : List ℕ
  pub synced : List ℕ
  pub meter : Metered

abbrev pub drive_of : Memory → Drive
drive_of disk = record { bytes = file_of disk.tape.past; synced = file_of (until_synced disk.tape.past); meter = disk.meter }

-- an empty one
abbrev pub new_drive : List ℕ → Drive
new_drive fails = record { bytes = []; synced = []; meter = unmetered fails }

-- the power went off and came on again
abbrev pub drive_off : Drive → Drive
drive_off drive = record { bytes = drive.synced; synced = drive.synced; meter = record drive.meter { stops_in = None } }

-- a call that succeeded changed the bytes so
abbrev pub bytes_after : Call → List ℕ → List ℕ
bytes_after Sizes bytes = bytes
bytes_after (Reads at count) bytes = bytes
bytes_after (Writes at piece) bytes = with_bytes bytes at piece
bytes_after (Cuts size) bytes = take size bytes
bytes_after Syncs bytes = bytes

abbrev pub synced_after : Call → Drive → List ℕ
synced_after Sizes drive = drive.synced
synced_after (Reads at count) drive = drive.synced
synced_after (Writes at piece) drive = drive.synced
synced_after (Cuts size) drive = drive.synced
synced_after Syncs drive = drive.bytes

-- a call that failed changed nothing but the count
abbrev pub drive_after : Bool → Drive → Call → Drive
drive_after true drive call = record { bytes = bytes_after call drive.bytes; synced = synced_after call drive; meter = after_call drive.meter }
drive_after false drive call = record { bytes = drive.bytes; synced = drive.synced; meter = after_call drive.meter }

-- what a call made of a disk in memory
pub record MemMakes (disk : Memory) (call : Call) (ok : Bool) (now : Memory) : Type 0 where
  pub ok_is : fails_next disk.meter ≡ not ok
  pub drive_is : drive_of now ≡ drive_after ok (drive_of disk) call

abbrev pub MemAlike : Memory → Memory → Type 0
MemAlike disk other = drive_of other ≡ drive_of disk

-- the calls one after the other, up to the first that fails, and whether all succeeded
pub record Driven : Type 0 where
  pub drive : Drive
  pub ok : Bool

abbrev pub driven : Drive → List Call → Driven
driven drive [] = record { drive = drive; ok = true }
driven drive (call ∷ calls) =
    if fails_next drive.meter then record { drive = drive_after false drive call; ok = false }
    else driven (drive_after true drive call) calls
