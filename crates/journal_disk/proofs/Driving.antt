-- What device calls make of a disk in memory.
use Rattle.std.proofs.Common.{◌≡◌, ℕ, Bool, true, false, not, List, [], ◌∷◌, ◌++◌, refl, sym, ap, ◌∙◌, Some, None}
use Rattle.journal_disk.specs.Calls.{Call, Sizes, Reads, Writes, Cuts, Syncs}
use Rattle.journal_disk.specs.Drive.{Drive, drive_of, drive_after, drive_off, MemMakes, MemAlike}
use Rattle.journal_disk.specs.Meter.{Metered, fails_next, after_call}
use Rattle.journal_disk.specs.Past.{Deed, Written, CutTo, Synced, Memory, Taped, changed, file_of, until_synced, is_sync, after_off}
use Rattle.journal_disk.proofs.Crashes.{file-push, twice}
use Rattle.journal_disk.proofs.Pasts.{synced-push, synced_all}

drive_by : (past past_now : List Deed) (meter : Metered) (bytes synced : List ℕ) → file_of past_now ≡ bytes → file_of (until_synced past_now) ≡ synced
    → (let now : Drive = record { bytes = file_of past_now; synced = file_of (until_synced past_now); meter = meter } in now ≡ record { bytes = bytes; synced = synced; meter = meter })
drive_by past past_now meter bytes synced is so = rw (is, so) refl

-- the file and what is synced, after one deed more
pub made_write : (disk now : Memory) (at : ℕ) (bytes : List ℕ) → fails_next disk.meter ≡ false → now.meter ≡ after_call disk.meter → now.tape.past ≡ disk.tape.past ++ Written at bytes ∷ [] → MemMakes disk (Writes at bytes) true now
made_write disk now at bytes ok meter past = record {
  ok_is = ok;
  drive_is = rw (past, meter) (drive_by disk.tape.past (disk.tape.past ++ Written at bytes ∷ []) (after_call disk.meter) _ _ (file-push disk.tape.past (Written at bytes)) (ap file_of (synced-push disk.tape.past (Written at bytes) refl)));
}

pub made_cut : (disk now : Memory) (size : ℕ) → fails_next disk.meter ≡ false → now.meter ≡ after_call disk.meter → now.tape.past ≡ disk.tape.past ++ CutTo size ∷ [] → MemMakes disk (Cuts size) true now
made_cut disk now size ok meter past = record {
  ok_is = ok;
  drive_is = rw (past, meter) (drive_by disk.tape.past (disk.tape.past ++ CutTo size ∷ []) (after_call disk.meter) _ _ (file-push disk.tape.past (CutTo size)) (ap file_of (synced-push disk.tape.past (CutTo size) refl)));
}

pub made_sync : (disk now : Memory) → fails_next disk.meter ≡ false → now.meter ≡ after_call disk.meter → now.tape.past ≡ disk.tape.past ++ Synced ∷ [] → MemMakes disk Syncs true now
made_sync disk now ok meter past = record {
  ok_is = ok;
  drive_is = rw (past, meter) (drive_by disk.tape.past (disk.tape.past ++ Synced ∷ []) (after_call disk.meter) _ _ (file-push disk.tape.past Synced) (ap file_of (synced_all disk.tape.past) ∙ file-push disk.tape.past Synced));
}

-- a call that changes nothing
pub made_look : (disk now : Memory) (call : Call) (look : drive_after true (drive_of disk) call ≡ drive_after false (drive_of disk) call) → fails_next disk.meter ≡ false → now.meter ≡ after_call disk.meter → now.tape.past ≡ disk.tape.past → MemMakes disk call true now
made_look disk now call look ok meter past = record { ok_is = ok; drive_is = rw (past, meter) (sym look) }

pub made_nothing : (disk now : Memory) (call : Call) → fails_next disk.meter ≡ true → now.meter ≡ after_call disk.meter → now.tape.past ≡ disk.tape.past → MemMakes disk call false now
made_nothing disk now call fails meter past = record { ok_is = fails; drive_is = rw (past, meter) refl }

pub alike_so : (disk now : Memory) → now.meter ≡ disk.meter → now.tape.past ≡ disk.tape.past → MemAlike disk now
alike_so disk now meter past = rw (past, meter) refl

pub off_drive : (disk : Memory) → drive_of (after_off disk) ≡ drive_off (drive_of disk)
off_drive disk = rw (twice disk.tape.past) refl
