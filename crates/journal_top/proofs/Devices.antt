-- What device calls make of a disk in memory.
use Rattle.std.proofs.Common.{◌≡◌, inl, inr, ℕ, zero, suc, Bool, true, false, List, [], ◌∷◌, length, None, refl, sym, ap, ◌∙◌, subst, if◌then◌else◌}
use Rattle.std.proofs.lemmas.Bool.{cases_lt, lt-ltb, le-ltb}
use Rattle.journal_disk.specs.Calls.{Call, Sizes, Reads, Writes, Cuts, Syncs, Does, Reaches, Steps}
use Rattle.journal_disk.specs.Disk.{Only}
use Rattle.journal_disk.specs.Drive.{Drive, MemAlike, MemMakes, drive_after, drive_of}
use Rattle.journal_disk.specs.Meter.{Metered, fails_next}
use Rattle.journal_disk.specs.Past.{LeftBy, Memory, after_off, file_of, until_synced}
use Rattle.shard_journal.specs.declared.block.Block.{Block}
use Rattle.shard_journal.specs.State.{HasPut, IsReady}
use Rattle.journal_top.specs.Sound.{GoesOn}
use Rattle.journal_top.specs.Devices.{Device, device_of, failed, is_stopped, keep_calls, made, ready, reopened, succeeded}

-- ---- one call

abbrev device_in : Drive → Device
device_in drive = record { bytes = drive.bytes; synced = drive.synced; left = drive.meter.stops_in }

call_did : (disk now : Memory) (call : Call) → MemMakes disk call true now → device_of now ≡ succeeded call (device_of disk)
call_did disk now call is = ap device_in is.drive_is ∙ by call
  where
    by : (c : Call) → device_in (drive_after true (drive_of disk) c) ≡ succeeded c (device_of disk)
    by Sizes = refl
    by (Reads at count) = refl
    by (Writes at piece) = refl
    by (Cuts size) = refl
    by Syncs = refl

call_failed : (disk now : Memory) (call : Call) → MemMakes disk call false now → device_of now ≡ failed (device_of disk)
call_failed disk now call is = ap device_in is.drive_is

-- without numbers of calls that are to fail, only a stop lets one fail
stops_alone : (meter : Metered) → meter.to_fail ≡ [] → fails_next meter ≡ is_stopped meter.stops_in
stops_alone meter none = rw none refl

to_fail_same : (disk now : Memory) (call : Call) (ok : Bool) → MemMakes disk call ok now → now.meter.to_fail ≡ disk.meter.to_fail
to_fail_same disk now call true is = ap (λ (d : Drive). d.meter.to_fail) is.drive_is
to_fail_same disk now call false is = ap (λ (d : Drive). d.meter.to_fail) is.drive_is

-- ---- several

-- they made this of the disk
pub record AreMade (old new : Memory) (calls : List Call) (ok : Bool) : Type 0 where
  pub made_is : made (device_of old) calls ≡ record { disk = device_of new; ok = ok }
  pub faultless : new.meter.to_fail ≡ []

made_on : (disk : Device) (call : Call) (calls : List Call) → is_stopped disk.left ≡ false → made disk (call ∷ calls) ≡ made (succeeded call disk) calls
made_on disk call calls is = ap (λ (b : Bool). if b then record { disk = failed disk; ok = false } else made (succeeded call disk) calls) is

made_off : (disk : Device) (call : Call) (calls : List Call) → is_stopped disk.left ≡ true → made disk (call ∷ calls) ≡ record { disk = failed disk; ok = false }
made_off disk call calls is = ap (λ (b : Bool). if b then record { disk = failed disk; ok = false } else made (succeeded call disk) calls) is

pub are_made : (calls : List Call) (old new : Memory) (ok : Bool) → old.meter.to_fail ≡ [] → Does MemMakes calls old ok new → AreMade old new calls ok
are_made [] old new ok none does = record { made_is = rw (does.0, does.1) refl; faultless = rw does.1 none }
are_made (call ∷ calls) old new ok none (inl stop) =
    let stopped : is_stopped old.meter.stops_in ≡ true = sym (stops_alone old.meter none) ∙ stop.1.ok_is in record {
      made_is = made_off (device_of old) call calls stopped ∙ rw (stop.0, call_failed old new call stop.1) refl;
      faultless = to_fail_same old new call false stop.1 ∙ none;
    }
are_made (call ∷ calls) old new ok none (inr on) =
    let mid = on.0 in
    let going : is_stopped old.meter.stops_in ≡ false = sym (stops_alone old.meter none) ∙ on.1.ok_is in
    let rest = are_made calls mid new ok (to_fail_same old mid call true on.1 ∙ none) on.2 in record {
      made_is = made_on (device_of old) call calls going ∙ ap (λ (d : Device). made d calls) (sym (call_did old mid call on.1)) ∙ rest.made_is;
      faultless = rest.faultless;
    }

pub put_made : (old new : Memory) (end : ℕ) (block : Block) (ok : Bool) → old.meter.to_fail ≡ [] → HasPut MemMakes MemAlike old end block ok new → AreMade old new (keep_calls end block) ok
put_made old new end block ok none put =
    let room = put.0 in
    let same : device_of room ≡ device_of old = ap device_in put.1 in
    let all = are_made (keep_calls end block) room new ok (ap (λ (d : Drive). d.meter.to_fail) put.1 ∙ none) put.2 in
    record { made_is = ap (λ (d : Device). made d (keep_calls end block)) (sym same) ∙ all.made_is; faultless = all.faultless }

-- ---- a disk that isn't to stop

call_goes_on : (disk now : Memory) (call : Call) (ok : Bool) → GoesOn disk → MemMakes disk call ok now → GoesOn now
call_goes_on disk now call true on is = record { none_to_fail = to_fail_same disk now call true is ∙ on.none_to_fail; no_stop = ap (λ (d : Drive). d.meter.stops_in) is.drive_is ∙ rw on.no_stop refl }
call_goes_on disk now call false on is = record { none_to_fail = to_fail_same disk now call false is ∙ on.none_to_fail; no_stop = ap (λ (d : Drive). d.meter.stops_in) is.drive_is ∙ rw on.no_stop refl }

steps_go_on : (n : ℕ) (old new : Memory) → GoesOn old → Steps MemMakes MemAlike n old new → GoesOn new
steps_go_on zero old new on steps = subst GoesOn (sym steps) on
steps_go_on (suc n) old new on steps =
    let mid = steps.0 in
    let there = steps_go_on n old mid on steps.1 in
    elim steps.2 [
      | inl alike ↦ record { none_to_fail = ap (λ (d : Drive). d.meter.to_fail) alike ∙ there.none_to_fail; no_stop = ap (λ (d : Drive). d.meter.stops_in) alike ∙ there.no_stop }
      | inr call ↦ call_goes_on mid new call.0 call.1 there call.2
    ]

pub reaches_on : (old new : Memory) → GoesOn old → Reaches MemMakes MemAlike old new → GoesOn new
reaches_on old new on reaches = steps_go_on reaches.count old new on reaches.steps

-- the power went off and on
pub off_goes_on : (disk : Memory) → disk.meter.to_fail ≡ [] → GoesOn (after_off disk)
off_goes_on disk none = record { none_to_fail = none; no_stop = refl }

-- and the file was opened
pub ready_is : (old new : List ℕ) → IsReady old new → new ≡ ready old
ready_is old new is = elim (cases_lt (length old) 2) [
  | inl few ↦ is.bare few ∙ sym (ap (λ (b : Bool). if b then 0 ∷ [] else old) (lt-ltb (length old) 2 few))
  | inr many ↦ is.same many ∙ sym (ap (λ (b : Bool). if b then 0 ∷ [] else old) (le-ltb (length old) 2 many))
]

pub opened_device : (off now : Memory) → IsReady (file_of off.tape.past) (file_of now.tape.past) → Only (file_of now.tape.past) (LeftBy now.tape.past) → now.meter.stops_in ≡ None → device_of now ≡ reopened (file_of off.tape.past)
opened_device off now is only none =
    let reads = ready_is (file_of off.tape.past) (file_of now.tape.past) is in
    let lasts : file_of (until_synced now.tape.past) ≡ ready (file_of off.tape.past) = only (file_of (until_synced now.tape.past)) (inr refl) ∙ reads in
    rw (none, lasts, reads) refl
