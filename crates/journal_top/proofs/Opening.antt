-- A file that is opened has what was kept.
use Rattle.std.proofs.Common.{◌≡◌, inl, inr, ℕ, Bool, List, [], ◌∷◌, length, false, refl, sym, ap, ◌∙◌, subst, arith, if◌then◌else◌}
use Rattle.std.proofs.lemmas.Bool.{cases_lt, lt-ltb, le-ltb}
use Rattle.rec_id.specs.declared.entry.Entry.{Entry}
use Rattle.journal_disk.specs.Calls.{Reaches}
use Rattle.journal_disk.specs.Disk.{Only}
use Rattle.journal_disk.specs.Drive.{MemAlike, MemMakes}
use Rattle.journal_disk.specs.Past.{LeftBy, Memory, file_of}
use Rattle.shard_journal.specs.declared.block.Block.{Block}
use Rattle.shard_journal.specs.Blocks.{IsFile, IsWhole, blocks_form, entries_in}
use Rattle.shard_journal.specs.State.{Holds, IsReady, IsSettled, JournalState}
use Rattle.shard_journal.proofs.Files.{few_file, one_file}
use Rattle.journal_top.specs.Devices.{ready}
use Rattle.journal_top.specs.Sound.{GoesOn, IsOpened}
use Rattle.journal_top.proofs.Devices.{opened_device, reaches_on, ready_is}

pub ready_file : (f : List ℕ) (blocks : List Block) (kept : ℕ) → IsFile f blocks kept → IsFile (ready f) blocks kept
ready_file f blocks kept is = elim (cases_lt (length f) 2) [
  | inl few ↦
      let same = one_file f [] blocks 0 kept (few_file f few) is in
      let now : ready f ≡ 0 ∷ [] = ap (λ (b : Bool). if b then 0 ∷ [] else f) (lt-ltb (length f) 2 few) in
      let bare : IsFile (0 ∷ []) [] 0 = few_file (0 ∷ []) (omega arith) in
      let there : IsFile (0 ∷ []) blocks 0 = subst (λ (bs : List Block). IsFile (0 ∷ []) bs 0) (sym same.blocks_are) bare in
      let here : IsFile (0 ∷ []) blocks kept = subst (λ (k : ℕ). IsFile (0 ∷ []) blocks k) (sym same.end_is) there in
      subst (λ (g : List ℕ). IsFile g blocks kept) (sym now) here
  | inr many ↦
      let now : ready f ≡ f = ap (λ (b : Bool). if b then 0 ∷ [] else f) (le-ltb (length f) 2 many) in
      subst (λ (g : List ℕ). IsFile g blocks kept) (sym now) is
]

-- a file that is ready has a byte behind its blocks
pub ready_whole : (f : List ℕ) (blocks : List Block) (kept : ℕ) → IsWhole f blocks kept → IsWhole (ready f) blocks kept
ready_whole f blocks kept is = elim (cases_lt (length f) 2) [
  | inl few ↦
      let same = one_file f [] blocks 0 kept (few_file f few) (inr is) in
      let now : ready f ≡ 0 ∷ [] = ap (λ (b : Bool). if b then 0 ∷ [] else f) (lt-ltb (length f) 2 few) in
      let bare : IsWhole (0 ∷ []) [] 0 = record { closing = 0; rest = []; closed = omega arith; bytes = refl; chain = refl } in
      let there : IsWhole (0 ∷ []) blocks 0 = subst (λ (bs : List Block). IsWhole (0 ∷ []) bs 0) (sym same.blocks_are) bare in
      let here : IsWhole (0 ∷ []) blocks kept = subst (λ (k : ℕ). IsWhole (0 ∷ []) blocks k) (sym same.end_is) there in
      subst (λ (g : List ℕ). IsWhole g blocks kept) (sym now) here
  | inr many ↦
      let now : ready f ≡ f = ap (λ (b : Bool). if b then 0 ∷ [] else f) (le-ltb (length f) 2 many) in
      subst (λ (g : List ℕ). IsWhole g blocks kept) (sym now) is
]

pub opened_so : (off : Memory) (journal : JournalState Memory) (entries : List (ℕ × Entry)) (blocks : List Block) (kept : ℕ) → GoesOn off → Holds (file_of off.tape.past) journal.kept entries
    → IsReady (file_of off.tape.past) (file_of journal.disk.tape.past) → Only (file_of journal.disk.tape.past) (LeftBy journal.disk.tape.past) → journal.closed ≡ false
    → IsSettled {D = Memory} (λ disk. file_of disk.tape.past) (λ disk file. LeftBy disk.tape.past file) journal.disk journal.kept journal.end
    → Reaches MemMakes MemAlike off journal.disk → IsFile (file_of off.tape.past) blocks kept → IsOpened (file_of off.tape.past) blocks kept journal entries
opened_so off journal entries blocks kept on holds is only open_ settled reaches file =
    let f = file_of off.tape.past in
    let now = file_of journal.disk.tape.past in
    let going = reaches_on off journal.disk on reaches in
    let same = one_file f blocks holds.blocks kept journal.kept file holds.is_file in
    let reads : now ≡ ready f = ready_is f now is in
    let whole : IsFile (ready f) settled.blocks journal.kept = subst (λ (g : List ℕ). IsFile g settled.blocks journal.kept) reads (inr settled.whole) in
    let again = one_file (ready f) blocks settled.blocks kept journal.kept (ready_file f blocks kept file) whole in
    record {
      kept_is = same.end_is;
      end_is = settled.end_is ∙ ap (λ (bs : List Block). length (blocks_form bs)) again.blocks_are;
      open_ = open_;
      entries_are = holds.entries_are ∙ ap entries_in same.blocks_are;
      disk_is = opened_device off journal.disk is only going.no_stop;
      faultless = going.none_to_fail;
    }
