-- What adding a block does to a journal.
use Rattle.std.proofs.Common.{◌≡◌, ◌≢◌, ◌⊎◌, inl, inr, ⊎_elim, ℕ, ◌+◌, ◌<◌, Bool, true, false, List, [], ◌∷◌, ◌++◌, length, take, drop, Ok, Err, Result, refl, sym, ap, subst, ◌∙◌, append-nil, arith, length-append}
use Rattle.journal_disk.specs.Disk.{AddsNothing, Only, Elapses, IsUntouched}
use Rattle.journal_disk.specs.Moments.{LeavesOnly, IsStagedOrWritten, opened}
use Rattle.journal_disk.proofs.MomentLemmas.{started, goes_on, weaker, followed}
use Rattle.lazy_msgs.specs.Frame.{four}
use Rattle.wire_frames.proofs.FieldLengths.{length-four}
use Rattle.shard_journal.specs.declared.block.Block.{Block}
use Rattle.shard_journal.specs.declared.refused.JournalRefused.{JournalRefused}
use Rattle.shard_journal.specs.declared.refused.JournalRefused.TheVariants.{Closed, Full, DiskFault, Damaged, Memory}
use Rattle.shard_journal.specs.Blocks.{body_form, behind_form, block_form, blocks_form, BlockFits, IsFile, IsWhole}
use Rattle.shard_journal.specs.State.{JournalState, IsSettled, IsBeforeOrAfter, Adds}
use Rattle.shard_journal.proofs.Files.{SameBlocks, one_file, form-push, end_within, staged_file, written_file, opened_file}

module _ {D : Type 0} (seen : D → List ℕ) (may_leave : D → List ℕ → Type 0) (moment : D → ℕ) (left_since : D → ℕ → List ℕ → Type 0) where
  -- the blocks that a settled file stands for
  settled_blocks : (disk : D) (kept end : ℕ) (settled : IsSettled seen may_leave disk kept end) (blocks : List Block) → IsFile (seen disk) blocks kept → blocks ≡ settled.blocks
  settled_blocks disk kept end settled blocks is = sym (one_file (seen disk) blocks settled.blocks kept kept is (inr settled.whole)).blocks_are

  pub adds_nothing : (old new : JournalState D) (more : List Block) (to : ℕ) (refused : JournalRefused) → IsSettled seen may_leave old.disk old.kept old.end → LeavesOnly moment left_since old.disk new.disk (may_leave old.disk)
      → seen new.disk ≡ seen old.disk → new.kept ≡ old.kept → new.end ≡ old.end → new.closed ≡ false → refused ≢ DiskFault → Adds seen may_leave moment left_since old new more to (Err refused)
  adds_nothing old new more to refused settled leaves reads kept_is end_is open_ other = record {
    answer = tt;
    kept_is = tt;
    file = λ blocks is. tt;
    durable = tt;
    any_moment = λ blocks is. weaker moment left_since old.disk new.disk (may_leave old.disk) (IsBeforeOrAfter blocks old.kept more to) leaves
        (λ file left. inl (subst (λ (f : List ℕ). IsFile f blocks old.kept) (sym (settled.durable file left)) is));
    closes = λ fault. absurd (other (let same : refused ≡ DiskFault = cc in same));
    stays_open = λ no_fault. open_;
    same = λ no_fault. (kept_is, end_is, reads);
  }

  -- a block with what stands behind its first byte, and a byte 00
  pub record IsNext (kept : ℕ) (block : Block) (bytes : List ℕ) : Type 0 where
    pub fits : BlockFits block
    pub from_is : block.from ≡ kept
    pub bytes_are : bytes ≡ behind_form block ++ 0 ∷ []

  left_by : (disk : D) (kept end : ℕ) (settled : IsSettled seen may_leave disk kept end) (block : Block) (bytes : List ℕ) → IsNext kept block bytes → (blocks : List Block) → IsFile (seen disk) blocks kept
      → (file : List ℕ) → IsStagedOrWritten (seen disk) end bytes file → IsBeforeOrAfter blocks kept (block ∷ []) block.to file
  left_by disk kept end settled block bytes next blocks is file left =
      let same = settled_blocks disk kept end settled blocks is in
      rw same (⊎_elim (λ staged. inl (staged_file (seen disk) settled.blocks kept end settled.whole settled.end_is file staged))
      (λ written. written_file (seen disk) settled.blocks kept end settled.whole settled.end_is block bytes next.fits next.from_is next.bytes_are file written) left)

  pub adds_failed : (old new : JournalState D) (block : Block) (bytes : List ℕ) → IsSettled seen may_leave old.disk old.kept old.end → IsNext old.kept block bytes
      → LeavesOnly moment left_since old.disk new.disk (IsStagedOrWritten (seen old.disk) old.end bytes) → new.closed ≡ true → Adds seen may_leave moment left_since old new (block ∷ []) block.to (Err DiskFault)
  adds_failed old new block bytes settled next leaves closed = record {
    answer = tt;
    kept_is = tt;
    file = λ blocks is. tt;
    durable = tt;
    any_moment = λ blocks is. weaker moment left_since old.disk new.disk (IsStagedOrWritten (seen old.disk) old.end bytes) (IsBeforeOrAfter blocks old.kept (block ∷ []) block.to) leaves
        (left_by old.disk old.kept old.end settled block bytes next blocks is);
    closes = λ fault. closed;
    stays_open = λ no_fault. absurd (no_fault refl);
    same = λ no_fault. absurd (no_fault refl);
  }

  pub adds_block : (old new : JournalState D) (block : Block) (bytes : List ℕ) → IsSettled seen may_leave old.disk old.kept old.end → IsNext old.kept block bytes
      → LeavesOnly moment left_since old.disk new.disk (IsStagedOrWritten (seen old.disk) old.end bytes) → seen new.disk ≡ opened (seen old.disk) old.end bytes → Only (seen new.disk) (may_leave new.disk)
      → new.kept ≡ block.to → new.closed ≡ false → Adds seen may_leave moment left_since old new (block ∷ []) block.to (Ok block.to)
  adds_block old new block bytes settled next leaves reads durable kept_is open_ = record {
    answer = refl;
    kept_is = kept_is;
    file = λ blocks is.
        let same = settled_blocks old.disk old.kept old.end settled blocks is in
        inr (rw same (opened_file (seen old.disk) settled.blocks old.kept old.end settled.whole settled.end_is block bytes next.fits next.from_is next.bytes_are (seen new.disk) reads));
    durable = durable;
    any_moment = λ blocks is. weaker moment left_since old.disk new.disk (IsStagedOrWritten (seen old.disk) old.end bytes) (IsBeforeOrAfter blocks old.kept (block ∷ []) block.to) leaves
        (left_by old.disk old.kept old.end settled block bytes next blocks is);
    closes = λ fault. absurd cc;
    stays_open = λ no_fault. open_;
    same = tt;
  }

  -- and the file is settled again
  pub settled_again : (old new : D) (kept end end_now : ℕ) (block : Block) (bytes : List ℕ) → IsSettled seen may_leave old kept end → IsNext kept block bytes → seen new ≡ opened (seen old) end bytes → Only (seen new) (may_leave new)
      → end_now ≡ end + 5 + length (body_form block) → IsSettled seen may_leave new block.to end_now
  settled_again old new kept end end_now block bytes settled next reads durable end_is = record {
    blocks = settled.blocks ++ block ∷ [];
    whole = opened_file (seen old) settled.blocks kept end settled.whole settled.end_is block bytes next.fits next.from_is next.bytes_are (seen new) reads;
    end_is = omega (arith, end_is, settled.end_is, ap length (form-push settled.blocks block), length-append (blocks_form settled.blocks) (block_form block), length-append (four (length (body_form block))) (body_form block), length-four (length (body_form block)));
    durable = durable;
  }

  -- nothing that counts has changed
  pub settled_still : (old new : D) (kept end : ℕ) → IsSettled seen may_leave old kept end → seen new ≡ seen old → AddsNothing (may_leave old) (may_leave new) → IsSettled seen may_leave new kept end
  settled_still old new kept end settled reads adds = record {
    blocks = settled.blocks;
    whole = subst (λ (f : List ℕ). IsWhole f settled.blocks kept) (sym reads) settled.whole;
    end_is = settled.end_is;
    durable = λ file left. settled.durable file (adds file left) ∙ sym reads;
  }

  pub settled_within : (disk : D) (kept end : ℕ) → IsSettled seen may_leave disk kept end → end < length (seen disk)
  settled_within disk kept end settled = end_within (seen disk) settled.blocks kept end settled.whole settled.end_is

  -- room was made before
  pub added_leaves : (old mid new : D) (end : ℕ) (bytes : List ℕ) → ((file : List ℕ) → left_since old (moment old) file → may_leave old file) → Only (seen old) (may_leave old) → IsUntouched (seen old) (seen mid) (may_leave old) (may_leave mid)
      → Elapses (moment old) (moment mid) (left_since old) (left_since mid) (may_leave mid) → LeavesOnly moment left_since mid new (IsStagedOrWritten (seen mid) end bytes) → LeavesOnly moment left_since old new (IsStagedOrWritten (seen old) end bytes)
  added_leaves old mid new end bytes only durable still time leaves =
      let P = IsStagedOrWritten (seen old) end bytes in
      let here : (file : List ℕ) → may_leave old file → P file = λ file left. inl (ap (take (end + 1)) (durable file left)) in
      let first = goes_on moment left_since old old mid P (may_leave mid) (started moment left_since old P (λ file left. here file (only file left))) time (λ file left. here file (still.no_more file left)) in
      let second = subst (λ (f : List ℕ). LeavesOnly moment left_since mid new (IsStagedOrWritten f end bytes)) still.reads leaves in
      followed moment left_since old mid new P first second
