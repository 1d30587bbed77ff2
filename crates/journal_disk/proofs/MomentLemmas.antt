-- How a run of calls goes on.
use Rattle.std.proofs.Common.{◌≡◌, ◌⊎◌, inl, inr, ⊎_elim, ℕ, ◌≤◌, List, refl, sym, ◌∙◌, arith}
use Rattle.journal_disk.specs.Disk.{AddsNothing, Elapses, IsUntouched}
use Rattle.journal_disk.specs.Moments.{LeavesOnly, IsQuiet}

module _ {D : Type 0} (moment : D → ℕ) (left_since : D → ℕ → List ℕ → Type 0) where
  -- before the first call
  pub started : (old : D) (P : List ℕ → Type 0) → ((file : List ℕ) → left_since old (moment old) file → P file) → LeavesOnly moment left_since old old P
  started old P here = record { later = omega arith; each = here; before = λ t file le left. inl left }

  -- one call more, after which a crash leaves what has P
  pub goes_on : (old mid new : D) (P may_leave : List ℕ → Type 0) → LeavesOnly moment left_since old mid P → Elapses (moment mid) (moment new) (left_since mid) (left_since new) may_leave
      → ((file : List ℕ) → may_leave file → P file) → LeavesOnly moment left_since old new P
  goes_on old mid new P may_leave so_far time here = record {
    later = omega (arith, so_far.later, time.later);
    each = λ file left. ⊎_elim (so_far.each file) (here file) (time.nothing_else (moment old) file so_far.later left);
    before = λ t file le left. ⊎_elim (so_far.before t file le) (λ now. inr (here file now)) (time.nothing_else t file (omega (arith, le, so_far.later)) left);
  }

  pub weaker : (old new : D) (P Q : List ℕ → Type 0) → LeavesOnly moment left_since old new P → ((file : List ℕ) → P file → Q file) → LeavesOnly moment left_since old new Q
  weaker old new P Q leaves more = record {
    later = leaves.later;
    each = λ file left. more file (leaves.each file left);
    before = λ t file le left. ⊎_elim (λ was. inl was) (λ now. inr (more file now)) (leaves.before t file le left);
  }

  -- one run after another
  pub followed : (old mid new : D) (P : List ℕ → Type 0) → LeavesOnly moment left_since old mid P → LeavesOnly moment left_since mid new P → LeavesOnly moment left_since old new P
  followed old mid new P first second = record {
    later = omega (arith, first.later, second.later);
    each = λ file left. ⊎_elim (first.each file) (λ now. now) (second.before (moment old) file first.later left);
    before = λ t file le left. ⊎_elim (first.before t file le) (λ now. inr now) (second.before t file (omega (arith, le, first.later)) left);
  }

module _ {D : Type 0} (seen : D → List ℕ) (may_leave : D → List ℕ → Type 0) (moment : D → ℕ) (left_since : D → ℕ → List ℕ → Type 0) where
  pub quiet_none : (old : D) → ((file : List ℕ) → left_since old (moment old) file → may_leave old file) → IsQuiet seen may_leave moment left_since old old
  quiet_none old only = record { reads = refl; no_more = λ file left. left; leaves = started moment left_since old (may_leave old) only }

  pub quiet_call : (old new : D) → ((file : List ℕ) → left_since old (moment old) file → may_leave old file) → IsUntouched (seen old) (seen new) (may_leave old) (may_leave new)
      → Elapses (moment old) (moment new) (left_since old) (left_since new) (may_leave new) → IsQuiet seen may_leave moment left_since old new
  quiet_call old new only still time = record {
    reads = still.reads;
    no_more = still.no_more;
    leaves = goes_on moment left_since old old new (may_leave old) (may_leave new) (started moment left_since old (may_leave old) only) time still.no_more;
  }

  pub quiet_then : (old mid new : D) → IsQuiet seen may_leave moment left_since old mid → IsQuiet seen may_leave moment left_since mid new → IsQuiet seen may_leave moment left_since old new
  quiet_then old mid new first second = record {
    reads = second.reads ∙ first.reads;
    no_more = λ file left. first.no_more file (second.no_more file left);
    leaves = followed moment left_since old mid new (may_leave old) first.leaves (weaker moment left_since mid new (may_leave mid) (may_leave old) second.leaves first.no_more);
  }
