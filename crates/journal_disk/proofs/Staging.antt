-- Bytes that are put behind a byte, and then that byte.
use Rattle.std.proofs.Common.{◌≡◌, ◌⊎◌, inl, inr, ℕ, ◌+◌, ◌-◌, ◌≤◌, ◌<◌, max, min, List, [], ◌∷◌, ◌++◌, length, take, drop, refl, sym, ap, subst, ◌∙◌, append_assoc, arith, length-append}
use Rattle.std.proofs.lemmas.List.{take_at, drop_at, take-append-le, drop-append-le, take-take, length-take, length-drop, length-take-le}
use Rattle.journal_disk.specs.Disk.{with_bytes, Torn, Follows, AddsNothing, Only, Elapses}
use Rattle.journal_disk.specs.Moments.{LeavesOnly, IsStaged, IsWritten, IsStagedOrWritten, opened}
use Rattle.journal_disk.proofs.MomentLemmas.{started, goes_on}

module _ (file bytes : List ℕ) (end : ℕ) (within : end < length file) where
  front_len : length (take (end + 1) file) ≡ end + 1
  front_len = length-take-le (end + 1) file (omega arith)

  both_len : length (take (end + 1) file ++ bytes) ≡ end + 1 + length bytes
  both_len = omega (arith, front_len, length-append (take (end + 1) file) bytes)

  staged_front : take end (with_bytes file (end + 1) bytes) ≡ take end file
  staged_front =
      take-append-le end (take (end + 1) file ++ bytes) (drop (end + 1 + length bytes) file) (omega (arith, both_len))
      ∙ take-append-le end (take (end + 1) file) bytes (omega (arith, front_len))
      ∙ take-take end (end + 1) file (omega arith)

  staged_behind : drop (end + 1) (with_bytes file (end + 1) bytes) ≡ bytes ++ drop (end + 1 + length bytes) file
  staged_behind =
      ap (λ (l : List ℕ). drop (end + 1) l) (append_assoc (take (end + 1) file) bytes (drop (end + 1 + length bytes) file))
      ∙ drop_at (take (end + 1) file) (bytes ++ drop (end + 1 + length bytes) file) (end + 1) front_len

  pub staged_longer : end + 1 + length bytes ≤ length (with_bytes file (end + 1) bytes)
  staged_longer = omega (arith, both_len, length-append (take (end + 1) file ++ bytes) (drop (end + 1 + length bytes) file))

  pub gate_torn : (other : List ℕ) → Torn end 1 (with_bytes file (end + 1) bytes) other → IsWritten file end bytes other
  gate_torn other torn = record {
    front = torn.before ∙ staged_front;
    behind = torn.behind ∙ staged_behind;
    longer = omega (arith, staged_longer, torn.no_shorter);
  }

  pub gate_written : with_bytes (with_bytes file (end + 1) bytes) end (1 ∷ []) ≡ opened file end bytes
  gate_written =
      ap (λ (l : List ℕ). l ++ (1 ∷ []) ++ drop (end + 1) (with_bytes file (end + 1) bytes)) staged_front
      ∙ ap (λ (l : List ℕ). take end file ++ (1 ∷ []) ++ l) staged_behind
      ∙ append_assoc (take end file) (1 ∷ []) (bytes ++ drop (end + 1 + length bytes) file)
      ∙ sym (append_assoc (take end file) (1 ∷ bytes) (drop (end + 1 + length bytes) file))

-- what a crash may leave of the calls
module _ {D : Type 0} (seen : D → List ℕ) (may_leave : D → List ℕ → Type 0) (moment : D → ℕ) (left_since : D → ℕ → List ℕ → Type 0) (old : D) (end : ℕ) (bytes : List ℕ) (durable : Only (seen old) (may_leave old)) where
  pub at_start : ((file : List ℕ) → left_since old (moment old) file → may_leave old file) → LeavesOnly moment left_since old old (IsStagedOrWritten (seen old) end bytes)
  at_start only = started moment left_since old (IsStagedOrWritten (seen old) end bytes) (λ file left. inl (ap (take (end + 1)) (durable file (only file left))))

  pub first_left : (new : D) → Follows (Torn (end + 1) (length bytes)) (may_leave old) (may_leave new) → (file : List ℕ) → may_leave new file → IsStagedOrWritten (seen old) end bytes file
  first_left new follows file left =
      let from = follows file left in
      let torn : Torn (end + 1) (length bytes) (seen old) file = subst (λ (f : List ℕ). Torn (end + 1) (length bytes) f file) (durable from.0 from.1) from.2 in
      inl torn.before

  pub second_left : (mid new : D) (middle : List ℕ) → end < length (seen old) → middle ≡ with_bytes (seen old) (end + 1) bytes → Only middle (may_leave mid) → Follows (Torn end 1) (may_leave mid) (may_leave new)
      → (file : List ℕ) → may_leave new file → IsStagedOrWritten (seen old) end bytes file
  second_left mid new middle within middle_is only follows file left =
      let from = follows file left in
      let torn : Torn end 1 (with_bytes (seen old) (end + 1) bytes) file = subst (λ (f : List ℕ). Torn end 1 f file) (only from.0 from.1 ∙ middle_is) from.2 in
      inr (gate_torn (seen old) bytes end within file torn)
