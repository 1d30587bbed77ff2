-- What a crash leaves of a disk in memory, and how that goes on.
use Rattle.std.proofs.Common.{◌≡◌, ◌⊎◌, inl, inr, ⊎_elim, ℕ, ◌+◌, ◌≤◌, ◌<◌, max, min, Bool, true, false, List, [], ◌∷◌, ◌++◌, length, take, drop, refl, sym, ap, ◌∙◌, subst, arith, length-append, append_assoc}
use Rattle.std.specs.Prelude.{◌||◌, if◌then◌else◌}
use Rattle.std.specs.List.{list_any}
use Rattle.std.proofs.lemmas.Bool.{cases_lt}
use Rattle.std.proofs.lemmas.List.{append-nil, take-append-le, take_all, take_at, drop_at, drop_all, drop-drop, take-take, length-take, length-drop, length_push, take-append-drop}
use Rattle.journal_disk.specs.Disk.{with_bytes, Torn, PartCut, Follows, AddsNothing, Only, Elapses}
use Rattle.journal_disk.specs.Past.{Deed, Written, CutTo, Synced, changed, file_after, file_of, is_sync, until_synced, LeftBy, LeftSince, left_now}
use Rattle.journal_disk.proofs.Pasts.{file-append, synced-push, synced_all}

-- ---- time

pub elapses_same : (deeds : List Deed) → Elapses (length deeds) (length deeds) (LeftSince deeds) (LeftSince deeds) (LeftBy deeds)
elapses_same deeds = record { later = omega arith; nothing_else = λ t file le since. inl since; keeps = λ t file le since. since }

pub elapses_deed : (deeds : List Deed) (deed : Deed) → Elapses (length deeds) (length (deeds ++ deed ∷ [])) (LeftSince deeds) (LeftSince (deeds ++ deed ∷ [])) (LeftBy (deeds ++ deed ∷ []))
elapses_deed deeds deed = record {
  later = omega (arith, length_push deeds deed);
  nothing_else = λ t file le since.
      elim (cases_lt (length deeds) since.0) [
        | inl last ↦ inr (subst (λ (ds : List Deed). LeftBy ds file) (take_all since.0 (deeds ++ deed ∷ []) (omega (arith, length_push deeds deed))) since.3)
        | inr before ↦ inl (since.0, since.1, before, subst (λ (ds : List Deed). LeftBy ds file) (take-append-le since.0 deeds (deed ∷ []) before) since.3)
      ];
  keeps = λ t file le since.
      (since.0, since.1, omega (arith, since.2, length_push deeds deed), subst (λ (ds : List Deed). LeftBy ds file) (sym (take-append-le since.0 deeds (deed ∷ []) since.2)) since.3);
}

-- ---- one file

torn_self : (at n : ℕ) (file : List ℕ) → Torn at n file file
torn_self at n file = record { before = refl; behind = refl; no_shorter = omega arith; no_longer = omega arith }

length-with : (file : List ℕ) (at : ℕ) (bytes : List ℕ) → at ≤ length file → length (with_bytes file at bytes) ≡ max (length file) (at + length bytes)
length-with file at bytes le =
    omega (arith, length-append (take at file ++ bytes) (drop (at + length bytes) file), length-append (take at file) bytes, length-take at file, length-drop (at + length bytes) file)

torn_written : (file : List ℕ) (at : ℕ) (bytes : List ℕ) → at ≤ length file → Torn at (length bytes) file (with_bytes file at bytes)
torn_written file at bytes le =
    let size : length (take at file) ≡ at = omega (arith, length-take at file) in
    let both : length (take at file ++ bytes) ≡ at + length bytes = omega (arith, length-append (take at file) bytes) in
    record {
      before = ap (take at) (append_assoc (take at file) bytes (drop (at + length bytes) file)) ∙ take_at (take at file) (bytes ++ drop (at + length bytes) file) at size;
      behind = drop_at (take at file ++ bytes) (drop (at + length bytes) file) (at + length bytes) both;
      no_shorter = omega (arith, length-with file at bytes le);
      no_longer = omega (arith, length-with file at bytes le);
    }

part_self : (size : ℕ) (file : List ℕ) → PartCut size file file
part_self size file = record { no_shorter = omega arith; front = take_all (length file) file (omega arith) }

part_cut : (size : ℕ) (file : List ℕ) → size ≤ length file → PartCut size file (take size file)
part_cut size file le =
    let long : length (take size file) ≡ size = omega (arith, length-take size file) in
    record { no_shorter = omega (arith, long); front = ap (λ n. take n file) long }

-- ---- what a crash leaves

pub file-push : (deeds : List Deed) (deed : Deed) → file_of (deeds ++ deed ∷ []) ≡ changed deed (file_of deeds)
file-push deeds deed = file-append deeds (deed ∷ []) []

pub writes_follow : (deeds : List Deed) (at : ℕ) (bytes : List ℕ) → at ≤ length (file_of deeds) → Follows (Torn at (length bytes)) (LeftBy deeds) (LeftBy (deeds ++ Written at bytes ∷ []))
writes_follow deeds at bytes le file (inl is) =
    (file_of deeds, inl refl, subst (λ (f : List ℕ). Torn at (length bytes) (file_of deeds) f) (sym (is ∙ file-push deeds (Written at bytes))) (torn_written (file_of deeds) at bytes le))
writes_follow deeds at bytes le file (inr is) =
    let synced : file ≡ file_of (until_synced deeds) = is ∙ ap file_of (synced-push deeds (Written at bytes) refl) in
    (file, inr synced, torn_self at (length bytes) file)

pub failures_follow : (deeds : List Deed) (at n : ℕ) → Follows (Torn at n) (LeftBy deeds) (LeftBy deeds)
failures_follow deeds at n file left = (file, left, torn_self at n file)

pub cuts_follow : (deeds : List Deed) (size : ℕ) → size ≤ length (file_of deeds) → Follows (PartCut size) (LeftBy deeds) (LeftBy (deeds ++ CutTo size ∷ []))
cuts_follow deeds size le file (inl is) =
    (file_of deeds, inl refl, subst (λ (f : List ℕ). PartCut size (file_of deeds) f) (sym (is ∙ file-push deeds (CutTo size))) (part_cut size (file_of deeds) le))
cuts_follow deeds size le file (inr is) =
    let synced : file ≡ file_of (until_synced deeds) = is ∙ ap file_of (synced-push deeds (CutTo size) refl) in
    (file, inr synced, part_self size file)

pub failed_cuts_follow : (deeds : List Deed) (size : ℕ) → Follows (PartCut size) (LeftBy deeds) (LeftBy deeds)
failed_cuts_follow deeds size file left = (file, left, part_self size file)

-- a sync: nothing is left but the file
pub only_synced : (deeds : List Deed) → Only (file_of deeds) (LeftBy (deeds ++ Synced ∷ []))
only_synced deeds file (inl is) = is ∙ file-push deeds Synced
only_synced deeds file (inr is) = is ∙ ap file_of (synced_all deeds) ∙ file-push deeds Synced

pub syncs_add : (deeds : List Deed) → AddsNothing (LeftBy deeds) (LeftBy (deeds ++ Synced ∷ []))
syncs_add deeds file left = inl (only_synced deeds file left)

pub synced_reads : (deeds : List Deed) → file_of (deeds ++ Synced ∷ []) ≡ file_of deeds
synced_reads deeds = file-push deeds Synced

-- the power goes off
synced_if : (b : Bool) (deed : Deed) (deeds : List Deed) → until_synced deeds ≡ until_synced (until_synced deeds) → list_any is_sync (until_synced deeds) ≡ list_any is_sync deeds → list_any is_sync (deed ∷ deeds) ≡ b
    → until_synced (if b then deed ∷ until_synced deeds else []) ≡ (if b then deed ∷ until_synced deeds else [])
synced_if true deed deeds again any is =
    let any_now : list_any is_sync (deed ∷ until_synced deeds) ≡ true = ap (λ (x : Bool). is_sync deed || x) any ∙ is in
    rw (any_now, ← again) refl
synced_if false deed deeds again any is = refl

any_if : (b : Bool) (deed : Deed) (deeds : List Deed) → list_any is_sync (until_synced deeds) ≡ list_any is_sync deeds → list_any is_sync (deed ∷ deeds) ≡ b
    → list_any is_sync (if b then deed ∷ until_synced deeds else []) ≡ b
any_if true deed deeds any is = ap (λ (x : Bool). is_sync deed || x) any ∙ is
any_if false deed deeds any is = refl

any_synced : (deeds : List Deed) → list_any is_sync (until_synced deeds) ≡ list_any is_sync deeds
any_synced [] = refl
any_synced (deed ∷ deeds) = any_if (list_any is_sync (deed ∷ deeds)) deed deeds (any_synced deeds) refl

pub twice : (deeds : List Deed) → until_synced (until_synced deeds) ≡ until_synced deeds
twice [] = refl
twice (deed ∷ deeds) = synced_if (list_any is_sync (deed ∷ deeds)) deed deeds (sym (twice deeds)) (any_synced deeds) refl

pub off_reads : (deeds : List Deed) → LeftBy deeds (file_of (until_synced deeds))
off_reads deeds = inr refl

pub off_adds : (deeds : List Deed) → AddsNothing (LeftBy deeds) (LeftBy (until_synced deeds))
off_adds deeds file (inl is) = inr is
off_adds deeds file (inr is) = inr (is ∙ ap file_of (twice deeds))
