-- A slot that is written: what becomes of the appends.
use Rattle.std.proofs.Common.{◌≡◌, ℕ, ◌+◌, ◌<◌, List, Some, None, length, get_or, refl, sym, ap, ◌∙◌, subst}
use Rattle.std.specs.Prelude.{Option, Result, Ok, Err, OnOk, OnErr, remove, slice_get, slice_set}
use Rattle.lazy_rules.specs.ClientRules.{noted}
use Rattle.lazy_rules.specs.ClientState.{OpenAppend}
use Rattle.append_client.specs.Appends.{AreSlots, IsAt, taken, place_in}
use Rattle.append_client.proofs.Slots.{got, set_same, stands, absent_empty}
use Rattle.append_client.proofs.SlotChanges.{slots_set}

same_place : (i j : ℕ) → Some i ≡ Some j → i ≡ j
same_place i j e = cc

same_append : (a b : OpenAppend) → Some a ≡ Some b → a ≡ b
same_append a b e = cc

pub nowhere : (i : ℕ) (p : Option ℕ) → p ≡ None → p ≡ Some i → ⊥
nowhere i p none some = cc

-- one node more acknowledged the append of this number: in slot k stands this from now on
pub record Noted (first number k : ℕ) (slots : List (Option OpenAppend)) (now : Option OpenAppend) (node : ℕ) : Type 0 where
  pub are_slots : AreSlots first (slice_set slots k now)
  pub is_set : (i : ℕ) (a : OpenAppend) → IsAt (taken slots) number i a → taken (slice_set slots k now) ≡ slice_set (taken slots) i (noted a node)

-- a node tried to note it: where it could, one node more acknowledged the append
pub record NotedAs {R E : Type 0} (first number k : ℕ) (slots : List (Option OpenAppend)) (now : Option OpenAppend) (node : ℕ) (result : Result R E) : Type 0 where
  pub are_slots : AreSlots first (slice_set slots k now)
  pub is_set : (i : ℕ) (a : OpenAppend) → IsAt (taken slots) number i a → OnOk result (taken (slice_set slots k now) ≡ slice_set (taken slots) i (noted a node))

module _ (first number k : ℕ) (slots : List (Option OpenAppend)) (are : AreSlots first slots) (sum : first + k ≡ number) (inside : k < length slots) where
  -- the slot holds the append of this number, or no append has it
  empty_none : None ≡ get_or slots k None → place_in (taken slots) number ≡ None
  empty_none is = absent_empty first number k slots are.numbered sum (got slots k None inside is)

  -- ---- the slot's append is acknowledged by one node more
  pub with_note : (had now : Option OpenAppend) (node : ℕ) → had ≡ get_or slots k had → (had ≡ None → now ≡ None)
      → ((a : OpenAppend) → had ≡ Some a → now ≡ Some (noted a node)) → Noted first number k slots now node
  with_note None now node is none some =
      let kept : slice_set slots k now ≡ slots = ap (slice_set slots k) (none refl) ∙ set_same slots k None (got slots k None inside is) in
      record {
        are_slots = subst (AreSlots first) (sym kept) are;
        is_set = λ i a at. absurd (nowhere i (place_in (taken slots) number) (empty_none is) at.place);
      }
  with_note (Some b) now node is none some =
      let there : slice_get slots k ≡ Some (Some b) = got slots k (Some b) inside is in
      let found = stands first number slots k b are.numbered sum there in
      let written : now ≡ Some (noted b node) = some b refl in
      record {
        are_slots = subst (λ (y : Option OpenAppend). AreSlots first (slice_set slots k y)) (sym written)
            (slots_set first number k slots (noted b node) are sum found.is_at.numbered);
        is_set = λ i a at.
            let place : found.place ≡ i = same_place found.place i (sym found.is_at.place ∙ at.place) in
            let same : b ≡ a = same_append b a (sym found.is_at.there ∙ ap (slice_get (taken slots)) place ∙ at.there) in
            ap (λ (y : Option OpenAppend). taken (slice_set slots k y)) written
            ∙ found.kept (noted b node)
            ∙ ap (λ (j : ℕ). slice_set (taken slots) j (noted b node)) place
            ∙ ap (λ (x : OpenAppend). slice_set (taken slots) i (noted x node)) same;
      }

  pub noted_as : {R E : Type 0} (result : Result R E) (had now : Option OpenAppend) (node : ℕ) → had ≡ get_or slots k had
      → (had ≡ None → now ≡ None) → ((a : OpenAppend) → had ≡ Some a → OnOk result (now ≡ Some (noted a node))) → OnErr result (now ≡ had)
      → NotedAs first number k slots now node result
  noted_as (Ok u) had now node is none some err =
      let done = with_note had now node is none some in
      record { are_slots = done.are_slots; is_set = done.is_set }
  noted_as (Err e) had now node is none some err =
      let kept : slice_set slots k now ≡ slots = ap (slice_set slots k) err ∙ set_same slots k had (got slots k had inside is) in
      record { are_slots = subst (AreSlots first) (sym kept) are; is_set = λ i a at. tt }

  -- ---- the slot is emptied
  pub emptied : (had : Option OpenAppend) → had ≡ get_or slots k had → (i : ℕ) → place_in (taken slots) number ≡ Some i
      → taken (slice_set slots k None) ≡ remove (taken slots) i
  emptied None is i at = absurd (nowhere i (place_in (taken slots) number) (empty_none is) at)
  emptied (Some b) is i at =
      let there : slice_get slots k ≡ Some (Some b) = got slots k (Some b) inside is in
      let found = stands first number slots k b are.numbered sum there in
      found.out ∙ ap (remove (taken slots)) (same_place found.place i (sym found.is_at.place ∙ at))
