-- How the keeper goes through the ended ends of one kind.
use Rattle.std.proofs.Common.{◌≡◌, ℕ, suc, ◌+◌, ◌<◌, List, [], ◌∷◌, ◌++◌, length, map, drop, refl, sym, ap, ◌∙◌, subst, arith, Some, append-nil, append_assoc, length-append}
use Rattle.std.specs.Prelude.{slice_get, slice_index_or}
use Rattle.atomic_table.specs.Seated.{TableId}
use Rattle.atomic_table.specs.declared.shared.Seat.{Seat}
use Rattle.stable_board.specs.declared.views.Published.{Published}
use Rattle.stable_board.specs.declared.views.Peeked.{Peeked}
use Rattle.stable_board.specs.declared.views.Register.{Register}
use Rattle.stable_board.specs.declared.views.View.{View}
use Rattle.stable_board.specs.declared.views.View.TheVariants.{Keeps, Publishes, Peeks, Spent}
use Rattle.stable_board.specs.Views.{with_ended}
use Rattle.stable_board.specs.Ends.{IsKeeping, publisher_of, peeker_of, with_published, with_peeked}

pub nothing : {A : Type 0} (l : List A) → length l ≡ 0 → l ≡ []
nothing [] none = refl
nothing (x ∷ xs) none = absurd (omega (arith, none))

-- some of all ends were taken in, and the rest are the next ones
pub record Ending {A B : Type 0} (told : A → B) (Numbered : ℕ → A → Type 0) (Seated : List B → Type 0) (all rest : List A) : Type 0 where
  pub known : List B
  pub seated : Seated known
  pub left : known ++ map told rest ≡ map told all
  pub each : (m : ℕ) (x : A) → slice_get rest m ≡ Some x → Numbered (length known + m) x

module _ {A B : Type 0} (told : A → B) (Numbered : ℕ → A → Type 0) (Seated : List B → Type 0) (all : List A) where
  pub ends_none : (rest : List A) → Seated [] → ((m : ℕ) (x : A) → slice_get all m ≡ Some x → Numbered m x) → rest ≡ all → Ending told Numbered Seated all rest
  ends_none rest seated each is = record {
    known = [];
    seated = seated;
    left = ap (map told) is;
    each = λ m x at. subst (λ (n : ℕ). Numbered n x) (omega arith) (each m x (ap (λ (l : List A). slice_get l m) (sym is) ∙ at));
  }

  -- the next one
  pub ends_next : (rest : List A) (x : A) → 0 < length rest → x ≡ slice_index_or rest 0 x → (h : Ending told Numbered Seated all rest) → Numbered (length h.known) x
  ends_next [] x some_left is h = absurd (omega (arith, some_left))
  ends_next (y ∷ ys) x some_left is h = subst (λ (n : ℕ). Numbered n x) (omega arith) (h.each 0 x (ap Some (sym is)))

  pub ends_more : (Next : List B → Type 0) (rest next : List A) (x : A) → 0 < length rest → x ≡ slice_index_or rest 0 x → next ≡ drop 1 rest → (h : Ending told Numbered Seated all rest)
      → Next (h.known ++ told x ∷ []) → Ending told Numbered Next all next
  ends_more Next [] next x some_left is dropped h seated = absurd (omega (arith, some_left))
  ends_more Next (y ∷ ys) next x some_left is dropped h seated = record {
    known = h.known ++ told x ∷ [];
    seated = seated;
    left = append_assoc h.known (told x ∷ []) (map told next) ∙ (ap (λ (l : List A). h.known ++ told x ∷ map told l) dropped ∙ (ap (λ (z : A). h.known ++ told z ∷ map told ys) is ∙ h.left));
    each = λ m z at. subst (λ (n : ℕ). Numbered n z) (omega (arith, length-append h.known (told x ∷ []))) (h.each (suc m) z (ap (λ (l : List A). slice_get l m) (sym dropped) ∙ at));
  }

  pub ends_all : (rest : List A) → rest ≡ [] → Ending told Numbered Seated all rest → Seated (map told all)
  ends_all rest is h = subst Seated (sym (append-nil h.known) ∙ (ap (λ (l : List A). h.known ++ map told l) (sym is) ∙ h.left)) h.seated

pub publisher_table : (table : TableId) (v : View) → (publisher_of table v).board ≡ table
publisher_table table (Keeps known) = refl
publisher_table table (Publishes n did) = refl
publisher_table table (Peeks n saw) = refl
publisher_table table Spent = refl

pub peeker_table : (table : TableId) (v : View) → (peeker_of table v).board ≡ table
peeker_table table (Keeps known) = refl
peeker_table table (Publishes n did) = refl
peeker_table table (Peeks n saw) = refl
peeker_table table Spent = refl

-- the keeper's seat after a join
pub keeps_publisher : (table : TableId) (before after : Seat (Unit {0}) View) (start : Register) (known : List Published) (other : View) (n : ℕ) (did : Published)
    → IsKeeping table before (with_published start known) → other ≡ Publishes n did → after.table_id ≡ before.table_id → after.me ≡ (with_ended before.me.0 other, before.me.1)
    → IsKeeping table after (with_published start (known ++ did ∷ []))
keeps_publisher table before after start known other n did h is same me = record {
  table_is = same ∙ h.table_is;
  words = h.words;
  slots = ap (λ (m : View × List (ℕ × Unit {0})). length m.1) me ∙ h.slots;
  view_is = ap (λ (m : View × List (ℕ × Unit {0})). m.0) me ∙ (λ i. with_ended (h.view_is i) (is i));
}

pub keeps_peeker : (table : TableId) (before after : Seat (Unit {0}) View) (start : Register) (known : List Peeked) (other : View) (n : ℕ) (saw : Peeked)
    → IsKeeping table before (with_peeked start known) → other ≡ Peeks n saw → after.table_id ≡ before.table_id → after.me ≡ (with_ended before.me.0 other, before.me.1)
    → IsKeeping table after (with_peeked start (known ++ saw ∷ []))
keeps_peeker table before after start known other n saw h is same me = record {
  table_is = same ∙ h.table_is;
  words = h.words;
  slots = ap (λ (m : View × List (ℕ × Unit {0})). length m.1) me ∙ h.slots;
  view_is = ap (λ (m : View × List (ℕ × Unit {0})). m.0) me ∙ (λ i. with_ended (h.view_is i) (is i));
}
