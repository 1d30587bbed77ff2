-- Slots and the appends in them: where the append of a slot stands among the appends.
use Rattle.std.proofs.Common.{◌≡◌, ◌≢◌, ℕ, zero, suc, ◌+◌, ◌<◌, ◌≤◌, List, [], ◌∷◌, true, false, eqb, Some, None, length, get_or, inl, inr, refl, sym, ap, ◌∙◌, arith}
use Rattle.std.specs.Prelude.{Option, remove, slice_get, slice_set}
use Rattle.std.proofs.lemmas.Bool.{eq-eqb, ne_eqb}
use Rattle.list_facts.specs.Lists.{Each}
use Rattle.list_facts.proofs.Places.{position_none}
use Rattle.lazy_rules.specs.ClientState.{OpenAppend, lowest}
use Rattle.append_client.specs.Appends.{AreNumbered, IsAt, IsOutside, taken, begins_open, place_in}
use Rattle.append_client.proofs.FirstPlace.{found_here, found_behind}

-- what reading a list at an index gives stands there
pub got : {A : Type 0} (xs : List A) (k : ℕ) (x : A) → k < length xs → x ≡ get_or xs k x → slice_get xs k ≡ Some x
got [] k x inside is = absurd (omega arith)
got (y ∷ xs) zero x inside is = ap Some (sym is)
got (y ∷ xs) (suc k) x inside is = got xs k x (omega arith) is

pub set_same : {A : Type 0} (xs : List A) (k : ℕ) (x : A) → slice_get xs k ≡ Some x → slice_set xs k x ≡ xs
set_same [] k x is = refl
set_same {A} (y ∷ xs) zero x is =
    let same : y ≡ x = cc in
    ap (λ (z : A). let all : List A = z ∷ xs in all) (sym same)
set_same {A} (y ∷ xs) (suc k) x is = ap (λ (l : List A). y ∷ l) (set_same xs k x is)

-- the append in slot k stands at a place among the appends, where it is changed or taken out with its slot
pub record Stands (slots : List (Option OpenAppend)) (number k : ℕ) (append : OpenAppend) : Type 0 where
  pub place : ℕ
  pub is_at : IsAt (taken slots) number place append
  pub kept : (b : OpenAppend) → taken (slice_set slots k (Some b)) ≡ slice_set (taken slots) place b
  pub out : taken (slice_set slots k None) ≡ remove (taken slots) place

pub stands : (n number : ℕ) (slots : List (Option OpenAppend)) (k : ℕ) (a : OpenAppend) → AreNumbered n slots → n + k ≡ number
    → slice_get slots k ≡ Some (Some a) → Stands slots number k a
stands n number [] k a numbered sum is = absurd cc
stands n number (None ∷ slots) zero a numbered sum is = absurd cc
stands n number (None ∷ slots) (suc k) a numbered sum is =
    let later = stands (n + 1) number slots k a numbered (omega arith) is in
    record { place = later.place; is_at = later.is_at; kept = later.kept; out = later.out }
stands n number (Some x ∷ slots) zero a numbered sum is =
    let same : x ≡ a = cc in
    let here : x.number ≡ n = numbered.0 in
    let own : x.number ≡ number = omega arith in
    record {
      place = 0;
      is_at = record {
        place = found_here (λ (append : OpenAppend). eqb append.number number) x (taken slots) (eq-eqb x.number number own);
        there = ap Some same;
        numbered = ap (λ (append : OpenAppend). append.number) (sym same) ∙ own;
      };
      kept = λ b. refl;
      out = refl;
    }
stands n number (Some x ∷ slots) (suc k) a numbered sum is =
    let here : x.number ≡ n = numbered.0 in
    let apart : x.number ≢ number = λ (e : x.number ≡ number). omega arith in
    let later = stands (n + 1) number slots k a numbered.1 (omega arith) is in
    record {
      place = suc later.place;
      is_at = record {
        place = found_behind (λ (append : OpenAppend). eqb append.number number) x (taken slots) later.place (ne_eqb x.number number apart) later.is_at.place;
        there = later.is_at.there;
        numbered = later.is_at.numbered;
      };
      kept = λ b. ap (λ (l : List OpenAppend). x ∷ l) (later.kept b);
      out = ap (λ (l : List OpenAppend). x ∷ l) later.out;
    }

-- no append has a number whose slot is empty, or not there
all_other : (n number : ℕ) (slots : List (Option OpenAppend)) → AreNumbered n slots
    → ((k : ℕ) (a : OpenAppend) → slice_get slots k ≡ Some (Some a) → n + k ≢ number) → Each (λ append. eqb append.number number ≡ false) (taken slots)
all_other n number [] numbered apart = tt
all_other n number (None ∷ slots) numbered apart =
    all_other (n + 1) number slots numbered (λ k a is e. apart (suc k) a is (omega arith))
all_other n number (Some x ∷ slots) numbered apart =
    let here : x.number ≡ n = numbered.0 in
    let other : x.number ≢ number = λ (e : x.number ≡ number). apart 0 x refl (omega arith) in
    (ne_eqb x.number number other, all_other (n + 1) number slots numbered.1 (λ k a is e. apart (suc k) a is (omega arith)))

within : (slots : List (Option OpenAppend)) (k : ℕ) (y : Option OpenAppend) → slice_get slots k ≡ Some y → k < length slots
within [] k y is = absurd cc
within (x ∷ slots) zero y is = omega arith
within (x ∷ slots) (suc k) y is = omega (arith, within slots k y is)

pub absent_outside : (n number : ℕ) (slots : List (Option OpenAppend)) → AreNumbered n slots → IsOutside n slots number → place_in (taken slots) number ≡ None
absent_outside n number slots numbered outside =
    position_none (λ (append : OpenAppend). eqb append.number number) (taken slots)
    (all_other n number slots numbered (λ k a is e. elim outside [
      | inl below ↦ omega arith
      | inr above ↦ omega (arith, within slots k (Some a) is)
    ]))

pub absent_empty : (n number k : ℕ) (slots : List (Option OpenAppend)) → AreNumbered n slots → n + k ≡ number → slice_get slots k ≡ Some None
    → place_in (taken slots) number ≡ None
absent_empty n number k slots numbered sum empty =
    position_none (λ (append : OpenAppend). eqb append.number number) (taken slots)
    (all_other n number slots numbered (λ j a is e.
    let same : j ≡ k = omega arith in
    let one : Some (Some a) ≡ slice_get slots k = sym is ∙ ap (λ (i : ℕ). slice_get slots i) same in
    let wrong : Some (Some a) ≡ Some None = one ∙ empty in
    absurd cc))

-- the first slot is that of the lowest number
pub lowest_first : (n : ℕ) (slots : List (Option OpenAppend)) → AreNumbered n slots → begins_open slots ≡ true → n ≡ lowest (n + length slots) (taken slots)
lowest_first n [] numbered begins = omega arith
lowest_first n (None ∷ slots) numbered begins = absurd cc
lowest_first n (Some a ∷ slots) numbered begins = sym numbered.0

pub none_left : (slots : List (Option OpenAppend)) → begins_open slots ≡ true → eqb (length slots) 0 ≡ eqb (length (taken slots)) 0
none_left [] begins = refl
none_left (None ∷ slots) begins = absurd cc
none_left (Some a ∷ slots) begins =
    ne_eqb (length (Some a ∷ slots)) 0 (λ (e : length (Some a ∷ slots) ≡ 0). omega arith)
    ∙ sym (ne_eqb (length (a ∷ taken slots)) 0 (λ (e : length (a ∷ taken slots) ≡ 0). omega arith))

pub no_more : (slots : List (Option OpenAppend)) → length (taken slots) ≤ length slots
no_more [] = omega arith
no_more (None ∷ slots) = omega (arith, no_more slots)
no_more (Some a ∷ slots) = omega (arith, no_more slots)
