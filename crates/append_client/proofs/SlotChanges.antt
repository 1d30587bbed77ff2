-- Slots that change: they stay numbered, and begin with an append.
use Rattle.std.proofs.Common.{◌≡◌, ℕ, zero, suc, ◌+◌, ◌^◌, ◌<◌, ◌≤◌, List, [], ◌∷◌, ◌++◌, true, Some, None, length, drop, map, refl, ap, subst, arith}
use Rattle.std.specs.Prelude.{Option, slice_set}
use Rattle.std.specs.Option.{option_map}
use Rattle.std.proofs.lemmas.List.{length-append, length-drop, length-map, length-set}
use Rattle.lazy_rules.specs.ClientRules.{unacknowledged}
use Rattle.lazy_rules.specs.ClientState.{OpenAppend}
use Rattle.append_client.specs.Appends.{AreNumbered, AreSlots, taken, begins_open}

-- what may stand in the slot of this number
abbrev pub Suits : ℕ → Option OpenAppend → Type 0
Suits number None = Unit {0}
Suits number (Some append) = append.number ≡ number

pub numbered_set : (n number : ℕ) (slots : List (Option OpenAppend)) (k : ℕ) (y : Option OpenAppend) → AreNumbered n slots → n + k ≡ number
    → Suits number y → AreNumbered n (slice_set slots k y)
numbered_set n number [] k y numbered sum suits = tt
numbered_set n number (None ∷ slots) zero None numbered sum suits = numbered
numbered_set n number (None ∷ slots) zero (Some b) numbered sum suits = (omega arith, numbered)
numbered_set n number (Some a ∷ slots) zero None numbered sum suits = numbered.1
numbered_set n number (Some a ∷ slots) zero (Some b) numbered sum suits = (omega arith, numbered.1)
numbered_set n number (None ∷ slots) (suc k) y numbered sum suits = numbered_set (n + 1) number slots k y numbered (omega arith) suits
numbered_set n number (Some a ∷ slots) (suc k) y numbered sum suits =
    (numbered.0, numbered_set (n + 1) number slots k y numbered.1 (omega arith) suits)

pub begins_set : (slots : List (Option OpenAppend)) (k : ℕ) (b : OpenAppend) → begins_open slots ≡ true → begins_open (slice_set slots k (Some b)) ≡ true
begins_set [] k b begins = refl
begins_set (None ∷ slots) k b begins = absurd cc
begins_set (Some a ∷ slots) zero b begins = refl
begins_set (Some a ∷ slots) (suc k) b begins = refl

pub numbered_drop : (n m c : ℕ) (slots : List (Option OpenAppend)) → n + c ≡ m → AreNumbered n slots → AreNumbered m (drop c slots)
numbered_drop n m zero slots sum numbered = subst (λ (q : ℕ). AreNumbered q slots) (omega arith) numbered
numbered_drop n m (suc c) [] sum numbered = tt
numbered_drop n m (suc c) (None ∷ slots) sum numbered = numbered_drop (n + 1) m c slots (omega arith) numbered
numbered_drop n m (suc c) (Some a ∷ slots) sum numbered = numbered_drop (n + 1) m c slots (omega arith) numbered.1

pub numbered_push : (n number : ℕ) (slots : List (Option OpenAppend)) (a : OpenAppend) → AreNumbered n slots → n + length slots ≡ number → a.number ≡ number
    → AreNumbered n (slots ++ Some a ∷ [])
numbered_push n number [] a numbered sum own = (omega arith, tt)
numbered_push n number (None ∷ slots) a numbered sum own = numbered_push (n + 1) number slots a numbered (omega arith) own
numbered_push n number (Some x ∷ slots) a numbered sum own =
    (numbered.0, numbered_push (n + 1) number slots a numbered.1 (omega arith) own)

pub begins_push : (slots : List (Option OpenAppend)) (a : OpenAppend) → begins_open slots ≡ true → begins_open (slots ++ Some a ∷ []) ≡ true
begins_push [] a begins = refl
begins_push (None ∷ slots) a begins = absurd cc
begins_push (Some x ∷ slots) a begins = refl

pub taken_push : (slots : List (Option OpenAppend)) (a : OpenAppend) → taken (slots ++ Some a ∷ []) ≡ taken slots ++ a ∷ []
taken_push [] a = refl
taken_push (None ∷ slots) a = taken_push slots a
taken_push (Some x ∷ slots) a = ap (λ (l : List OpenAppend). x ∷ l) (taken_push slots a)

-- ---- slots whose appends nobody acknowledged
abbrev pub cleared : List (Option OpenAppend) → List (Option OpenAppend)
cleared slots = map (option_map unacknowledged) slots

pub numbered_cleared : (n : ℕ) (slots : List (Option OpenAppend)) → AreNumbered n slots → AreNumbered n (cleared slots)
numbered_cleared n [] numbered = tt
numbered_cleared n (None ∷ slots) numbered = numbered_cleared (n + 1) slots numbered
numbered_cleared n (Some a ∷ slots) numbered = (numbered.0, numbered_cleared (n + 1) slots numbered.1)

pub begins_cleared : (slots : List (Option OpenAppend)) → begins_open slots ≡ true → begins_open (cleared slots) ≡ true
begins_cleared [] begins = refl
begins_cleared (None ∷ slots) begins = absurd cc
begins_cleared (Some a ∷ slots) begins = refl

pub taken_cleared : (slots : List (Option OpenAppend)) → taken (cleared slots) ≡ map unacknowledged (taken slots)
taken_cleared [] = refl
taken_cleared (None ∷ slots) = taken_cleared slots
taken_cleared (Some a ∷ slots) = ap (λ (l : List OpenAppend). unacknowledged a ∷ l) (taken_cleared slots)

-- ---- the slots of a client stay such slots
pub slots_push : (first : ℕ) (slots : List (Option OpenAppend)) (a : OpenAppend) → AreSlots first slots → a.number ≡ first + length slots
    → first + length slots + 1 < 2 ^ 32 → AreSlots first (slots ++ Some a ∷ [])
slots_push first slots a are own few = record {
  numbered = numbered_push first (first + length slots) slots a are.numbered refl own;
  begins = begins_push slots a are.begins;
  least = are.least;
  most = omega (arith, length-append slots (Some a ∷ []));
}

pub slots_set : (first number k : ℕ) (slots : List (Option OpenAppend)) (b : OpenAppend) → AreSlots first slots → first + k ≡ number
    → b.number ≡ number → AreSlots first (slice_set slots k (Some b))
slots_set first number k slots b are sum own = record {
  numbered = numbered_set first number slots k (Some b) are.numbered sum own;
  begins = begins_set slots k b are.begins;
  least = are.least;
  most = omega (arith, are.most, length-set slots k (Some b));
}

pub slots_finished : (first number k c : ℕ) (slots : List (Option OpenAppend)) → AreSlots first slots → first + k ≡ number → c ≤ length slots
    → begins_open (drop c (slice_set slots k None)) ≡ true → AreSlots (first + c) (drop c (slice_set slots k None))
slots_finished first number k c slots are sum few begins = record {
  numbered = numbered_drop first (first + c) c (slice_set slots k None) refl (numbered_set first number slots k None are.numbered sum tt);
  begins = begins;
  least = omega (arith, are.least);
  most = omega (arith, are.most, length-drop c (slice_set slots k None), length-set slots k None);
}

pub slots_cleared : (first : ℕ) (slots : List (Option OpenAppend)) → AreSlots first slots → AreSlots first (cleared slots)
slots_cleared first slots are = record {
  numbered = numbered_cleared first slots are.numbered;
  begins = begins_cleared slots are.begins;
  least = are.least;
  most = omega (arith, are.most, length-map slots (option_map unacknowledged));
}
