use Rattle.std.specs.Prelude.{ℕ, ◌+◌, ◌^◌, ◌<◌, ◌≤◌, ◌≡◌, ◌==◌, ◌⊎◌, List, [], ◌∷◌, length, position, Bool, true, false, Option, Some, None, slice_get}
use Rattle.lazy_rules.specs.ClientState.{OpenAppend}

-- the number of the next append, the appends that aren't finished, by number, and for how many more there
-- is room
pub record Appends : Type 0 where
  pub next : ℕ
  pub unfinished : List OpenAppend
  pub room : ℕ

-- the appends in the slots, of which the finished ones' are empty
abbrev pub taken : List (Option OpenAppend) → List OpenAppend
taken [] = []
taken (None ∷ slots) = taken slots
taken (Some append ∷ slots) = append ∷ taken slots

-- each append has the number of its slot, the first slot's being this one
abbrev pub AreNumbered : ℕ → List (Option OpenAppend) → Type 0
AreNumbered number [] = Unit {0}
AreNumbered number (None ∷ slots) = AreNumbered (number + 1) slots
AreNumbered number (Some append ∷ slots) = (append.number ≡ number) × AreNumbered (number + 1) slots

-- the first slot, if there is one, has an append
abbrev pub begins_open : List (Option OpenAppend) → Bool
begins_open (None ∷ slots) = false
begins_open _ = true

-- the slots of numbers that a client can give, the lowest of which isn't finished
pub record AreSlots (first : ℕ) (slots : List (Option OpenAppend)) : Type 0 where
  pub numbered : AreNumbered first slots
  pub begins : begins_open slots ≡ true
  pub least : 1 ≤ first
  pub most : first + length slots < 2 ^ 32

-- no slot has this number
abbrev pub IsOutside : ℕ → List (Option OpenAppend) → ℕ → Type 0
IsOutside first slots number = (number < first) ⊎ (first + length slots ≤ number)

-- where the append of this number stands
abbrev pub place_in : List OpenAppend → ℕ → Option ℕ
place_in appends number = position (λ append. append.number == number) appends

-- the append of this number is this one, and stands at place i
pub record IsAt (appends : List OpenAppend) (number i : ℕ) (append : OpenAppend) : Type 0 where
  pub place : place_in appends number ≡ Some i
  pub there : slice_get appends i ≡ Some append
  pub numbered : append.number ≡ number
