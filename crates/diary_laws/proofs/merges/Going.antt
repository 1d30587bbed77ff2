-- The steps of a node that become events go on, one from the other.
use Rattle.std.proofs.Common.{◌≡◌, ℕ, List, [], ◌∷◌, Bool, true, false, cond, refl, sym, ap, ◌∙◌, subst}
use Rattle.std.specs.Prelude.{not, filter}
use Rattle.lazy_msgs.specs.declared.diary.DiaryEntry.{DiaryEntry}
use Rattle.lazy_msgs.specs.declared.input.Input.{Input}
use Rattle.lazy_msgs.specs.declared.input.Input.TheVariants.{Crash}
use Rattle.diary_laws.specs.Machines.{Machine, Step, step_of, steps_from, state_behind}
use Rattle.diary_laws.specs.Formed.{IsReceived, IsLast, Follows}
use Rattle.diary_laws.specs.Merges.{finds_none, is_event}

-- a peek that found no claim changes no state
pub record IsQuiet (m : Machine) : Type 0 where
  pub stays : (s : m.State) (input : Input) → finds_none input ≡ true → (m.step s input).next ≡ s
  pub sends : (s : m.State) (input : Input) → finds_none input ≡ true → (m.step s input).sends ≡ []

-- a step of this node in this state
pub record IsStepOf (m : Machine) (me : ℕ) (s : m.State) (x : Step m.State) : Type 0 where
  pub own : x.node ≡ me
  pub row : x.row ≡ m.step s x.input
  pub received : IsReceived me x.time x.input
  pub allowed : m.Allows s x.input

-- the steps of this node from this state on, and the state behind them
abbrev pub GoesOn : (m : Machine) → ℕ → m.State → List (Step m.State) → Type 0
GoesOn m me s [] = Unit {0}
GoesOn m me s (x ∷ xs) = IsStepOf m me s x × IsLast x.input xs × GoesOn m me x.row.next xs

abbrev pub behind : {S : Type 0} → S → List (Step S) → S
behind s [] = s
behind s (x ∷ xs) = behind x.row.next xs

module _ (m : Machine) (quiet : IsQuiet m) where
  last_step : (me : ℕ) (s : m.State) (input : Input) (entries : List DiaryEntry) → IsLast input entries → IsLast input (filter is_event (steps_from m me s entries))
  last_step me s Crash entries h = ap (λ (es : List DiaryEntry). filter is_event (steps_from m me s es)) h
  last_step me s _ entries h = tt

  pub goes_on : (me last : ℕ) (s : m.State) (entries : List DiaryEntry) → Follows m me last s entries → GoesOn m me s (filter is_event (steps_from m me s entries))
  goes_on me last s [] h = tt
  goes_on me last s (entry ∷ entries) h =
      by (finds_none entry.input) refl (goes_on me entry.time (m.step s entry.input).next entries h.2)
    where
      by : (b : Bool) → finds_none entry.input ≡ b → GoesOn m me (m.step s entry.input).next (filter is_event (steps_from m me (m.step s entry.input).next entries))
          → GoesOn m me s (cond (not (finds_none entry.input)) (step_of m me s entry ∷ filter is_event (steps_from m me (m.step s entry.input).next entries)) (filter is_event (steps_from m me (m.step s entry.input).next entries)))
      by true none rest =
          subst (λ (b : Bool). GoesOn m me s (cond (not b) (step_of m me s entry ∷ filter is_event (steps_from m me (m.step s entry.input).next entries)) (filter is_event (steps_from m me (m.step s entry.input).next entries)))) (sym none)
          (subst (λ (t : m.State). GoesOn m me t (filter is_event (steps_from m me (m.step s entry.input).next entries))) (quiet.stays s entry.input none) rest)
      by false some rest =
          subst (λ (b : Bool). GoesOn m me s (cond (not b) (step_of m me s entry ∷ filter is_event (steps_from m me (m.step s entry.input).next entries)) (filter is_event (steps_from m me (m.step s entry.input).next entries)))) (sym some)
          (record { own = refl; row = refl; received = h.0.received; allowed = h.0.allowed }, last_step me (m.step s entry.input).next entry.input entries h.1, rest)

  pub behind_all : (me : ℕ) (s : m.State) (entries : List DiaryEntry) → behind s (filter is_event (steps_from m me s entries)) ≡ state_behind m s entries
  behind_all me s [] = refl
  behind_all me s (entry ∷ entries) =
      by (finds_none entry.input) refl (behind_all me (m.step s entry.input).next entries)
    where
      by : (b : Bool) → finds_none entry.input ≡ b → behind (m.step s entry.input).next (filter is_event (steps_from m me (m.step s entry.input).next entries)) ≡ state_behind m (m.step s entry.input).next entries
          → behind s (cond (not (finds_none entry.input)) (step_of m me s entry ∷ filter is_event (steps_from m me (m.step s entry.input).next entries)) (filter is_event (steps_from m me (m.step s entry.input).next entries))) ≡ state_behind m (m.step s entry.input).next entries
      by true none rest =
          ap (λ (b : Bool). behind s (cond (not b) (step_of m me s entry ∷ filter is_event (steps_from m me (m.step s entry.input).next entries)) (filter is_event (steps_from m me (m.step s entry.input).next entries)))) none
          ∙ ap (λ (t : m.State). behind t (filter is_event (steps_from m me (m.step s entry.input).next entries))) (sym (quiet.stays s entry.input none))
          ∙ rest
      by false some rest =
          ap (λ (b : Bool). behind s (cond (not b) (step_of m me s entry ∷ filter is_event (steps_from m me (m.step s entry.input).next entries)) (filter is_event (steps_from m me (m.step s entry.input).next entries)))) some
          ∙ rest
