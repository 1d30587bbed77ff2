use Rattle.std.specs.Prelude.{ℕ, List, [], ◌∷◌, Option}
use Rattle.std.specs.List.{flat_map}
use Rattle.std.specs.Option.{option_map, option_map_or}
use Rattle.rec_id.specs.Identity.{Identity}
use Rattle.lazy_msgs.specs.declared.diary.Diary.{Diary}
use Rattle.lazy_msgs.specs.declared.diary.DiaryEntry.{DiaryEntry}
use Rattle.lazy_msgs.specs.declared.input.Input.{Input}
use Rattle.lazy_msgs.specs.Step.{Row}

-- What a diary is read by: a machine of nodes, and the steps that its rule makes of the entries.

-- the states of nodes, the first state of each number that a node has, and the rule; which inputs are given to
-- a node in this state, and aren't refused; and the identities that it has in its order at [from, to)
pub record Machine : Type 1 where
  pub State : Type 0
  pub first : ℕ → Option State
  pub step : State → Input → Row State
  pub Allows : State → Input → Type 0
  pub ids : State → ℕ → ℕ → List Identity

-- a step: when, of which node, what it took, and what the rule made of it
pub record Step (S : Type 0) : Type 0 where
  pub time : ℕ
  pub node : ℕ
  pub input : Input
  pub row : Row S

abbrev pub step_of : (m : Machine) → ℕ → m.State → DiaryEntry → Step m.State
step_of m node s entry = record { time = entry.time; node = node; input = entry.input; row = m.step s entry.input }

-- the steps of these entries, of a node in this state, and its state behind them
abbrev pub steps_from : (m : Machine) → ℕ → m.State → List DiaryEntry → List (Step m.State)
steps_from m node s [] = []
steps_from m node s (entry ∷ entries) = step_of m node s entry ∷ steps_from m node (m.step s entry.input).next entries

abbrev pub state_behind : (m : Machine) → m.State → List DiaryEntry → m.State
state_behind m s [] = s
state_behind m s (entry ∷ entries) = state_behind m (m.step s entry.input).next entries

-- the steps of a diary, those of all, and the state that a diary leads to
abbrev pub steps_in : (m : Machine) → Diary → List (Step m.State)
steps_in m diary = option_map_or (λ s. steps_from m diary.node s diary.entries) (m.first diary.node) []

abbrev pub all_steps : (m : Machine) → List Diary → List (Step m.State)
all_steps m diaries = flat_map (steps_in m) diaries

abbrev pub last_state : (m : Machine) → Diary → Option m.State
last_state m diary = option_map (λ s. state_behind m s diary.entries) (m.first diary.node)
