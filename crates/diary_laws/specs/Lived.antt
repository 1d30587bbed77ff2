use Rattle.std.specs.Prelude.{◌≡◌, ◌↔◌, ◌++◌, ℕ, List, [], ◌∷◌, None}
use Rattle.list_facts.specs.Lists.{In, Each}
use Rattle.view_config.specs.Shape.{Dimensions}
use Rattle.lazy_msgs.specs.declared.diary.Diary.{Diary}
use Rattle.lazy_msgs.specs.declared.diary.DiaryEntry.{DiaryEntry}
use Rattle.lazy_msgs.specs.declared.input.Input.TheVariants.{Crash}
use Rattle.lazy_msgs.specs.declared.input.WorldEvent.{WorldEvent}
use Rattle.lazy_rules.specs.WorldRules.{happened, refusal, run}
use Rattle.lazy_rules.specs.WorldState.{WorldState, first_world}
use Rattle.diary_laws.specs.Machines.{Step, last_state}
use Rattle.diary_laws.specs.Merges.{told_by}
use Rattle.diary_laws.specs.Nodes.{NodeState, nodes_of_shape, state_at}

-- That the run of some events is what the nodes lived through.

-- none of these is refused, one after the other
abbrev pub AreFree : WorldState → List WorldEvent → Type 0
AreFree w [] = Unit {0}
AreFree w (event ∷ events) = (refusal w event ≡ None) × AreFree (happened w event) events

-- the last input is a crash
pub record EndsInCrash (entries : List DiaryEntry) : Type 0 where
  pub before : List DiaryEntry
  pub last : DiaryEntry
  pub is : entries ≡ before ++ last ∷ []
  pub crash : last.input ≡ Crash

-- some diary of this node ends in a crash
pub record IsCrashedIn (diaries : List Diary) (node : ℕ) : Type 0 where
  pub diary : Diary
  pub there : In diary diaries
  pub own : diary.node ≡ node
  pub ends : EndsInCrash diary.entries

-- no event is refused; behind them each node has the state that its diary leads to, the crashed nodes are those
-- whose diary ends in a crash, and the history is what the merged steps told
pub record IsLived (shape : Dimensions) (diaries : List Diary) (merged : List (Step NodeState)) (events : List WorldEvent) : Type 0 where
  pub free : AreFree (first_world shape) events
  pub states : Each (λ diary. state_at (run events (first_world shape)) diary.node ≡ last_state (nodes_of_shape shape) diary) diaries
  pub crashed : (node : ℕ) → In node (run events (first_world shape)).crashed ↔ IsCrashedIn diaries node
  pub history : (run events (first_world shape)).history ≡ told_by merged
