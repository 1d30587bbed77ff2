-- One entry more.
use Rattle.std.proofs.Common.{◌≡◌, ℕ, List, [], ◌∷◌, ◌++◌, refl, ap, ◌∙◌, append-nil}
use Rattle.view_config.specs.Shape.{Dimensions}
use Rattle.lazy_msgs.specs.declared.diary.DiaryEntry.{DiaryEntry}
use Rattle.lazy_msgs.specs.declared.input.Input.{Input}
use Rattle.lazy_msgs.specs.Step.{Row}
use Rattle.rec_id.specs.declared.event.Event.{Event}
use Rattle.diary_laws.specs.Machines.{Machine, Step, state_behind, step_of, steps_from}
use Rattle.diary_laws.specs.Merges.{told_by}
use Rattle.diary_laws.specs.Nodes.{NodeState as LawState, nodes_of_shape, node_step as law_step}
use Rattle.diary_laws.proofs.runs.Lists.{flat_append}
use Rattle.lazy_core.specs.declared.node_state.NodeState.{NodeState}
use Rattle.lazy_core.specs.declared.node_state.NodeState.TheVariants.{Seq, Shard, Client, Control}
use Rattle.lazy_core.specs.NodeStep.{node_step}
use Rattle.node_diary.specs.Fed.{AreFed, IsFedEntry, last_time}
use Rattle.node_diary.specs.States.{law_state}

-- the rule of a node in code is that of the laws
abbrev pub law_row : Row NodeState → Row LawState
law_row row = record { next = law_state row.next; sends = row.sends; events = row.events }

pub same_rule : (state : NodeState) (input : Input) → law_step (law_state state) input ≡ law_row (node_step state input)
same_rule (Seq s) input = refl
same_rule (Shard s) input = refl
same_rule (Client appends reads) input = refl
same_rule (Control k) input = refl

module _ (m : Machine) where
  pub behind_more : (s : m.State) (entries : List DiaryEntry) (entry : DiaryEntry) → state_behind m s (entries ++ entry ∷ []) ≡ (m.step (state_behind m s entries) entry.input).next
  behind_more s [] entry = refl
  behind_more s (first ∷ entries) entry = behind_more (m.step s first.input).next entries entry

  pub steps_more : (node : ℕ) (s : m.State) (entries : List DiaryEntry) (entry : DiaryEntry) → steps_from m node s (entries ++ entry ∷ []) ≡ steps_from m node s entries ++ step_of m node (state_behind m s entries) entry ∷ []
  steps_more node s [] entry = refl
  steps_more node s (first ∷ entries) entry = ap (λ (l : List (Step m.State)). step_of m node s first ∷ l) (steps_more node (m.step s first.input).next entries entry)

  pub told_more : (node : ℕ) (s : m.State) (entries : List DiaryEntry) (entry : DiaryEntry) → told_by (steps_from m node s (entries ++ entry ∷ [])) ≡ told_by (steps_from m node s entries) ++ (m.step (state_behind m s entries) entry.input).events
  told_more node s entries entry =
      ap told_by (steps_more node s entries entry)
      ∙ flat_append (λ (x : Step m.State). x.row.events) (steps_from m node s entries) (step_of m node (state_behind m s entries) entry ∷ [])
      ∙ ap (λ (l : List Event). told_by (steps_from m node s entries) ++ l) (append-nil (m.step (state_behind m s entries) entry.input).events)

pub last_more : (time : ℕ) (entries : List DiaryEntry) (entry : DiaryEntry) → last_time time (entries ++ entry ∷ []) ≡ entry.time
last_more time [] entry = refl
last_more time (first ∷ entries) entry = last_more first.time entries entry

module _ (shape : Dimensions) where
  pub fed_more : (last : ℕ) (s : LawState) (entries : List DiaryEntry) (entry : DiaryEntry) → AreFed last s entries → IsFedEntry (last_time last entries) (state_behind (nodes_of_shape shape) s entries) entry → AreFed last s (entries ++ entry ∷ [])
  fed_more last s [] entry are new = (new, tt)
  fed_more last s (first ∷ entries) entry are new = (are.0, fed_more first.time (law_step s first.input).next entries entry are.1 new)
