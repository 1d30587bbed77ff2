use Rattle.std.specs.Prelude.{◌≡◌, ◌≢◌, ◌<◌, ◌≤◌, ℕ, List, [], ◌∷◌, ◌++◌, Option, Some, None, Result, Err, OnOk, OnErr, IfOk, IfErr}
use Rattle.rec_id.specs.declared.event.Event.{Event}
use Rattle.lazy_msgs.specs.declared.diary.DiaryEntry.{DiaryEntry}
use Rattle.lazy_msgs.specs.declared.input.Input.{Input}
use Rattle.lazy_msgs.specs.Weight.{sends_weight}
use Rattle.lazy_core.specs.declared.node_state.NodeState.{NodeState}
use Rattle.lazy_core.specs.NodeStep.{node_step}
use Rattle.node_diary.specs.declared.refused.FeedRefused.{FeedRefused}
use Rattle.node_diary.specs.declared.refused.FeedRefused.TheVariants.{DiaryFull, Memory}
use Rattle.node_diary.specs.Feeding.{IsIdle, entry_of}
use Rattle.node_diary.specs.Refusals.{own_refusal}
use Rattle.node_diary.specs.States.{law_state}

-- A node's step, and the entry of it.

-- a state with what was written and told
pub record Page : Type 0 where
  pub state : NodeState
  pub entries : List DiaryEntry
  pub told : List Event

abbrev pub page_of : NodeState → List DiaryEntry → List Event → Page
page_of state entries told = record { state = state; entries = entries; told = told }

-- the page with one step more
abbrev pub turned_page : ℕ → Input → Page → Page
turned_page time input p = record {
  state = (node_step p.state input).next;
  entries = p.entries ++ entry_of time p.state input ∷ [];
  told = p.told ++ (node_step p.state input).events;
}

-- an idle node wrote nothing; else there is one entry more, whose sends weigh this
abbrev pub IsWritten : ℕ → Input → Page → Page → Option ℕ → Type 0
IsWritten time input before after None = IsIdle before.state input × (after ≡ before)
IsWritten time input before after (Some weight) =
    (¬ IsIdle before.state input) × (after ≡ turned_page time input before) × (weight ≡ sends_weight (node_step before.state input).sends)

-- a step was written within so much weight, or refused, and then all is as it was
pub record Writes (time left : ℕ) (input : Input) (before after : Page) (outcome : Result (Option ℕ) FeedRefused) : Type 0 where
  pub written : IfOk outcome (IsWritten time input before after)
  pub allowed : OnOk outcome (own_refusal (law_state before.state) input ≡ None)
  pub light : OnOk outcome (sends_weight (node_step before.state input).sends ≤ left)
  pub named : IfErr outcome (λ e. e ≢ DiaryFull → e ≢ Memory → own_refusal (law_state before.state) input ≡ Some e)
  pub unspent : outcome ≡ Err DiaryFull → own_refusal (law_state before.state) input ≡ None
  pub heavy : outcome ≡ Err DiaryFull → left < sends_weight (node_step before.state input).sends
  pub unchanged : OnErr outcome (after ≡ before)
