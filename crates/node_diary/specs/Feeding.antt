use Rattle.std.specs.Prelude.{◌≡◌, ◌⊎◌, ℕ, ◌+◌, List, [], ◌∷◌, ◌++◌, length, max, nat_le, nat_lt, ◌||◌, Bool, true, false, if◌then◌else◌, Option, Some, None}
use Rattle.std.specs.Option.{option_map_or}
use Rattle.rec_id.specs.declared.event.Event.{Event}
use Rattle.lazy_msgs.specs.declared.diary.DiaryEntry.{DiaryEntry}
use Rattle.lazy_msgs.specs.declared.input.Input.{Input}
use Rattle.lazy_msgs.specs.declared.input.Input.TheVariants.{Tick, Grace}
use Rattle.lazy_msgs.specs.declared.limits.TheConstants.{TIME_LIMIT}
use Rattle.lazy_msgs.specs.Weight.{sends_weight}
use Rattle.world_facts.specs.Turns.{time_in}
use Rattle.lazy_core.specs.declared.node_state.NodeState.{NodeState}
use Rattle.lazy_core.specs.NodeStep.{node_step}
use Rattle.node_diary.specs.declared.refused.FeedRefused.{FeedRefused}
use Rattle.node_diary.specs.declared.refused.FeedRefused.TheVariants.{ClockSpent, DiaryFull}
use Rattle.node_diary.specs.Refusals.{own_refusal}
use Rattle.node_diary.specs.States.{law_state}
use Rattle.diary_merge.specs.Weights.{diary_weight, input_weight}
use Rattle.diary_merge.specs.declared.limits.TheConstants.{DIARY_WEIGHT_LIMIT, ENTRIES_LIMIT}

-- What a node is fed, and what becomes of it and of its diary.

-- a node with its diary: its number, its state, what it did, what was told, and its time
pub record Diarist : Type 0 where
  pub node : ℕ
  pub state : NodeState
  pub entries : List DiaryEntry
  pub told : List Event
  pub time : ℕ

-- the time of its next step: later than its own, and than that of what it receives
abbrev pub next_time : Diarist → Input → ℕ
next_time d input = max d.time (time_in input) + 1

-- the entry that its next step leaves, and the node with that
abbrev pub entry_of : ℕ → NodeState → Input → DiaryEntry
entry_of time state input = record { time = time; input = input; sends = (node_step state input).sends }

abbrev pub grown : Diarist → Input → Diarist
grown d input = record {
  node = d.node;
  state = (node_step d.state input).next;
  entries = d.entries ++ entry_of (next_time d input) d.state input ∷ [];
  told = d.told ++ (node_step d.state input).events;
  time = next_time d input;
}

-- a Tick or a Grace
abbrev pub is_moment : Input → Bool
is_moment Tick = true
is_moment Grace = true
is_moment _ = false

-- a Tick or a Grace by which the node changes nothing and sends nothing
pub record IsIdle (state : NodeState) (input : Input) : Type 0 where
  pub moment : is_moment input ≡ true
  pub same : (node_step state input).next ≡ state
  pub silent : (node_step state input).sends ≡ []

-- an idle moment leaves no trace, and any other input leaves an entry
abbrev pub IsFedBy : Input → Diarist → Diarist → Type 0
IsFedBy input d after = (IsIdle d.state input × (after ≡ d)) ⊎ ((¬ IsIdle d.state input) × (after ≡ grown d input))

-- the diary has its full number of entries, or the input alone would be too heavy for it
abbrev pub is_full : Diarist → Input → Bool
is_full d input = nat_le ENTRIES_LIMIT (length d.entries) || nat_lt DIARY_WEIGHT_LIMIT (diary_weight d.entries + input_weight input)

-- the input and what is sent would be too heavy for it together
abbrev pub is_overfull : Diarist → Input → Bool
is_overfull d input =
    nat_lt DIARY_WEIGHT_LIMIT (diary_weight d.entries + input_weight input + sends_weight (node_step d.state input).sends)

-- why a feed is refused, if it is, want of memory aside
abbrev pub feed_refusal : Diarist → Input → Option FeedRefused
feed_refusal d input =
    if nat_le TIME_LIMIT (next_time d input) then Some ClockSpent
    else (if is_full d input then Some DiaryFull
    else option_map_or Some (own_refusal (law_state d.state) input)
    (if is_overfull d input then Some DiaryFull else None))

-- a node that hears of this time
abbrev pub heard : Diarist → ℕ → Diarist
heard d time = record d { time = max d.time time }
