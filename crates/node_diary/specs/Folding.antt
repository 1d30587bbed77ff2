use Rattle.std.specs.Prelude.{◌≡◌, ◌==◌, ◌-◌, ◌*◌, ◌+◌, ◌/◌, ◌%◌, ℕ, List, [], ◌∷◌, ◌++◌, length, map, find, Bool, true, false, if◌then◌else◌, Option, Some, None, slice_get, IsPermutation, IsSortedByKey}
use Rattle.std.specs.Ordering.{nat_cmp}
use Rattle.std.specs.List.{flat_map, range_with_len}
use Rattle.std.specs.Option.{option_map_or}
use Rattle.rec_id.specs.declared.event.Event.{Event}
use Rattle.view_config.specs.Nodes.{seq_id, shard_id}
use Rattle.view_config.specs.Shape.{Dimensions}
use Rattle.view_config.specs.declared.nodes.TheConstants.{CONTROLLER}
use Rattle.lazy_msgs.specs.declared.diary.Diary.{Diary}
use Rattle.lazy_msgs.specs.declared.diary.DiaryEntry.{DiaryEntry}
use Rattle.lazy_msgs.specs.declared.input.Input.TheVariants.{Crash}
use Rattle.diary_laws.specs.Merges.{finds_none}
use Rattle.lazy_core.specs.declared.node_state.NodeState.{NodeState}
use Rattle.lazy_core.specs.NodeStep.{node_step}
use Rattle.node_diary.specs.declared.fold.Telling.{Telling}
use Rattle.diary_merge.specs.Acts.{word_at}
use Rattle.node_diary.specs.States.{first_at}

-- Each diary folded by itself.

-- where entries lead from a state
abbrev pub state_after : NodeState → List DiaryEntry → NodeState
state_after s [] = s
state_after s (entry ∷ entries) = state_after (node_step s entry.input).next entries

-- what the steps told that become events, each under its key
abbrev pub telling_of : ℕ → NodeState → DiaryEntry → Telling
telling_of node s entry = record { key = word_at entry.time node; events = (node_step s entry.input).events }

abbrev pub telling_here : ℕ → NodeState → DiaryEntry → List Telling
telling_here node s entry = if finds_none entry.input then [] else telling_of node s entry ∷ []

abbrev pub tellings_after : ℕ → NodeState → List DiaryEntry → List Telling
tellings_after node s [] = []
tellings_after node s (entry ∷ entries) = telling_here node s entry ++ tellings_after node (node_step s entry.input).next entries

-- the same of the diary of a node, of an empty one where it has none
abbrev pub entries_of : List Diary → ℕ → List DiaryEntry
entries_of diaries node = option_map_or (λ diary. diary.entries) (find (λ diary. diary.node == node) diaries) []

abbrev pub found_state : Dimensions → List Diary → ℕ → NodeState
found_state shape diaries node = state_after (first_at shape node) (entries_of diaries node)

abbrev pub found_tellings : Dimensions → List Diary → ℕ → List Telling
found_tellings shape diaries node = tellings_after node (first_at shape node) (entries_of diaries node)

-- the nodes of a shape in the order in which their states stand
abbrev pub shard_number : Dimensions → ℕ → ℕ
shard_number shape k = shard_id (k / shape.copies) (k % shape.copies)

abbrev pub replicas_in_order : Dimensions → List ℕ
replicas_in_order shape =
    map seq_id (range_with_len 0 (shape.seq + shape.spares)) ++ map (shard_number shape) (range_with_len 0 (shape.shards * shape.copies))

abbrev pub nodes_in_order : Dimensions → List ℕ
nodes_in_order shape = range_with_len 0 shape.clients ++ CONTROLLER ∷ replicas_in_order shape

-- the nodes whose diary ends in a crash
abbrev pub is_crash : Option DiaryEntry → Bool
is_crash None = false
is_crash (Some entry) = elim entry.input [ Crash ↦ true | _ ↦ false ]

abbrev pub crash_of : Diary → List ℕ
crash_of diary = if is_crash (slice_get diary.entries (length diary.entries - 1)) then diary.node ∷ [] else []

abbrev pub crashed_in : List Diary → List ℕ
crashed_in diaries = flat_map crash_of diaries

-- what was told, in the order of the keys
pub record IsHistoryOf (tellings : List Telling) (history : List Event) : Type 0 where
  pub order : List Telling
  pub same : IsPermutation tellings order
  pub sorted : IsSortedByKey (λ (telling : Telling). telling.key) nat_cmp order
  pub is : history ≡ flat_map (λ telling. telling.events) order
