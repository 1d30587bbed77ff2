use Rattle.std.specs.Prelude.{◌≡◌, ◌<◌, ◌≤◌, ℕ, List, [], ◌∷◌, length, true, None}
use Rattle.view_config.specs.Shape.{Dimensions}
use Rattle.lazy_msgs.specs.declared.diary.DiaryEntry.{DiaryEntry}
use Rattle.lazy_msgs.specs.declared.limits.TheConstants.{TIME_LIMIT}
use Rattle.lazy_rules.specs.Door.{is_config}
use Rattle.world_facts.specs.Turns.{time_in}
use Rattle.diary_laws.specs.Machines.{state_behind, steps_from}
use Rattle.diary_laws.specs.Merges.{told_by}
use Rattle.diary_laws.specs.Nodes.{NodeState as LawState, node_step, nodes_of_shape}
use Rattle.lazy_core.specs.declared.node_state.NodeState.{NodeState}
use Rattle.lazy_core.specs.declared.node_state.NodeState.TheVariants.{Seq, Shard, Client, Control}
use Rattle.node_diary.specs.Feeding.{Diarist}
use Rattle.node_diary.specs.Refusals.{own_refusal}
use Rattle.node_diary.specs.States.{Begins, law_state}
use Rattle.diary_merge.specs.Weights.{IsWithinLimits}

-- What feeds leave, whatever a node was fed.

-- an entry of a node in this state, behind one of this time: its time is greater, below the limit, and greater than
-- that of what was received; the node didn't refuse its input; and its sends are those of the rule
pub record IsFedEntry (last : ℕ) (s : LawState) (entry : DiaryEntry) : Type 0 where
  pub later : last < entry.time
  pub early : entry.time < TIME_LIMIT
  pub older : time_in entry.input < entry.time
  pub allowed : own_refusal s entry.input ≡ None
  pub sends : entry.sends ≡ (node_step s entry.input).sends

-- entries of a node in this state, behind one of this time
abbrev pub AreFed : ℕ → LawState → List DiaryEntry → Type 0
AreFed last s [] = Unit {0}
AreFed last s (entry ∷ entries) = IsFedEntry last s entry × AreFed entry.time (node_step s entry.input).next entries

-- the time of the last entry, or this one where there is none
abbrev pub last_time : ℕ → List DiaryEntry → ℕ
last_time time [] = time
last_time time (entry ∷ entries) = last_time entry.time entries

-- what a node has of its shape after so many steps: a client, of both halves, and no more reads than steps; a sequencing
-- replica, with a configuration that has replicas for each shard
pub record IsClientIn (shape : Dimensions) (steps : ℕ) (appends_in reads_in : Dimensions) (reads : ℕ) : Type 0 where
  pub appending : appends_in ≡ shape
  pub reading : reads_in ≡ shape
  pub few : reads ≤ steps

abbrev pub IsSeated : Dimensions → ℕ → NodeState → Type 0
IsSeated shape steps (Client appends reads) = IsClientIn shape steps appends.shape reads.shape reads.count
IsSeated shape steps (Seq s) = (s.shape ≡ shape) × (is_config shape s.config ≡ true)
IsSeated shape steps (Shard s) = Unit {0}
IsSeated shape steps (Control k) = Unit {0}

-- a node of this shape that was fed: from its first state, the rules lead over its diary to its state, tell what was told,
-- and send what the diary says; times rise, up to its own; and the diary is within its limits
pub record IsFedIn (shape : Dimensions) (d : Diarist) : Type 0 where
  pub start : NodeState
  pub begins : Begins shape d.node start
  pub entries : AreFed 0 (law_state start) d.entries
  pub state : state_behind (nodes_of_shape shape) (law_state start) d.entries ≡ law_state d.state
  pub told : told_by (steps_from (nodes_of_shape shape) d.node (law_state start) d.entries) ≡ d.told
  pub past : last_time 0 d.entries ≤ d.time
  pub early : d.time < TIME_LIMIT
  pub within : IsWithinLimits d.entries
  pub seated : IsSeated shape (length d.entries) d.state

-- a node that was fed, of some shape
pub record IsFed (d : Diarist) : Type 0 where
  pub shape : Dimensions
  pub is : IsFedIn shape d
