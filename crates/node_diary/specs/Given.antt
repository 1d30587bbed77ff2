use Rattle.std.specs.Prelude.{◌≡◌, ℕ, List, [], ◌∷◌, true, Option, Some, None}
use Rattle.list_facts.specs.Lists.{Each}
use Rattle.view_config.specs.declared.edition.Edition.TheVariants.{Two}
use Rattle.view_config.specs.declared.nodes.Node.{Node}
use Rattle.view_config.specs.declared.nodes.Node.TheVariants.{Client, Controller, Seq, Shard}
use Rattle.view_config.specs.Shape.{Dimensions, node_of}
use Rattle.lazy_msgs.specs.declared.diary.Diary.{Diary}
use Rattle.lazy_msgs.specs.declared.diary.DiaryEntry.{DiaryEntry}
use Rattle.lazy_msgs.specs.declared.input.Input.{Input}
use Rattle.lazy_msgs.specs.declared.input.Input.TheVariants.{Take, Tick, Grace, Trim, Suspect}
use Rattle.lazy_rules.specs.Door.{is_node}
use Rattle.world_facts.specs.Turns.{IsMail}
use Rattle.diary_laws.specs.Formed.{IsLast}
use Rattle.diary_laws.specs.Nodes.{ReplicaAllows}
use Rattle.node_diary.specs.Feeding.{Diarist}

-- What a run gives to a node. Who feeds a node sees to this; a feed doesn't look at it.

-- the inputs of each role: a client trims in edition Two alone, and the controller suspects nodes of the shape
abbrev pub IsForRole : Dimensions → Option Node → Input → Type 0
IsForRole shape (Some (Client c)) (Suspect node) = ⊥
IsForRole shape (Some (Client c)) (Trim floor) = shape.edition ≡ Two
IsForRole shape (Some (Client c)) _ = Unit {0}
IsForRole shape (Some Controller) (Take envelope) = Unit {0}
IsForRole shape (Some Controller) Tick = Unit {0}
IsForRole shape (Some Controller) Grace = Unit {0}
IsForRole shape (Some Controller) (Suspect node) = is_node shape node ≡ true
IsForRole shape (Some Controller) _ = ⊥
IsForRole shape (Some (Seq i)) input = ReplicaAllows input
IsForRole shape (Some (Shard i j)) input = ReplicaAllows input
IsForRole shape None input = ⊥

-- what is received is addressed to the node, and is no Claim
abbrev pub IsMailFor : ℕ → Input → Type 0
IsMailFor me (Take envelope) = (envelope.to ≡ me) × IsMail envelope.msg
IsMailFor me _ = Unit {0}

pub record IsGivenTo (shape : Dimensions) (me : ℕ) (entry : DiaryEntry) : Type 0 where
  pub role : IsForRole shape (node_of shape me) entry.input
  pub mail : IsMailFor me entry.input

-- behind a crash there is nothing
abbrev pub CrashIsLast : List DiaryEntry → Type 0
CrashIsLast [] = Unit {0}
CrashIsLast (entry ∷ entries) = IsLast entry.input entries × CrashIsLast entries

-- each entry is of an input that a run gives to the node, and a crash is the last one
pub record IsGivenAll (shape : Dimensions) (d : Diarist) : Type 0 where
  pub each : Each (IsGivenTo shape d.node) d.entries
  pub last : CrashIsLast d.entries

abbrev pub diary_of : Diarist → Diary
diary_of d = record { node = d.node; entries = d.entries }
