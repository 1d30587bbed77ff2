use Rattle.std.specs.Prelude.{◌≡◌, ◌<◌, ℕ, List, [], ◌∷◌, map, Some}
use Rattle.list_facts.specs.Lists.{In, Each, Distinct}
use Rattle.lazy_msgs.specs.declared.diary.Diary.{Diary}
use Rattle.lazy_msgs.specs.declared.diary.DiaryEntry.{DiaryEntry}
use Rattle.lazy_msgs.specs.declared.input.Input.{Input}
use Rattle.lazy_msgs.specs.declared.input.Input.TheVariants.{Take, Crash}
use Rattle.lazy_msgs.specs.declared.limits.TheConstants.{TIME_LIMIT}
use Rattle.lazy_msgs.specs.declared.msg.Envelope.{Envelope}
use Rattle.world_facts.specs.Turns.{IsMail}
use Rattle.diary_laws.specs.Machines.{Machine}

-- Well-formed diaries.

-- a received envelope is addressed to this node, is older than its entry, and is no Claim
pub record IsReceipt (me now : ℕ) (envelope : Envelope) : Type 0 where
  pub own : envelope.to ≡ me
  pub older : envelope.time < now
  pub mail : IsMail envelope.msg

abbrev pub IsReceived : ℕ → ℕ → Input → Type 0
IsReceived me now (Take envelope) = IsReceipt me now envelope
IsReceived me now _ = Unit {0}

-- an entry of a node in this state, behind one of this time: its time is greater and below the limit, its input is
-- one that is given to this node and isn't refused, and its sends are those of the rule
pub record IsEntry (m : Machine) (me last : ℕ) (s : m.State) (entry : DiaryEntry) : Type 0 where
  pub later : last < entry.time
  pub early : entry.time < TIME_LIMIT
  pub received : IsReceived me entry.time entry.input
  pub allowed : m.Allows s entry.input
  pub sends : entry.sends ≡ (m.step s entry.input).sends

-- behind a crash there is nothing
abbrev pub IsLast : {A : Type 0} → Input → List A → Type 0
IsLast Crash rest = rest ≡ []
IsLast _ rest = Unit {0}

-- entries of a node in this state, behind one of this time
abbrev pub Follows : (m : Machine) → ℕ → ℕ → m.State → List DiaryEntry → Type 0
Follows m me last s [] = Unit {0}
Follows m me last s (entry ∷ entries) =
    IsEntry m me last s entry × IsLast entry.input entries × Follows m me entry.time (m.step s entry.input).next entries

-- a diary is of a node of the machine, and its entries follow from the node's first state
pub record IsFormed (m : Machine) (diary : Diary) : Type 0 where
  pub start : m.State
  pub first : m.first diary.node ≡ Some start
  pub follows : Follows m diary.node 0 start diary.entries

abbrev pub nodes_of : List Diary → List ℕ
nodes_of diaries = map (λ diary. diary.node) diaries

-- well-formed diaries, one a node
pub record AreDiaries (m : Machine) (diaries : List Diary) : Type 0 where
  pub formed : Each (IsFormed m) diaries
  pub once : Distinct (nodes_of diaries)
  pub all : (node : ℕ) (s : m.State) → m.first node ≡ Some s → In node (nodes_of diaries)
