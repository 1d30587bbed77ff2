use Rattle.std.specs.Prelude.{◌≡◌, ◌≢◌, ◌⊎◌, ◌<◌, ◌≤◌, ◌+◌, ℕ, List, [], ◌∷◌, length, Bool, false, not, ◌==◌, Some, IsPermutation}
use Rattle.std.specs.List.{filter, flat_map}
use Rattle.list_facts.specs.Lists.{In, Each}
use Rattle.rec_id.specs.Identity.{Identity}
use Rattle.rec_id.specs.declared.event.Event.{Event}
use Rattle.view_config.specs.declared.nodes.TheConstants.{FIRST_SHARD}
use Rattle.lazy_msgs.specs.declared.diary.Diary.{Diary}
use Rattle.lazy_msgs.specs.declared.input.Input.{Input}
use Rattle.lazy_msgs.specs.declared.input.Input.TheVariants.{Take, Tick, Grace, Crash, Post, Ask, Trim, Suspect, Peek}
use Rattle.lazy_msgs.specs.declared.input.WorldEvent.{WorldEvent}
use Rattle.lazy_msgs.specs.declared.input.WorldEvent.TheVariants.{Post as PostEvent, Ask as AskEvent, Trim as TrimEvent, Peek as PeekEvent, Deliver, Tick as TickEvent, Grace as GraceEvent, Crash as CrashEvent, Suspect as SuspectEvent}
use Rattle.lazy_msgs.specs.declared.msg.Envelope.{Envelope}
use Rattle.lazy_msgs.specs.declared.msg.Msg.TheVariants.{Claim}
use Rattle.lazy_rules.specs.WorldRules.{enveloped, envelope_at}
use Rattle.diary_laws.specs.Machines.{Machine, Step, all_steps}

-- The merge: all steps of all diaries in one order, as the events of a world.

-- a peek that found no claim on the board
abbrev pub finds_none : Input → Bool
finds_none (Peek stable time replica from ids) = stable == 0
finds_none _ = false

-- the steps that become events
abbrev pub is_event : {S : Type 0} → Step S → Bool
is_event step = not (finds_none step.input)

abbrev pub event_steps : (m : Machine) → List Diary → List (Step m.State)
event_steps m diaries = filter is_event (all_steps m diaries)

-- the order by time, and then by the node's number
abbrev pub IsBefore : {S : Type 0} → Step S → Step S → Type 0
IsBefore x y = (x.time < y.time) ⊎ ((x.time ≡ y.time) × (x.node ≤ y.node))

-- each member stands so to all behind it
abbrev pub Ranked : {A : Type 0} → (A → A → Type 0) → List A → Type 0
Ranked R [] = Unit {0}
Ranked R (x ∷ xs) = Each (R x) xs × Ranked R xs

-- the steps that become events, put in order
pub record IsMerged (m : Machine) (diaries : List Diary) (merged : List (Step m.State)) : Type 0 where
  pub all : IsPermutation (event_steps m diaries) merged
  pub ordered : Ranked IsBefore merged

-- what these steps sent, at their times, and what they told
abbrev pub sent_by : {S : Type 0} → List (Step S) → List Envelope
sent_by steps = flat_map (λ step. enveloped step.node step.time step.row.sends) steps

abbrev pub told_by : {S : Type 0} → List (Step S) → List Event
told_by steps = flat_map (λ step. step.row.events) steps

-- a number of an envelope among those sent, counted from 1, and the first of its numbers
abbrev pub IsNumber : List Envelope → Envelope → ℕ → Type 0
IsNumber sent envelope k = envelope_at sent k ≡ Some envelope

pub record IsFirstNumber (sent : List Envelope) (envelope : Envelope) (k : ℕ) : Type 0 where
  pub is : IsNumber sent envelope k
  pub first : (j : ℕ) → j < k → envelope_at sent j ≢ Some envelope

-- a receipt is the delivery of its envelope, by a number of it
pub record IsDelivery (Number : Envelope → ℕ → Type 0) (envelope : Envelope) (event : WorldEvent) : Type 0 where
  pub number : ℕ
  pub numbered : Number envelope number
  pub is : event ≡ Deliver number

-- a peek is the peek of the Claim that it names, by a number of it
pub record IsPeekEvent (Number : Envelope → ℕ → Type 0) (client stable claimed_at replica from : ℕ) (ids : List Identity) (event : WorldEvent) : Type 0 where
  pub claim : Envelope
  pub by : claim.from ≡ FIRST_SHARD + replica
  pub at : claim.time ≡ claimed_at
  pub says : claim.msg ≡ Claim stable
  pub number : ℕ
  pub numbered : Number claim number
  pub is : event ≡ PeekEvent client number from (from + length ids)

-- the event that an input of this node becomes
abbrev pub IsEventOf : (Envelope → ℕ → Type 0) → ℕ → Input → WorldEvent → Type 0
IsEventOf Number node (Take envelope) event = IsDelivery Number envelope event
IsEventOf Number node (Peek stable time replica from ids) event = IsPeekEvent Number node stable time replica from ids event
IsEventOf Number node (Post bytes) event = event ≡ PostEvent node bytes
IsEventOf Number node (Ask ask) event = event ≡ AskEvent node ask
IsEventOf Number node (Trim floor) event = event ≡ TrimEvent node floor
IsEventOf Number node (Suspect other) event = event ≡ SuspectEvent other
IsEventOf Number node Tick event = event ≡ TickEvent node
IsEventOf Number node Grace event = event ≡ GraceEvent node
IsEventOf Number node Crash event = event ≡ CrashEvent node

-- the events that these steps become, one each
abbrev pub AreEventsOf : {S : Type 0} → (Envelope → ℕ → Type 0) → List (Step S) → List WorldEvent → Type 0
AreEventsOf Number [] [] = Unit {0}
AreEventsOf Number [] (event ∷ events) = ⊥
AreEventsOf Number (step ∷ steps) [] = ⊥
AreEventsOf Number (step ∷ steps) (event ∷ events) = IsEventOf Number step.node step.input event × AreEventsOf Number steps events

-- the merge of diaries: each message goes by the first of its numbers
pub record IsMerge (m : Machine) (diaries : List Diary) (events : List WorldEvent) : Type 0 where
  pub merged : List (Step m.State)
  pub in_order : IsMerged m diaries merged
  pub become : AreEventsOf (IsFirstNumber (sent_by merged)) merged events

-- an envelope of this node and time that claims this much is among these
pub record IsClaimFound (sent : List Envelope) (stable claimed_at replica : ℕ) : Type 0 where
  pub claim : Envelope
  pub there : In claim sent
  pub by : claim.from ≡ FIRST_SHARD + replica
  pub at : claim.time ≡ claimed_at
  pub says : claim.msg ≡ Claim stable

-- the message of which an input is made is among these
abbrev pub IsFound : List Envelope → Input → Type 0
IsFound sent (Take envelope) = In envelope sent
IsFound sent (Peek stable time replica from ids) = IsClaimFound sent stable time replica
IsFound sent _ = Unit {0}

-- steps that become events, by any numbers of their messages
pub record CanBecome {S : Type 0} (steps : List (Step S)) : Type 0 where
  pub events : List WorldEvent
  pub are : AreEventsOf (IsNumber (sent_by steps)) steps events
