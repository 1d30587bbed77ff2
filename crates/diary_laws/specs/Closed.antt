use Rattle.std.specs.Prelude.{◌≡◌, ◌<◌, ◌≤◌, ◌+◌, ℕ, List, length}
use Rattle.std.specs.List.{flat_map}
use Rattle.list_facts.specs.Lists.{In, Each}
use Rattle.rec_id.specs.Identity.{Identity}
use Rattle.rec_id.specs.declared.limits.TheConstants.{READ_LIMIT}
use Rattle.view_config.specs.declared.nodes.TheConstants.{FIRST_SHARD}
use Rattle.lazy_msgs.specs.declared.diary.Diary.{Diary}
use Rattle.lazy_msgs.specs.declared.input.Input.{Input}
use Rattle.lazy_msgs.specs.declared.input.Input.TheVariants.{Take, Peek}
use Rattle.lazy_msgs.specs.declared.msg.Envelope.{Envelope}
use Rattle.lazy_msgs.specs.declared.msg.Msg.TheVariants.{Claim}
use Rattle.lazy_rules.specs.WorldRules.{enveloped}
use Rattle.diary_laws.specs.Formed.{AreDiaries}
use Rattle.diary_laws.specs.Machines.{Machine, Step, all_steps}

-- Closed lists of diaries: what one node received or saw, another one's diary has sent or claimed.

-- the envelopes of a diary: what each entry sent, at its time; and those of all diaries
abbrev pub sent_in : Diary → List Envelope
sent_in diary = flat_map (λ entry. enveloped diary.node entry.time entry.sends) diary.entries

abbrev pub all_sent : List Diary → List Envelope
all_sent diaries = flat_map sent_in diaries

-- the replica that is named made a step at the time that is named, before now, which claims this stable number, and
-- after which its order has these identities from that place on
pub record IsClaimed (m : Machine) (steps : List (Step m.State)) (now stable claimed_at replica from : ℕ) (ids : List Identity) : Type 0 where
  pub step : Step m.State
  pub there : In step steps
  pub at : step.time ≡ claimed_at
  pub before : claimed_at < now
  pub by : step.node ≡ FIRST_SHARD + replica
  pub addressee : ℕ
  pub claims : In (addressee, Claim stable) step.row.sends
  pub has : m.ids step.row.next from (from + length ids) ≡ ids

-- a peek of few identities that end within the stable number, which some replica claimed, unless it is 0
pub record IsPeek (m : Machine) (steps : List (Step m.State)) (now stable claimed_at replica from : ℕ) (ids : List Identity) : Type 0 where
  pub few : length ids ≤ READ_LIMIT
  pub within : from + length ids ≤ stable
  pub claimed : 1 ≤ stable → IsClaimed m steps now stable claimed_at replica from ids

-- where an input of this time comes from, among all that was sent and all steps
abbrev pub IsJustified : (m : Machine) → List Envelope → List (Step m.State) → ℕ → Input → Type 0
IsJustified m sent steps now (Take envelope) = In envelope sent
IsJustified m sent steps now (Peek stable time replica from ids) = IsPeek m steps now stable time replica from ids
IsJustified m sent steps now _ = Unit {0}

abbrev pub IsClosedIn : (m : Machine) → List Envelope → List (Step m.State) → Diary → Type 0
IsClosedIn m sent steps diary = Each (λ entry. IsJustified m sent steps entry.time entry.input) diary.entries

abbrev pub AreClosed : (m : Machine) → List Diary → Type 0
AreClosed m diaries = Each (IsClosedIn m (all_sent diaries) (all_steps m diaries)) diaries

-- well-formed diaries, one a node, that are closed
pub record AreClosedDiaries (m : Machine) (diaries : List Diary) : Type 0 where
  pub are : AreDiaries m diaries
  pub closed : AreClosed m diaries
