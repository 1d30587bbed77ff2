use Rattle.std.specs.Prelude.{◌≡◌, ◌<◌, ◌≤◌, ◌^◌, ℕ, ◌+◌, ◌*◌, List, [], ◌∷◌, ◌++◌, length, map, if◌then◌else◌, Option, Some, None, slice_get}
use Rattle.list_facts.specs.Lists.{Each}
use Rattle.lazy_msgs.specs.declared.diary.Diary.{Diary}
use Rattle.lazy_msgs.specs.declared.diary.DiaryEntry.{DiaryEntry}
use Rattle.lazy_msgs.specs.declared.input.Input.{Input}
use Rattle.lazy_msgs.specs.declared.input.Input.TheVariants.{Tick, Peek}
use Rattle.lazy_msgs.specs.declared.limits.TheConstants.{TIME_LIMIT}
use Rattle.lazy_msgs.specs.Weight.{capped}
use Rattle.diary_laws.specs.Machines.{Step}
use Rattle.diary_laws.specs.Merges.{IsFound, Ranked, finds_none, sent_by}
use Rattle.diary_merge.specs.declared.place.Place.{Place}
use Rattle.diary_merge.specs.declared.place.TheConstants.{NODES}

-- Steps as diaries have them, whatever led there, and where they stand.

abbrev pub Act : Type 0
Act = Step (Unit {0})

-- the step of an entry, and of any other step, without the states
abbrev pub act_from : ℕ → DiaryEntry → Act
act_from node entry = record { time = entry.time; node = node; input = entry.input; row = record { next = tt; sends = entry.sends; events = [] } }

abbrev pub act_of : {S : Type 0} → Step S → Act
act_of step = record { time = step.time; node = step.node; input = step.input; row = record { next = tt; sends = step.row.sends; events = [] } }

-- the key by which steps are put in order, and the word that is it while times are below their limit
abbrev pub key_at : ℕ → ℕ → ℕ
key_at time node = NODES * time + node

abbrev pub word_at : ℕ → ℕ → ℕ
word_at time node = capped (capped (NODES * time) + node)

-- the place of an entry, if it becomes an event; the places of all such entries, of a diary from one entry on, and of
-- diaries from one on
abbrev pub place_here : ℕ → ℕ → ℕ → DiaryEntry → List Place
place_here node diary at entry = if finds_none entry.input then [] else record { key = word_at entry.time node; diary = diary; entry = at } ∷ []

abbrev pub places_from : ℕ → ℕ → ℕ → List DiaryEntry → List Place
places_from node diary at [] = []
places_from node diary at (entry ∷ entries) = place_here node diary at entry ++ places_from node diary (at + 1) entries

abbrev pub places_of : ℕ → List Diary → List Place
places_of at [] = []
places_of at (diary ∷ diaries) = places_from diary.node at 0 diary.entries ++ places_of (at + 1) diaries

-- the step that stands at a place, and one of nothing where none does
abbrev pub no_act : Act
no_act = record { time = 0; node = 0; input = Tick; row = record { next = tt; sends = []; events = [] } }

abbrev pub act_of_entry : ℕ → Option DiaryEntry → Act
act_of_entry node None = no_act
act_of_entry node (Some entry) = act_from node entry

abbrev pub act_in : Option Diary → ℕ → Act
act_in None at = no_act
act_in (Some diary) at = act_of_entry diary.node (slice_get diary.entries at)

abbrev pub act_at : List Diary → Place → Act
act_at diaries place = act_in (slice_get diaries place.diary) place.entry

abbrev pub acts_at : List Diary → List Place → List Act
acts_at diaries places = map (act_at diaries) places

-- an entry stands at this place, under its key
pub record IsThere (diaries : List Diary) (place : Place) : Type 0 where
  pub diary : Diary
  pub entry : DiaryEntry
  pub among : slice_get diaries place.diary ≡ Some diary
  pub inside : slice_get diary.entries place.entry ≡ Some entry
  pub keyed : place.key ≡ word_at entry.time diary.node

-- how many messages were sent before each step, from this many on, as words
abbrev pub starts_from : ℕ → List Act → List ℕ
starts_from sent [] = []
starts_from sent (act ∷ acts) = sent ∷ starts_from (capped (sent + length act.row.sends)) acts

-- what numbers need to be right: times and nodes' numbers are within their limits, keys rise, and messages are counted
-- and are few
pub record IsTimely (act : Act) : Type 0 where
  pub early : act.time < TIME_LIMIT
  pub few : act.node < NODES

pub record AreNumbered (diaries : List Diary) (places : List Place) (starts : List ℕ) : Type 0 where
  pub timely : Each IsTimely (acts_at diaries places)
  pub rising : Ranked (λ (p q : Place). p.key < q.key) places
  pub counted : starts ≡ starts_from 0 (acts_at diaries places)
  pub few : length (sent_by (acts_at diaries places)) < 2 ^ 32

-- a peek ends within what was claimed
abbrev pub IsWithinClaim : Input → Type 0
IsWithinClaim (Peek stable time replica from ids) = from + length ids ≤ stable
IsWithinClaim _ = Unit {0}

-- what is needed for a step to become an event: its message is among those sent
pub record CanBeEvent (acts : List Act) (input : Input) : Type 0 where
  pub found : IsFound (sent_by acts) input
  pub within : IsWithinClaim input

-- the same of all, and numbers are right
pub record CanBeMerged (diaries : List Diary) (places : List Place) (starts : List ℕ) : Type 0 where
  pub numbered : AreNumbered diaries places starts
  pub each : Each (λ act. CanBeEvent (acts_at diaries places) act.input) (acts_at diaries places)
