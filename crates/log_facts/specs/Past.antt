use Rattle.std.specs.Prelude.{◌≡◌, ◌≤◌, ℕ, List, Some}
use Rattle.list_facts.specs.Lists.{In, Precedes}
use Rattle.rec_id.specs.Identity.{Identity}
use Rattle.rec_id.specs.History.{finished_id, told_reach}
use Rattle.rec_id.specs.declared.entry.Entry.{Entry}
use Rattle.rec_id.specs.declared.entry.Entry.TheVariants.{Kept, Noop}
use Rattle.rec_id.specs.declared.event.Ask.{Ask}
use Rattle.rec_id.specs.declared.event.Event.{Event}
use Rattle.rec_id.specs.declared.event.Event.TheVariants.{Invoke, Begin, TrimAsk}
use Rattle.log_facts.specs.Signs.{Sort, Away, Filled, Void, Lacking}

-- What a history has: by events that stand in it, not by their places.

-- an append of this identity began
pub record IsBegun (history : List Event) (id : Identity) : Type 0 where
  pub bytes : List ℕ
  pub stands : In (Invoke id bytes) history

-- it ended
pub record HasEnded (history : List Event) (id : Identity) : Type 0 where
  pub event : Event
  pub ends : finished_id event ≡ Some id
  pub stands : In event history

-- this read began
pub record HasBegun (history : List Event) (client read : ℕ) : Type 0 where
  pub ask : Ask
  pub stands : In (Begin client read ask) history

-- the append had ended when the read began
pub record EndedBefore (history : List Event) (client read : ℕ) (id : Identity) : Type 0 where
  pub event : Event
  pub ends : finished_id event ≡ Some id
  pub ask : Ask
  pub before : Precedes event (Begin client read ask) history

-- something reached so far when the read began
pub record ReachedBefore (history : List Event) (client read reach : ℕ) : Type 0 where
  pub event : Event
  pub reaches : told_reach event ≡ Some reach
  pub ask : Ask
  pub before : Precedes event (Begin client read ask) history

-- the identities have all that had ended when the read began, and the position is above all that had been reached
pub record Covers (history : List Event) (client read : ℕ) (ids : List Identity) (bound : ℕ) : Type 0 where
  pub ended : (id : Identity) → EndedBefore history client read id → In id ids
  pub reached : (reach : ℕ) → ReachedBefore history client read reach → reach ≤ bound

-- a trim of at least this floor was asked for
pub record IsTrimAsked (history : List Event) (floor : ℕ) : Type 0 where
  pub client : ℕ
  pub read : ℕ
  pub asked : ℕ
  pub stands : In (TrimAsk client read asked) history
  pub at_least : floor ≤ asked

-- this entry may be told of a place with this sign
abbrev pub ToldAs : List Event → Identity → Sort → Entry → Type 0
ToldAs history id Away entry = ⊥
ToldAs history id Filled entry = (bytes : List ℕ) × (entry ≡ Kept id bytes) × In (Invoke id bytes) history
ToldAs history id Void entry = entry ≡ Noop id
ToldAs history id Lacking entry = ⊥
