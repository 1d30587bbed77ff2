use Rattle.std.specs.Prelude.{◌≡◌, ◌<◌, ◌≤◌, ℕ, List, Option, Some}
use Rattle.list_facts.specs.Lists.{In, Precedes}
use Rattle.rec_id.specs.Identity.{Identity}
use Rattle.rec_id.specs.History.{Read, invoked_id, finished_id, begun_read, ended_read, asked_trim, done_trim, asked_from}
use Rattle.rec_id.specs.declared.event.Ask.{Ask}
use Rattle.rec_id.specs.declared.event.Event.{Event}
use Rattle.rec_id.specs.declared.event.Event.TheVariants.{Invoke, Begin, TrimAsk, TrimDone, Trimmed}
use Rattle.view_config.specs.Shape.{Dimensions}

-- Of the history alone: what begins does so once, and what ends had begun and ends once.

-- no two events of the history tell the same
abbrev pub ToldOnce : {A : Type 0} → (Event → Option A) → List Event → Type 0
ToldOnce {A = A} tells history = (x : A) (first second : Event) → tells first ≡ Some x → tells second ≡ Some x → ¬ Precedes first second history

pub record AppendsFacts (shape : Dimensions) (history : List Event) : Type 0 where
  pub clients : (id : Identity) (bytes : List ℕ) → In (Invoke id bytes) history → id.client < shape.clients
  pub numbers : (id : Identity) (bytes : List ℕ) → In (Invoke id bytes) history → 1 ≤ id.number
  pub begun_once : ToldOnce invoked_id history
  pub begun_before : (id : Identity) (event : Event) → finished_id event ≡ Some id → In event history → (bytes : List ℕ) × Precedes (Invoke id bytes) event history
  pub ended_once : ToldOnce finished_id history

-- a read that ended had begun before
pub record HadBegun (history : List Event) (read : Read) (event : Event) : Type 0 where
  pub ask : Ask
  pub before : Precedes (Begin read.client read.number ask) event history

-- what a client was told to be given up, a trim had asked for, and the read had asked for some of it
pub record TrimmedFacts (history : List Event) (client read floor : ℕ) : Type 0 where
  pub ask : Ask
  pub begun : Precedes (Begin client read ask) (Trimmed client read floor) history
  pub below : asked_from ask < floor
  pub trimmer : ℕ
  pub trim : ℕ
  pub asked : ℕ
  pub before : Precedes (TrimAsk trimmer trim asked) (Trimmed client read floor) history
  pub at_least : floor ≤ asked

pub record ReadsFacts (history : List Event) : Type 0 where
  pub begun_once : ToldOnce begun_read history
  pub begun_before : (read : Read) (event : Event) → ended_read event ≡ Some read → In event history → HadBegun history read event
  pub ended_once : ToldOnce ended_read history
  pub trimmed : (client read floor : ℕ) → In (Trimmed client read floor) history → TrimmedFacts history client read floor

pub record TrimsFacts (history : List Event) : Type 0 where
  pub asked_once : (read : Read) (low high : ℕ) (first second : Event) → asked_trim first ≡ Some (read, low) → asked_trim second ≡ Some (read, high) → ¬ Precedes first second history
  pub asked_before : (client read floor : ℕ) → In (TrimDone client read floor) history → Precedes (TrimAsk client read floor) (TrimDone client read floor) history
  pub done_once : ToldOnce done_trim history

pub record HistoryFacts (shape : Dimensions) (history : List Event) : Type 0 where
  pub appends : AppendsFacts shape history
  pub reads : ReadsFacts history
  pub trims : TrimsFacts history
