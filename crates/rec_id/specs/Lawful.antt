use Rattle.std.specs.Prelude.{◌≡◌, ◌≢◌, ℕ, ◌+◌, ◌-◌, ◌<◌, ◌≤◌, min, List, length, Option, Some, None, IsTrue, IsSome, slice_get}
use Rattle.rec_id.specs.Identity.{Identity}
use Rattle.rec_id.specs.History.{Read, invoked_id, finished_id, begun_read, ended_read, forced_tail, asked_trim, done_trim, shown_reach, told_reach, asked_from, asked_to, is_tail, told_at, SomeBefore, NoneBefore, OneBefore, IsInvoked, IsInvokedWith}
use Rattle.rec_id.specs.Line.{id_at, IsAppended, StandsBelow, IsToldAt}
use Rattle.rec_id.specs.declared.entry.Entry.{Entry}
use Rattle.rec_id.specs.declared.entry.Entry.TheVariants.{Kept, Noop, Gone}
use Rattle.rec_id.specs.declared.event.Ask.{Ask}
use Rattle.rec_id.specs.declared.event.Event.{Event}
use Rattle.rec_id.specs.declared.event.Event.TheVariants.{Acked, Rejected, Begin, Answer, Seen, TrimDone, Trimmed}

-- Each clause is said of a pair of indices of the history or places of the line, or of one of them, and holds where it
-- holds of all. The letters are those that are printed where a clause is broken.

-- (a) two places of the line name different identities
pub record UniqueAt (line : List Entry) (p q : ℕ) : Type 0 where
  pub differ : (id : Identity) → p < q → id_at line p ≡ Some id → id_at line q ≢ Some id

-- a trim whose floor is above the place was asked for
pub record IsTrimAsked (history : List Event) (place : ℕ) : Type 0 where
  pub index : ℕ
  pub trim : Read
  pub floor : ℕ
  pub asks : told_at asked_trim history index ≡ Some (trim, floor)
  pub above : place < floor

-- (b) the entry at a place was invoked, with the bytes that it has; a gone one was asked to go
pub record InvokedAt (history : List Event) (line : List Entry) (place : ℕ) : Type 0 where
  pub kept :
      (id : Identity) (bytes : List ℕ) → slice_get line place ≡ Some (Kept id bytes) →
      IsInvokedWith history id bytes
  pub noop : (id : Identity) → slice_get line place ≡ Some (Noop id) → IsInvoked history id
  pub gone : (id : Identity) → slice_get line place ≡ Some (Gone id) → IsInvoked history id
  pub trimmed : (id : Identity) → slice_get line place ≡ Some (Gone id) → IsTrimAsked history place

-- (c) the Invoke at an index is the first of its identity; the Acked or Rejected there is the first of its identity,
-- comes after an Invoke of it, and the line has what it told
pub record FinishedAt (history : List Event) (line : List Entry) (j : ℕ) : Type 0 where
  pub invoked_once : (id : Identity) → told_at invoked_id history j ≡ Some id → NoneBefore invoked_id history j id
  pub invoked_before : (id : Identity) → told_at finished_id history j ≡ Some id → SomeBefore invoked_id history j id
  pub finished_once : (id : Identity) → told_at finished_id history j ≡ Some id → NoneBefore finished_id history j id
  pub acked : (id : Identity) → slice_get history j ≡ Some (Acked id) → IsAppended line id
  pub rejected :
      (id : Identity) (place : ℕ) → slice_get history j ≡ Some (Rejected id place) →
      slice_get line place ≡ Some (Noop id)

-- (d) where a is finished at i, b is invoked at j, later, and b stands in the line, a stands in front of it
pub record OrderedAt (history : List Event) (line : List Entry) (i j : ℕ) : Type 0 where
  pub in_front :
      (a b : Identity) (place : ℕ) → i < j → told_at finished_id history i ≡ Some a →
      told_at invoked_id history j ≡ Some b → id_at line place ≡ Some b → StandsBelow line a place

-- the read that ends at index j has begun, once, and has not ended before
pub record EndsRead (history : List Event) (j : ℕ) (read : Read) : Type 0 where
  pub begun : OneBefore begun_read history j read
  pub ask : Ask
  pub asks : slice_get history begun.index ≡ Some (Begin read.client read.number ask)
  pub not_ended : NoneBefore ended_read history j read

-- the Answer at index j has what its read asked for: all of it or, where it is forced, what the log of that length has
-- of it
pub record IsSlice (history : List Event) (line : List Entry) (j : ℕ) (read : Read) (from : ℕ) (entries : List Entry) (tail : Option ℕ) : Type 0 where
  pub ends : EndsRead history j read
  pub asked : asked_from ends.ask ≡ from
  pub forced : IsTrue (is_tail ends.ask) → IsSome tail
  pub count : (t : ℕ) → tail ≡ Some t → length entries ≡ min (asked_to ends.ask) t - from
  pub within : (t : ℕ) → tail ≡ Some t → t ≤ length line
  pub whole : tail ≡ None → from + length entries ≡ asked_to ends.ask
  pub told : (k : ℕ) (entry : Entry) → slice_get entries k ≡ Some entry → IsToldAt history line (from + k) entry

-- (e) the Answer at an index is a slice of the line, and the identities of a Seen there are those of one
pub record SlicesAt (history : List Event) (line : List Entry) (j : ℕ) : Type 0 where
  pub answer :
      (client read from : ℕ) (entries : List Entry) (tail : Option ℕ) →
      slice_get history j ≡ Some (Answer client read from entries tail) →
      IsSlice history line j (record { client = client; number = read }) from entries tail
  pub seen :
      (client from : ℕ) (ids : List Identity) → slice_get history j ≡ Some (Seen client from ids) →
      (k : ℕ) (id : Identity) → slice_get ids k ≡ Some id → id_at line (from + k) ≡ Some id

-- (f) where a is finished at i, and a read whose answer is forced begins at b, later, a stands below the answer's tail
pub record CoveredAt (history : List Event) (line : List Entry) (i b : ℕ) : Type 0 where
  pub below :
      (a : Identity) (read : Read) (tail j : ℕ) → i < b → b < j → told_at finished_id history i ≡ Some a →
      told_at begun_read history b ≡ Some read → told_at forced_tail history j ≡ Some (read, tail) →
      StandsBelow line a tail

-- (g) where an order was shown at i up to some reach, and the read that is answered at j, by force, begins after i, the
-- answer's tail is no less
pub record TailsNeverFallAt (history : List Event) (i j : ℕ) : Type 0 where
  pub no_less :
      (reach b tail : ℕ) (read : Read) → i < b → b < j → told_at shown_reach history i ≡ Some reach →
      told_at begun_read history b ≡ Some read → told_at forced_tail history j ≡ Some (read, tail) → reach ≤ tail

-- (h) where something reached up to some place at i, and b is invoked at j, later, b does not stand below that place
pub record BehindReadAt (history : List Event) (line : List Entry) (i j : ℕ) : Type 0 where
  pub behind :
      (reach place : ℕ) (b : Identity) → i < j → told_at told_reach history i ≡ Some reach →
      told_at invoked_id history j ≡ Some b → id_at line place ≡ Some b → reach ≤ place

-- a trim of at least this floor was asked for before index j
pub record IsTrimAskedBefore (history : List Event) (j floor : ℕ) : Type 0 where
  pub index : ℕ
  pub before : index < j
  pub trim : Read
  pub asked_floor : ℕ
  pub asks : told_at asked_trim history index ≡ Some (trim, asked_floor)
  pub at_least : floor ≤ asked_floor

-- the read that ends at index j begins below the floor, and a trim up to there or further was asked for before
pub record IsTrimmedRead (history : List Event) (j : ℕ) (read : Read) (floor : ℕ) : Type 0 where
  pub ends : EndsRead history j read
  pub below : asked_from ends.ask < floor
  pub asked : IsTrimAskedBefore history j floor

-- (i) the read of a Trimmed at an index asked for what a trim was asked for; a TrimDone there was asked for, once, and
-- is the first of its trim
pub record TrimsAt (history : List Event) (j : ℕ) : Type 0 where
  pub trimmed :
      (client read floor : ℕ) → slice_get history j ≡ Some (Trimmed client read floor) →
      IsTrimmedRead history j (record { client = client; number = read }) floor
  pub asked :
      (client read floor : ℕ) → slice_get history j ≡ Some (TrimDone client read floor) →
      OneBefore asked_trim history j (record { client = client; number = read }, floor)
  pub done_once :
      (client read floor : ℕ) → slice_get history j ≡ Some (TrimDone client read floor) →
      NoneBefore done_trim history j (record { client = client; number = read })

abbrev pub Unique : List Entry → Type 0
Unique line = (p q : ℕ) → UniqueAt line p q

abbrev pub Invoked : List Event → List Entry → Type 0
Invoked history line = (place : ℕ) → InvokedAt history line place

abbrev pub Finished : List Event → List Entry → Type 0
Finished history line = (j : ℕ) → FinishedAt history line j

abbrev pub Ordered : List Event → List Entry → Type 0
Ordered history line = (i j : ℕ) → OrderedAt history line i j

abbrev pub Slices : List Event → List Entry → Type 0
Slices history line = (j : ℕ) → SlicesAt history line j

abbrev pub Covered : List Event → List Entry → Type 0
Covered history line = (i b : ℕ) → CoveredAt history line i b

abbrev pub TailsNeverFall : List Event → Type 0
TailsNeverFall history = (i j : ℕ) → TailsNeverFallAt history i j

abbrev pub BehindRead : List Event → List Entry → Type 0
BehindRead history line = (i j : ℕ) → BehindReadAt history line i j

abbrev pub Trims : List Event → Type 0
Trims history = (j : ℕ) → TrimsAt history j

-- the line is one that the log may have after this history of its clients
pub record Lawful (history : List Event) (line : List Entry) : Type 0 where
  pub unique : Unique line  -- (a)
  pub invoked : Invoked history line  -- (b)
  pub finished : Finished history line  -- (c)
  pub ordered : Ordered history line  -- (d)
  pub slices : Slices history line  -- (e)
  pub covered : Covered history line  -- (f)
  pub tails_never_fall : TailsNeverFall history  -- (g)
  pub behind_read : BehindRead history line  -- (h)
  pub trims : Trims history  -- (i)
