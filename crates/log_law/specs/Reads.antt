use Rattle.std.specs.Prelude.{◌≡◌, ◌≢◌, ℕ, ◌+◌, ◌-◌, ◌<◌, ◌≤◌, min, List, Option, Some, None, IsTrue, IsSome, slice_get}
use Rattle.rec_id.specs.Identity.{Identity}
use Rattle.rec_id.specs.History.{Read, asked_trim, done_trim, asked_from, asked_to, is_tail, told_at, NoneBefore, OneBefore}
use Rattle.rec_id.specs.Line.{id_at, IsToldAt}
use Rattle.rec_id.specs.Lawful.{EndsRead, IsSlice, IsTrimmedRead}
use Rattle.rec_id.specs.declared.entry.Entry.{Entry}
use Rattle.rec_id.specs.declared.event.Ask.{Ask}
use Rattle.rec_id.specs.declared.event.Event.{Event}
use Rattle.rec_id.specs.declared.event.Event.TheVariants.{Begin, Answer, Seen, TrimDone, Trimmed}
use Rattle.log_law.specs.Keys.{key_at}

-- the read of a key
abbrev pub read_of : ℕ × ℕ → Read
read_of key = record { client = key.0; number = key.1 }

-- the key begins at b and at no other place before j, and does not end before j
pub record EndsKey (begun ended : List (Option (ℕ × ℕ))) (j : ℕ) (key : ℕ × ℕ) (b : ℕ) : Type 0 where
  pub before : b < j
  pub begins : key_at begun b ≡ Some key
  pub only : (i : ℕ) → i < j → key_at begun i ≡ Some key → i ≡ b
  pub not_ended : (i : ℕ) → i < j → key_at ended i ≢ Some key

-- the read that ends at index j has begun, once, with this ask, and has not ended before
pub record EndsAsked (history : List Event) (j : ℕ) (read : Read) (ask : Ask) : Type 0 where
  pub ends : EndsRead history j read
  pub is : ends.ask ≡ ask

-- so many entries from `from` on, with this tail, are what was asked for, of a line of this length
pub record FitsAsk (ask : Ask) (from count : ℕ) (tail : Option ℕ) (long : ℕ) : Type 0 where
  pub asked : asked_from ask ≡ from
  pub forced : IsTrue (is_tail ask) → IsSome tail
  pub counted : (t : ℕ) → tail ≡ Some t → count ≡ min (asked_to ask) t - from
  pub within : (t : ℕ) → tail ≡ Some t → t ≤ long
  pub whole : tail ≡ None → from + count ≡ asked_to ask

-- each of the entries may be told of its place
abbrev pub AreTold : List Event → List Entry → ℕ → List Entry → Type 0
AreTold history line from entries = (k : ℕ) (entry : Entry) → slice_get entries k ≡ Some entry → IsToldAt history line (from + k) entry

-- each of the identities is that of its place
abbrev pub AreNamed : List Entry → ℕ → List Identity → Type 0
AreNamed line from ids = (k : ℕ) (id : Identity) → slice_get ids k ≡ Some id → id_at line (from + k) ≡ Some id

-- clause (e) of the event at index j
abbrev pub KeepsSlices : List Event → List Entry → ℕ → Event → Type 0
KeepsSlices history line j (Answer client read from entries tail) = IsSlice history line j (record { client = client; number = read }) from entries tail
KeepsSlices history line j (Seen client from ids) = AreNamed line from ids
KeepsSlices history line j _ = Unit {0}

-- a trim is done as it was asked for, once, and was not done before
pub record IsDoneOnce (history : List Event) (j : ℕ) (read : Read) (floor : ℕ) : Type 0 where
  pub asked : OneBefore asked_trim history j (read, floor)
  pub done_once : NoneBefore done_trim history j read

-- clause (i) of the event at index j
abbrev pub KeepsTrims : List Event → ℕ → Event → Type 0
KeepsTrims history j (Trimmed client read floor) = IsTrimmedRead history j (record { client = client; number = read }) floor
KeepsTrims history j (TrimDone client read floor) = IsDoneOnce history j (record { client = client; number = read }) floor
KeepsTrims history j _ = Unit {0}

-- from i on, the first index below j at which the trim is asked for with this floor
pub record IsNextAsk (history : List Event) (read : Read) (floor i j n : ℕ) : Type 0 where
  pub at_least : i ≤ n
  pub none : (k : ℕ) → i ≤ k → k < n → k < j → told_at asked_trim history k ≢ Some (read, floor)
  pub asks : n < j → told_at asked_trim history n ≡ Some (read, floor)

-- the ask of a read that begins
abbrev pub ask_of : Event → Option Ask
ask_of (Begin client read ask) = Some ask
ask_of _ = None
