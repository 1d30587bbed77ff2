use Rattle.std.specs.Prelude.{◌≡◌, ◌≢◌, ℕ, ◌+◌, ◌<◌, Bool, true, false, List, [], ◌∷◌, length, Option, Some, None, option_and_then, slice_get}
use Rattle.rec_id.specs.declared.limits.TheConstants.{READ_LIMIT}
use Rattle.rec_id.specs.Identity.{Identity}
use Rattle.rec_id.specs.declared.entry.Entry.{Entry}
use Rattle.rec_id.specs.declared.event.Ask.{Ask}
use Rattle.rec_id.specs.declared.event.Ask.TheVariants.{Range, Tail}
use Rattle.rec_id.specs.declared.event.Event.{Event}
use Rattle.rec_id.specs.declared.event.Event.TheVariants.{Invoke, Acked, Rejected, Begin, Answer, Seen, TrimAsk, TrimDone, Trimmed}

-- a read or a trim: the client, and the number among the client's reads and trims
pub record Read : Type 0 where
  pub client : ℕ
  pub number : ℕ

-- the identity whose append begins with the event
abbrev pub invoked_id : Event → Option Identity
invoked_id (Invoke id bytes) = Some id
invoked_id _ = None

-- the identity whose append ends with the event: it is acknowledged or rejected
abbrev pub finished_id : Event → Option Identity
finished_id (Acked id) = Some id
finished_id (Rejected id place) = Some id
finished_id _ = None

-- the read that begins with the event
abbrev pub begun_read : Event → Option Read
begun_read (Begin client read ask) = Some (record { client = client; number = read })
begun_read _ = None

-- the read that ends with the event
abbrev pub ended_read : Event → Option Read
ended_read (Answer client read from entries tail) = Some (record { client = client; number = read })
ended_read (Trimmed client read floor) = Some (record { client = client; number = read })
ended_read _ = None

-- the read whose answer is forced, and the tail that it gives
abbrev pub forced_tail : Event → Option (Read × ℕ)
forced_tail (Answer client read from entries (Some tail)) = Some (record { client = client; number = read }, tail)
forced_tail _ = None

-- the trim that is asked for, and its floor
abbrev pub asked_trim : Event → Option (Read × ℕ)
asked_trim (TrimAsk client read floor) = Some (record { client = client; number = read }, floor)
asked_trim _ = None

-- the trim that is done
abbrev pub done_trim : Event → Option Read
done_trim (TrimDone client read floor) = Some (record { client = client; number = read })
done_trim _ = None

-- the end of what was told from a place on, and 0 where nothing was
abbrev pub end_of : {A : Type 0} → ℕ → List A → ℕ
end_of from [] = 0
end_of from (x ∷ xs) = from + length (x ∷ xs)

-- how far an answer of these entries reaches
abbrev pub answer_reach : ℕ → List Entry → Option ℕ → ℕ
answer_reach from entries (Some tail) = tail
answer_reach from entries None = end_of from entries

-- how far the event shows the order of the log
abbrev pub shown_reach : Event → Option ℕ
shown_reach (Answer client read from entries tail) = Some (answer_reach from entries tail)
shown_reach (Seen client from ids) = Some (end_of from ids)
shown_reach _ = None

-- how far the event reaches into the log, by what it shows or by what it trims
abbrev pub told_reach : Event → Option ℕ
told_reach (TrimDone client read floor) = Some floor
told_reach (Trimmed client read floor) = Some floor
told_reach (Answer client read from entries tail) = Some (answer_reach from entries tail)
told_reach (Seen client from ids) = Some (end_of from ids)
told_reach _ = None

-- the place from which the ask wants entries
abbrev pub asked_from : Ask → ℕ
asked_from (Range from to) = from
asked_from (Tail from) = from

-- the place up to which, and without which, the ask wants entries
abbrev pub asked_to : Ask → ℕ
asked_to (Range from to) = to
asked_to (Tail from) = from + READ_LIMIT

abbrev pub is_tail : Ask → Bool
is_tail (Range from to) = false
is_tail (Tail from) = true

-- what f tells of the member at a place, and None also past the end
abbrev pub told_at : {A B : Type 0} → (A → Option B) → List A → ℕ → Option B
told_at f xs i = option_and_then f (slice_get xs i)

-- of some event before index j, f tells x
pub record SomeBefore {B : Type 0} (f : Event → Option B) (history : List Event) (j : ℕ) (x : B) : Type 0 where
  pub index : ℕ
  pub before : index < j
  pub tells : told_at f history index ≡ Some x

-- of no event before index j, f tells x
pub record NoneBefore {B : Type 0} (f : Event → Option B) (history : List Event) (j : ℕ) (x : B) : Type 0 where
  pub none : (i : ℕ) → i < j → told_at f history i ≢ Some x

-- of exactly one event before index j, f tells x
pub record OneBefore {B : Type 0} (f : Event → Option B) (history : List Event) (j : ℕ) (x : B) : Type 0 where
  pub index : ℕ
  pub before : index < j
  pub tells : told_at f history index ≡ Some x
  pub only : (i : ℕ) → i < j → told_at f history i ≡ Some x → i ≡ index

-- an Invoke of the identity stands in the history
pub record IsInvoked (history : List Event) (id : Identity) : Type 0 where
  pub index : ℕ
  pub tells : told_at invoked_id history index ≡ Some id

-- an Invoke of the identity with these bytes stands in the history
pub record IsInvokedWith (history : List Event) (id : Identity) (bytes : List ℕ) : Type 0 where
  pub index : ℕ
  pub stands : slice_get history index ≡ Some (Invoke id bytes)
