use Rattle.std.specs.Prelude.{◌≡◌, ℕ, ◌<◌, ◌⊎◌, List}
use Rattle.rec_id.specs.Lawful.{UniqueAt, InvokedAt, FinishedAt, OrderedAt, SlicesAt, CoveredAt, TailsNeverFallAt, BehindReadAt, TrimsAt, Unique, Invoked, Finished, Ordered, Slices, Covered, TailsNeverFall, BehindRead, Trims}
use Rattle.rec_id.specs.declared.entry.Entry.{Entry}
use Rattle.rec_id.specs.declared.event.Event.{Event}

-- a clause of the law, by its name
pub data Clause : Type 0 where
  unique : Clause
  invoked : Clause
  finished : Clause
  ordered : Clause
  slices : Clause
  covered : Clause
  tails_never_fall : Clause
  behind_read : Clause
  trims : Clause

-- its number; (a) is 1
abbrev pub number_of : Clause → ℕ
number_of unique = 1
number_of invoked = 2
number_of finished = 3
number_of ordered = 4
number_of slices = 5
number_of covered = 6
number_of tails_never_fall = 7
number_of behind_read = 8
number_of trims = 9

-- the clause is met by a pair of indices or places; one that speaks of one alone, of the first
abbrev pub IsMetAt : Clause → List Event → List Entry → ℕ → ℕ → Type 0
IsMetAt unique history line i j = UniqueAt line i j
IsMetAt invoked history line i j = InvokedAt history line i
IsMetAt finished history line i j = FinishedAt history line i
IsMetAt ordered history line i j = OrderedAt history line i j
IsMetAt slices history line i j = SlicesAt history line i
IsMetAt covered history line i j = CoveredAt history line i j
IsMetAt tails_never_fall history line i j = TailsNeverFallAt history i j
IsMetAt behind_read history line i j = BehindReadAt history line i j
IsMetAt trims history line i j = TrimsAt history i

-- the clause is met
abbrev pub IsMet : Clause → List Event → List Entry → Type 0
IsMet unique history line = Unique line
IsMet invoked history line = Invoked history line
IsMet finished history line = Finished history line
IsMet ordered history line = Ordered history line
IsMet slices history line = Slices history line
IsMet covered history line = Covered history line
IsMet tails_never_fall history line = TailsNeverFall history
IsMet behind_read history line = BehindRead history line
IsMet trims history line = Trims history

-- one pair comes before another: its first number is less or, where they are the same, its second
abbrev pub IsPairBefore : ℕ → ℕ → ℕ → ℕ → Type 0
IsPairBefore i j first second = (i < first) ⊎ ((i ≡ first) × (j < second))

-- the clause is the first that is broken, and the pair the first that breaks it
pub record IsFirstBroken (history : List Event) (line : List Entry) (clause : Clause) (first second : ℕ) : Type 0 where
  pub earlier : (other : Clause) → number_of other < number_of clause → IsMet other history line
  pub broken : ¬ IsMetAt clause history line first second
  pub least : (i j : ℕ) → IsPairBefore i j first second → IsMetAt clause history line i j
