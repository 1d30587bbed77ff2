use Rattle.std.specs.Prelude.{◌≡◌, ℕ, ◌==◌, if◌then◌else◌, List}
use Rattle.rec_id.specs.Lawful.{Lawful}
use Rattle.rec_id.specs.Verdict.{Clause, unique, invoked, finished, ordered, slices, covered, tails_never_fall, behind_read, trims, number_of, IsFirstBroken}
use Rattle.rec_id.specs.declared.entry.Entry.{Entry}
use Rattle.rec_id.specs.declared.event.Event.{Event}
use Rattle.log_law.specs.declared.verdict.Verdict.{Verdict}
use Rattle.log_law.specs.declared.verdict.Verdict.TheVariants as told

-- the clause of a number; (a) is 1
abbrev pub clause_of : ℕ → Clause
clause_of n = if n == 1 then unique else (if n == 2 then invoked else (if n == 3 then finished else (if n == 4 then ordered else (if n == 5 then slices else (if n == 6 then covered else (if n == 7 then tails_never_fall else (if n == 8 then behind_read else trims)))))))

-- the clause of this number is the first that is broken, and the pair the first that breaks it
pub record IsBrokenAs (history : List Event) (line : List Entry) (number first second : ℕ) : Type 0 where
  pub clause : Clause
  pub numbered : number_of clause ≡ number
  pub is : IsFirstBroken history line clause first second

-- the verdict is right
abbrev pub IsVerdict : List Event → List Entry → Verdict → Type 0
IsVerdict history line told.Lawful = Lawful history line
IsVerdict history line (told.Broken number first second) = IsBrokenAs history line number first second
