-- What a crash may leave at each moment of a call.
use Rattle.std.specs.Prelude.{◌≡◌, ◌≢◌, ◌⊎◌, ℕ, ◌+◌, ◌≤◌, ◌<◌, List, [], ◌∷◌, ◌++◌, length, take, drop}
use Rattle.io_edges.specs.Faults.{raised}
use Rattle.journal_disk.specs.Disk.{AddsNothing}

-- A crash at any moment since `old` leaves a file that has P.
pub record LeavesOnly {D : Type 0} (moment : D → ℕ) (left_since : D → ℕ → List ℕ → Type 0) (old new : D) (P : List ℕ → Type 0) : Type 0 where
  pub later : moment old ≤ moment new
  pub each : (file : List ℕ) → left_since new (moment old) file → P file
  -- for a run that began earlier
  pub before : (t : ℕ) (file : List ℕ) → t ≤ moment old → left_since new t file → left_since old t file ⊎ P file

-- a call that changed nothing: what is read stays, and nothing more may be left
pub record IsQuiet {D : Type 0} (seen : D → List ℕ) (may_leave : D → List ℕ → Type 0) (moment : D → ℕ) (left_since : D → ℕ → List ℕ → Type 0) (old new : D) : Type 0 where
  pub reads : seen new ≡ seen old
  pub no_more : AddsNothing (may_leave old) (may_leave new)
  pub leaves : LeavesOnly moment left_since old new (may_leave old)

-- Bytes are put behind a byte of a file, and then the byte itself is written over. What a crash may leave
-- meanwhile: all up to that byte stands; or all but that byte is as it is to be.
abbrev pub IsStaged : List ℕ → ℕ → List ℕ → Type 0
IsStaged file end other = take (end + 1) other ≡ take (end + 1) file

pub record IsWritten (file : List ℕ) (end : ℕ) (bytes : List ℕ) (other : List ℕ) : Type 0 where
  pub front : take end other ≡ take end file
  pub behind : drop (end + 1) other ≡ bytes ++ drop (end + 1 + length bytes) file
  pub longer : end < length other

abbrev pub IsStagedOrWritten : List ℕ → ℕ → List ℕ → List ℕ → Type 0
IsStagedOrWritten file end bytes other = IsStaged file end other ⊎ IsWritten file end bytes other

-- the file once that is done
abbrev pub opened : List ℕ → ℕ → List ℕ → List ℕ
opened file end bytes = take end file ++ 1 ∷ bytes ++ drop (end + 1 + length bytes) file

-- a file of fewer than two bytes, where there was one
pub record IsFew (file other : List ℕ) : Type 0 where
  pub was : length file < 2
  pub is : length other < 2

-- the count of calls after three and after four more
abbrev pub three_more : ℕ → ℕ
three_more calls = raised (raised (raised calls))

abbrev pub four_more : ℕ → ℕ
four_more calls = raised (three_more calls)
