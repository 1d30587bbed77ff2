-- What the calls of a disk do to what it reads, and to what a crash may leave of it.
use Rattle.std.specs.Prelude.{◌≡◌, ◌⊎◌, ℕ, ◌+◌, ◌-◌, ◌≤◌, min, max, List, ◌++◌, length, take, drop, Result, OnErr}
use Rattle.io_edges.specs.Faults.{raised, Rose}

-- for how many calls a disk has room, and for how many bytes of them
pub record Room : Type 0 where
  pub calls : ℕ
  pub bytes : ℕ

-- the room behind a call that writes so many bytes
abbrev pub room_after : Room → ℕ → Room
room_after room count = record { calls = room.calls - 1; bytes = room.bytes - count }

-- the file with these bytes at this offset
abbrev pub with_bytes : List ℕ → ℕ → List ℕ → List ℕ
with_bytes file at bytes = take at file ++ bytes ++ drop (at + length bytes) file

-- what a crash may leave of a write of n bytes: any bytes in their range and past the old end, and some length
-- from the old one up to the new one; the rest stays
pub record Torn (at n : ℕ) (old new : List ℕ) : Type 0 where
  pub before : take at new ≡ take at old
  pub behind : drop (at + n) new ≡ drop (at + n) old
  pub no_shorter : length old ≤ length new
  pub no_longer : length new ≤ max (length old) (at + n)

-- what a crash may leave of a cut: some length from the new one up to the old one, which a file may be below
pub record PartCut (size : ℕ) (old new : List ℕ) : Type 0 where
  pub no_shorter : min size (length old) ≤ length new
  pub front : take (length new) old ≡ new

-- what a crash may leave now is what it might have left before, after a step
abbrev pub Follows : (List ℕ → List ℕ → Type 0) → (List ℕ → Type 0) → (List ℕ → Type 0) → Type 0
Follows step before now = (file : List ℕ) → now file → (old : List ℕ) × before old × step old file

-- a crash may leave nothing that it might not have left before
abbrev pub AddsNothing : (List ℕ → Type 0) → (List ℕ → Type 0) → Type 0
AddsNothing before now = (file : List ℕ) → now file → before file

-- a crash leaves this and nothing else
abbrev pub Only : List ℕ → (List ℕ → Type 0) → Type 0
Only file may_leave = (other : List ℕ) → may_leave other → other ≡ file

-- Time goes on: what a crash since t might have left is what it might have left before, or may leave now.
pub record Elapses (before now : ℕ) (past since : ℕ → List ℕ → Type 0) (may_leave : List ℕ → Type 0) : Type 0 where
  pub later : before ≤ now
  pub nothing_else : (t : ℕ) (file : List ℕ) → t ≤ before → since t file → past t file ⊎ may_leave file
  pub keeps : (t : ℕ) (file : List ℕ) → t ≤ before → past t file → since t file

-- A device call is counted. It fails only where the count of faults rose, which never falls.
pub record IsCounted {A E : Type 0} (calls calls_now faults faults_now : ℕ) (outcome : Result A E) : Type 0 where
  pub counted : calls_now ≡ raised calls
  pub failed : OnErr outcome (Rose faults faults_now)
  pub grows : faults ≤ faults_now

-- neither what is read nor what a crash may leave has changed
pub record IsUntouched (file file_now : List ℕ) (may_leave may_leave_now : List ℕ → Type 0) : Type 0 where
  pub reads : file_now ≡ file
  pub no_more : AddsNothing may_leave may_leave_now
  pub no_less : AddsNothing may_leave_now may_leave
