use Rattle.std.specs.Prelude.{◌≡◌, ℕ, ◌<◌, ◌≤◌, List, Some}
use Rattle.rec_id.specs.History.{Read, asked_trim, told_at}
use Rattle.rec_id.specs.declared.event.Event.{Event}
use Rattle.rec_id.specs.declared.event.Event.TheVariants.{TrimAsk}

-- the floor of a trim that is asked for, and 0 where none is
abbrev pub floor_of : Event → ℕ
floor_of (TrimAsk client read floor) = floor
floor_of _ = 0

-- a trim of this floor was asked for before an index
pub record IsAskedFloor (history : List Event) (end floor : ℕ) : Type 0 where
  pub index : ℕ
  pub before : index < end
  pub trim : Read
  pub asks : told_at asked_trim history index ≡ Some (trim, floor)

-- the highest floor of a trim that was asked for before an index, and 0 where there is none
pub record IsHighest (history : List Event) (end highest : ℕ) : Type 0 where
  pub at_least : (i : ℕ) (trim : Read) (floor : ℕ) → i < end → told_at asked_trim history i ≡ Some (trim, floor) → floor ≤ highest
  pub asked : 0 < highest → IsAskedFloor history end highest
