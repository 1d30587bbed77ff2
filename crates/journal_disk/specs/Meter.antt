-- The device calls of a disk in memory: which of them fail.
use Rattle.std.specs.Prelude.{ℕ, zero, suc, Bool, true, false, ◌||◌, ◌==◌, ◌-◌, if◌then◌else◌, List, Option, None, Some, option_map}
use Rattle.std.specs.List.{list_any}
use Rattle.io_edges.specs.Faults.{raised}

-- how many calls were made, which are to fail, by their numbers from 1; how many more succeed before the disk
-- stops, if it is to stop; and how many failed
pub record Metered : Type 0 where
  pub made : ℕ
  pub to_fail : List ℕ
  pub stops_in : Option ℕ
  pub faults : ℕ

abbrev pub unmetered : List ℕ → Metered
unmetered to_fail = record { made = 0; to_fail = to_fail; stops_in = None; faults = 0 }

abbrev pub is_stopped : Option ℕ → Bool
is_stopped None = false
is_stopped (Some left) = left == 0

-- the next call is to fail
abbrev pub fails_next : Metered → Bool
fails_next meter = list_any (λ number. number == raised meter.made) meter.to_fail || is_stopped meter.stops_in

-- one more call was made, which failed where it was to
abbrev pub after_call : Metered → Metered
after_call meter = record meter {
  made = raised meter.made;
  stops_in = option_map (λ left. left - 1) meter.stops_in;
  faults = if fails_next meter then raised meter.faults else meter.faults;
}
