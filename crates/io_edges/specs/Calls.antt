use Rattle.std.specs.Prelude.{ℕ, Bool, List, ◌==◌, if◌then◌else◌}
use Rattle.std.specs.List.{list_any}
use Rattle.io_edges.specs.Faults.{raised}

-- The calls of a stream: how many were made, which are to fail, by their numbers from 1, and how
-- many did.
pub record Calls : Type 0 where
  pub made : ℕ
  pub to_fail : List ℕ
  pub faults : ℕ

-- none was made yet
abbrev pub no_calls : List ℕ → Calls
no_calls to_fail = record { made = 0; to_fail = to_fail; faults = 0 }

-- the next call is to fail
abbrev pub fails_next : Calls → Bool
fails_next calls = list_any (λ number. number == raised calls.made) calls.to_fail

-- one more call was made, which failed where it was to
abbrev pub after_call : Calls → Calls
after_call calls = record calls {
  made = raised calls.made;
  faults = if fails_next calls then raised calls.faults else calls.faults;
}
