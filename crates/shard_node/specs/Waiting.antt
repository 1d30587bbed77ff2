use Rattle.std.specs.Prelude.{ℕ, ◌≡◌, List, Bool, true, nat_lt, if◌then◌else◌}
use Rattle.lazy_rules.specs.Rows.{stays}
use Rattle.lazy_rules.specs.ShardState.{ShardState, PlaceJob}
use Rattle.lazy_rules.specs.Store.{fill}
use Rattle.lazy_rules.specs.ShardRules.{with_store}
use Rattle.lazy_rules.specs.Pushing.{pushes_above}

-- the job ends above the first place only if it ends above the second one too
abbrev pub ends_above_both : ℕ → ℕ → PlaceJob → Bool
ends_above_both place other job = if nat_lt place job.end then nat_lt other job.end else true

-- nothing is pushed when data comes for this place
abbrev pub PushesNothing : ShardState → ℕ → Type 0
PushesNothing s place = (bytes : List ℕ) → pushes_above (with_store s (fill s.store place bytes)) place ≡ stays (with_store s (fill s.store place bytes))
