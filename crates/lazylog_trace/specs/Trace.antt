use Rattle.std.specs.Prelude.{ℕ, ◌+◌, ◌-◌, ◌*◌, ◌≤◌, length}
use Rattle.view_config.specs.declared.limits.TheConstants.{LINE_LIMIT_TWO}
use Rattle.lazylog_trace.specs.Output.{Progress, lines_limit}
use Rattle.lazylog_trace.specs.declared.trace.Trace.{Trace}

-- A running trace.

-- how many bytes a script line has at most, in any edition
abbrev pub bytes_limit : ℕ
bytes_limit = LINE_LIMIT_TWO

-- how far its script is
abbrev pub progress_of : Trace → Progress
progress_of t = record { world = t.world; lines = t.lines; part = t.part.items }

-- it is on its way: no script line has made more events than it may
pub record IsUnderWay (t : Trace) : Type 0 where
  pub counted : t.world.events ≤ 128 * t.lines
  pub few : t.lines ≤ lines_limit
  pub short : length t.part.items ≤ bytes_limit

-- how many bytes more its script may have at most
abbrev pub bytes_left : Trace → ℕ
bytes_left t = (lines_limit - t.lines) * (bytes_limit + 1) + (bytes_limit - length t.part.items)
