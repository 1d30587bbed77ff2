use Rattle.std.specs.Prelude.{ℕ, unwrap_or}
use Rattle.rec_id.specs.History.{told_reach, shown_reach}
use Rattle.rec_id.specs.declared.event.Event.{Event}
use Rattle.log_law.specs.declared.reaches.Reach.{Reach}
use Rattle.log_law.specs.declared.reaches.Reach.TheVariants.{Told, Shown}

-- how far the event reaches, and 0 where it does not
abbrev pub reach_of : Reach → Event → ℕ
reach_of Told event = unwrap_or (told_reach event) 0
reach_of Shown event = unwrap_or (shown_reach event) 0
