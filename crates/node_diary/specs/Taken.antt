use Rattle.std.specs.Prelude.{◌≡◌, List}
use Rattle.rec_id.specs.declared.event.Event.{Event}
use Rattle.lazy_msgs.specs.Step.{Row}

-- the step of a row was taken, and this was told
pub record IsTaken {S : Type 0} (row : Row S) (after : S) (told : List Event) : Type 0 where
  pub state : after ≡ row.next
  pub events : told ≡ row.events
