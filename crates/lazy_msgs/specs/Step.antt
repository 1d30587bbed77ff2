use Rattle.std.specs.Prelude.{◌≡◌, ℕ, ◌≤◌, List, length, Result, Err, OnOk, OnErr}
use Rattle.rec_id.specs.declared.event.Event.{Event}
use Rattle.lazy_msgs.specs.declared.msg.Msg.{Msg}
use Rattle.lazy_msgs.specs.Outbox.{Out, Fits, put_on}

-- what a rule answers: the next state, what is sent and what is told
pub record Row (S : Type 0) : Type 0 where
  pub next : S
  pub sends : List (ℕ × Msg)
  pub events : List Event

-- a node took the step that the rule gives, or was refused and left all as it was; it was refused as
-- `over` only where the outbox had no room for what is sent. A step tells two events at most.
pub record StepsTo {S R E : Type 0} (row : Row S) (before after : S) (out_before out_after : Out) (outcome : Result R E) (over : E) : Type 0 where
  pub state : OnOk outcome (after ≡ row.next)
  pub sent : OnOk outcome (out_after ≡ put_on out_before row.sends row.events)
  pub fits : OnOk outcome (Fits row.sends out_before)
  pub room : outcome ≡ Err over → ¬ Fits row.sends out_before
  pub few : OnOk outcome (length row.events ≤ 2)
  pub unchanged : OnErr outcome (after ≡ before)
  pub unsent : OnErr outcome (out_after ≡ out_before)
