use Rattle.std.specs.Prelude.{◌≡◌, ◌≤◌, ℕ, List, [], length, Bool, Result, Err, OnOk, OnErr}
use Rattle.rec_id.specs.declared.event.Event.{Event}
use Rattle.lazy_msgs.specs.declared.input.Input.{Input}
use Rattle.lazy_msgs.specs.declared.msg.Msg.{Msg}
use Rattle.lazy_msgs.specs.declared.refused.StepRefused.{StepRefused}
use Rattle.lazy_msgs.specs.declared.refused.StepRefused.TheVariants.{Over}
use Rattle.lazy_msgs.specs.Outbox.{Out, Fits, put_on}
use Rattle.lazy_msgs.specs.Step.{Row}
use Rattle.lazy_rules.specs.ClientNode.{ClientNode, asks_view, in_appends, in_reads}
use Rattle.lazy_rules.specs.ClientRules.{client_step}
use Rattle.lazy_rules.specs.ReaderRules.{reader_step}
use Rattle.lazy_rules.specs.Rows.{followed}

-- The parts of a step that both halves of a client take.

abbrev pub appends_step : Input → ClientNode → Row ClientNode
appends_step input n = in_appends n (client_step n.appends input)

abbrev pub reads_step : Input → ClientNode → Row ClientNode
reads_step input n = in_reads n (reader_step n.reads input)

-- the appends, and then the reads
abbrev pub both_step : Input → ClientNode → Row ClientNode
both_step input n = followed (appends_step input n) (reads_step input)

-- and then the latest configuration is asked for, where that is due
abbrev pub parts_step : Bool → Input → ClientNode → Row ClientNode
parts_step asks input n = followed (both_step input n) (asks_view asks)

-- a row tells nothing
abbrev pub TellsNothing : {S : Type 0} → Row S → Type 0
TellsNothing row = row.events ≡ []

-- an outbox with more in it
pub record IsGrown (before after : Out) : Type 0 where
  pub sends : List (ℕ × Msg)
  pub events : List Event
  pub fits : Fits sends before
  pub is : after ≡ put_on before sends events

-- a node took the step of a row, or was refused with some of it done
pub record PartlySteps {S : Type 0} (row : Row S) (after : S) (out_before out_after : Out) (outcome : Result (Unit {0}) StepRefused) : Type 0 where
  pub state : OnOk outcome (after ≡ row.next)
  pub sent : OnOk outcome (out_after ≡ put_on out_before row.sends row.events)
  pub fits : OnOk outcome (Fits row.sends out_before)
  pub room : outcome ≡ Err Over → ¬ Fits row.sends out_before
  pub few : OnOk outcome (length row.events ≤ 2)
  pub grown : OnErr outcome (IsGrown out_before out_after)
