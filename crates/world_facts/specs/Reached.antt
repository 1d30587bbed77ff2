use Rattle.std.specs.Prelude.{◌≡◌, List, None}
use Rattle.list_facts.specs.Lists.{Each}
use Rattle.view_config.specs.Shape.{Dimensions, IsShape}
use Rattle.lazy_msgs.specs.declared.input.WorldEvent.{WorldEvent}
use Rattle.lazy_rules.specs.WorldRules.{after, refusal, run}
use Rattle.lazy_rules.specs.WorldState.{WorldState, first_world}
use Rattle.world_facts.specs.SizesOf.{IsOfWords}
use Rattle.world_facts.specs.Turns.{IsNext, IsStep, Meets}

-- The worlds that are reached, and what holds of all.

-- the world of a shape after these events
abbrev pub reached : Dimensions → List WorldEvent → WorldState
reached shape events = run events (first_world shape)

-- after every list of events, in every shape
abbrev pub InEveryWorld : (Dimensions → WorldState → Type 0) → Type 0
InEveryWorld P = (shape : Dimensions) (events : List WorldEvent) → IsShape shape → P shape (reached shape events)

-- the same where reads are asked with numbers of 32 bits
abbrev pub WhereAskedInWords : (Dimensions → WorldState → Type 0) → Type 0
WhereAskedInWords P = (shape : Dimensions) (events : List WorldEvent) → IsShape shape → Each (Meets IsOfWords) events → P shape (reached shape events)

-- each event that isn't refused is one turn of one node
abbrev pub TurnsByEvents : WorldState → Type 0
TurnsByEvents w = (event : WorldEvent) → refusal w event ≡ None → IsNext (λ input. Unit {0}) w (after w event)

-- one turn, or a delivery to nobody
abbrev pub StepsByEvents : WorldState → Type 0
StepsByEvents w = (event : WorldEvent) → refusal w event ≡ None → IsStep w (after w event)
