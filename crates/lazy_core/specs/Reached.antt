use Rattle.std.specs.Prelude.{◌≡◌, ◌++◌, List, [], ◌∷◌, length, None, Result, OnOk}
use Rattle.list_facts.specs.Lists.{Each}
use Rattle.view_config.specs.Shape.{Dimensions, IsShape}
use Rattle.lazy_msgs.specs.declared.input.WorldEvent.{WorldEvent}
use Rattle.lazy_rules.specs.WorldRules.{happened, refusal, run}
use Rattle.lazy_rules.specs.WorldState.{WorldState, first_world}
use Rattle.world_facts.specs.SizesOf.{IsOfWords}
use Rattle.world_facts.specs.Turns.{Meets}

-- each of these events is accepted when its turn comes
abbrev pub AreAccepted : List WorldEvent → WorldState → Type 0
AreAccepted [] w = Unit {0}
AreAccepted (event ∷ events) w = (refusal w event ≡ None) × AreAccepted events (happened w event)

-- these events, all of them accepted, lead to this world, which has counted them; reads are asked with numbers of 32
-- bits
pub record IsReached (w : WorldState) : Type 0 where
  pub shape : Dimensions
  pub formed : IsShape shape
  pub events : List WorldEvent
  pub accepted : AreAccepted events (first_world shape)
  pub asked : Each (Meets IsOfWords) events
  pub counted : w.events ≡ length events
  pub is : w ≡ run events (first_world shape)

-- whatever led to the old world, with this event behind it leads to the new one
pub record Appends {R E : Type 0} (event : WorldEvent) (before after : WorldState) (outcome : Result R E) : Type 0 where
  pub appended : (r : IsReached before) → OnOk outcome ((s : IsReached after) × (s.events ≡ r.events ++ event ∷ []))
