-- What holds of a world in which some of the merged steps were done and the rest is to come.
use Rattle.std.proofs.Common.{◌≡◌, ℕ, List, [], ◌++◌, map, Option, Some, None, true}
use Rattle.list_facts.specs.Lists.{In, Each}
use Rattle.view_config.specs.Shape.{Dimensions}
use Rattle.lazy_msgs.specs.declared.input.WorldEvent.{WorldEvent}
use Rattle.lazy_msgs.specs.declared.msg.Envelope.{Envelope}
use Rattle.lazy_rules.specs.WorldRules.{run}
use Rattle.lazy_rules.specs.WorldState.{WorldState}
use Rattle.world_facts.specs.Forms.{HasForm}
use Rattle.diary_laws.specs.Closed.{IsJustified}
use Rattle.diary_laws.specs.Lived.{AreFree}
use Rattle.diary_laws.specs.Machines.{Step}
use Rattle.diary_laws.specs.Merges.{is_event, sent_by, told_by}
use Rattle.diary_laws.specs.Nodes.{NodeState, nodes_of_shape, state_at}
use Rattle.diary_laws.proofs.merges.Crashes.{gone_of}
use Rattle.diary_laws.proofs.merges.Going.{GoesOn, behind}
use Rattle.diary_laws.proofs.merges.Parts.{of_node}
use Rattle.diary_laws.proofs.runs.Steady.{Solid, StableIn, Still}
use Rattle.diary_laws.proofs.worlds.Did.{bare}

-- a node that has done this step has still what it claimed
pub record IsSettled (w : WorldState) (x : Step NodeState) : Type 0 where
  pub now : NodeState
  pub here : state_at w x.node ≡ Some now
  pub still : Still x.row.next now
  pub stable : StableIn x.row.next x.row.sends

-- these steps go on from this state; without a node there are none
abbrev pub Onward : Dimensions → ℕ → Option NodeState → List (Step NodeState) → Type 0
Onward shape me None xs = xs ≡ []
Onward shape me (Some s) xs = GoesOn (nodes_of_shape shape) me s xs

pub record Reached (shape : Dimensions) (w : WorldState) (done rest : List (Step NodeState)) : Type 0 where
  pub form : HasForm shape w
  pub onward : (me : ℕ) → Onward shape me (state_at w me) (of_node me rest)
  pub solid : (me : ℕ) (s : NodeState) → state_at w me ≡ Some s → Solid s
  pub settled : Each (IsSettled w) done
  pub sent : map bare w.sent ≡ map bare (sent_by done)
  pub ended : (me : ℕ) → In me w.crashed → of_node me rest ≡ []

-- a step that becomes an event, and comes of what the merged steps sent and claimed
pub record IsDue (shape : Dimensions) (sent : List Envelope) (merged : List (Step NodeState)) (x : Step NodeState) : Type 0 where
  pub event : is_event x ≡ true
  pub justified : IsJustified (nodes_of_shape shape) sent merged x.time x.input

-- what the rest of the events comes to
pub record Ran (w : WorldState) (rest : List (Step NodeState)) (events : List WorldEvent) : Type 0 where
  pub free : AreFree w events
  pub states : (me : ℕ) (s : NodeState) → state_at w me ≡ Some s → state_at (run events w) me ≡ Some (behind s (of_node me rest))
  pub crashed : (run events w).crashed ≡ w.crashed ++ gone_of rest
  pub history : (run events w).history ≡ w.history ++ told_by rest
