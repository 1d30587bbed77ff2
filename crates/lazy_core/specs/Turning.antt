use Rattle.std.specs.Prelude.{◌≡◌, ◌≢◌, ◌≤◌, ℕ, Option, Some, None, Result, IfOk, IfErr, slice_get, nat_lt, if◌then◌else◌}
use Rattle.view_config.specs.declared.nodes.Node.{Node}
use Rattle.view_config.specs.Shape.{IsShape, node_of}
use Rattle.lazy_msgs.specs.declared.input.WorldEvent.{WorldEvent}
use Rattle.lazy_msgs.specs.declared.input.WorldEvent.TheVariants.{Crash}
use Rattle.lazy_msgs.specs.declared.refused.EventRefused.{EventRefused}
use Rattle.lazy_msgs.specs.declared.refused.EventRefused.TheVariants.{NoNode, Crashed, Spent, Memory}
use Rattle.lazy_rules.specs.ReaderState.{ReaderState}
use Rattle.lazy_rules.specs.Rows.{has_node}
use Rattle.lazy_rules.specs.WorldRules.{after, refusal}
use Rattle.lazy_rules.specs.WorldState.{WorldState}
use Rattle.world_facts.specs.Forms.{HasForm}
use Rattle.world_facts.specs.MembersOf.{HasMembers}
use Rattle.lazy_core.specs.declared.node_state.NodeState.{NodeState}
use Rattle.lazy_core.specs.declared.turns.Turn.{Turn}
use Rattle.lazy_core.specs.NodeCall.{call_refusal, node_call}
use Rattle.lazy_core.specs.States.{node_did, state_at}

-- An event is a turn: one node takes one input, or refuses it.

-- what must be known of a world, so that its events can be turns: all that is known of every world
pub record IsKnown (w : WorldState) : Type 0 where
  pub formed : IsShape w.shape
  pub form : HasForm w.shape w
  pub members : HasMembers w.shape w
  pub reads : (c : ℕ) (r : ReaderState) → slice_get w.readers c ≡ Some r → r.count ≤ w.events

-- the node that a turn is of has this role and state, and what it receives was sent before
pub record IsTurnIn (w : WorldState) (turn : Turn) : Type 0 where
  pub role : Node
  pub seated : node_of w.shape turn.node ≡ Some role
  pub state : NodeState
  pub there : state_at w role ≡ Some state
  pub past : turn.received ≤ w.events

-- the world after a turn, and why it is refused, if it is
abbrev pub turn_after : (w : WorldState) (turn : Turn) → IsTurnIn w turn → WorldState
turn_after w turn is = node_did w is.role turn.node turn.received (node_call is.state turn.input)

abbrev pub turn_refusal : (w : WorldState) (turn : Turn) → IsTurnIn w turn → Option EventRefused
turn_refusal w turn is = call_refusal w.shape.edition is.state turn.input

-- an event is this turn: the rules give the same world, and the same reason
pub record IsTurnOf (w : WorldState) (event : WorldEvent) (turn : Turn) : Type 0 where
  pub is : IsTurnIn w turn
  pub next : after w event ≡ turn_after w turn is
  pub reason : refusal w event ≡ turn_refusal w turn is

-- an event comes to a turn, or is refused whatever its node's state, for this reason or for want of memory
pub record ComesTo (w : WorldState) (event : WorldEvent) (outcome : Result Turn EventRefused) : Type 0 where
  pub turn : IfOk outcome (IsTurnOf w event)
  pub named : IfErr outcome (λ e. e ≢ Memory → refusal w event ≡ Some e)
  pub unspent : IfErr outcome (λ e. e ≢ Spent)

-- why a client takes nothing from outside, if it doesn't
abbrev pub client_refused : WorldState → ℕ → Option EventRefused
client_refused w c = if nat_lt c w.shape.clients then (if has_node w.crashed c then Some (Crashed c) else None) else Some (NoNode c)

-- a refusal that is neither for want of room nor of memory
pub record IsPlain (e : EventRefused) : Type 0 where
  pub room : e ≢ Spent
  pub memory : e ≢ Memory

-- the event isn't a crash
abbrev pub IsNoCrash : WorldEvent → Type 0
IsNoCrash (Crash node) = ⊥
IsNoCrash _ = Unit {0}
