use Rattle.std.specs.Prelude.{◌≡◌, ℕ, List, [], length, true, Option, Some, None, slice_get, slice_range}
use Rattle.std.specs.Option.{option_map}
use Rattle.rec_id.specs.Identity.{Identity}
use Rattle.view_config.specs.declared.edition.Edition.TheVariants.{Two}
use Rattle.view_config.specs.declared.nodes.Node.{Node}
use Rattle.view_config.specs.declared.nodes.Node.TheVariants.{Client, Controller, Seq, Shard}
use Rattle.view_config.specs.Shape.{Dimensions, node_of}
use Rattle.lazy_msgs.specs.declared.input.Input.{Input}
use Rattle.lazy_msgs.specs.declared.input.Input.TheVariants.{Take, Tick, Grace, Crash, Post, Ask, Trim, Suspect}
use Rattle.lazy_msgs.specs.Step.{Row}
use Rattle.lazy_rules.specs.ClientNode.{ClientNode, client_node_step}
use Rattle.lazy_rules.specs.ClientRules.{post_refusal}
use Rattle.lazy_rules.specs.ControlRules.{control_step, suspect_refusal}
use Rattle.lazy_rules.specs.ControlState.{ControlState}
use Rattle.lazy_rules.specs.Door.{is_node}
use Rattle.lazy_rules.specs.ReaderRules.{begin_refusal, trim_refusal}
use Rattle.lazy_rules.specs.SeqRules.{seq_step}
use Rattle.lazy_rules.specs.SeqState.{SeqState}
use Rattle.lazy_rules.specs.ShardRules.{shard_step}
use Rattle.lazy_rules.specs.ShardState.{ShardState}
use Rattle.lazy_rules.specs.WorldRules.{client_node, ids_in}
use Rattle.lazy_rules.specs.WorldState.{WorldState, first_world, shard_place}
use Rattle.diary_laws.specs.Machines.{Machine}

-- The nodes of a world, whatever their roles, as one machine.

pub data NodeState : Type 0 where
  OfClient : ClientNode → NodeState
  OfControl : ControlState → NodeState
  OfSeq : SeqState → NodeState
  OfShard : ShardState → NodeState

-- the state of a node of this role in a world, and of the node of this number
abbrev pub state_of : WorldState → Option Node → Option NodeState
state_of w (Some (Client c)) = option_map OfClient (client_node w c)
state_of w (Some Controller) = Some (OfControl w.control)
state_of w (Some (Seq i)) = option_map OfSeq (slice_get w.seqs i)
state_of w (Some (Shard i j)) = option_map OfShard (slice_get w.shards (shard_place w.shape i j))
state_of w None = None

abbrev pub state_at : WorldState → ℕ → Option NodeState
state_at w node = state_of w (node_of w.shape node)

-- the rule of each role
abbrev pub as_row : {S : Type 0} → (S → NodeState) → Row S → Row NodeState
as_row wrap row = record { next = wrap row.next; sends = row.sends; events = row.events }

abbrev pub node_step : NodeState → Input → Row NodeState
node_step (OfClient n) input = as_row OfClient (client_node_step n input)
node_step (OfControl k) input = as_row OfControl (control_step k input)
node_step (OfSeq s) input = as_row OfSeq (seq_step s input)
node_step (OfShard s) input = as_row OfShard (shard_step s input)

-- the inputs that a run gives to each role, where the node's own call doesn't refuse them: a client trims in edition
-- Two alone, the controller doesn't crash, and it suspects nodes of the shape
abbrev pub ClientAllows : Dimensions → ClientNode → Input → Type 0
ClientAllows shape n (Post bytes) = post_refusal n.appends (length bytes) ≡ None
ClientAllows shape n (Ask ask) = begin_refusal n.reads ask ≡ None
ClientAllows shape n (Trim floor) = (shape.edition ≡ Two) × (trim_refusal n.reads floor ≡ None)
ClientAllows shape n (Suspect node) = ⊥
ClientAllows shape n _ = Unit {0}

abbrev pub ControlAllows : Dimensions → ControlState → Input → Type 0
ControlAllows shape k (Take envelope) = Unit {0}
ControlAllows shape k Tick = Unit {0}
ControlAllows shape k Grace = Unit {0}
ControlAllows shape k (Suspect node) = (is_node shape node ≡ true) × (suspect_refusal k node ≡ None)
ControlAllows shape k _ = ⊥

abbrev pub ReplicaAllows : Input → Type 0
ReplicaAllows (Take envelope) = Unit {0}
ReplicaAllows Tick = Unit {0}
ReplicaAllows Grace = Unit {0}
ReplicaAllows Crash = Unit {0}
ReplicaAllows _ = ⊥

abbrev pub NodeAllows : Dimensions → NodeState → Input → Type 0
NodeAllows shape (OfClient n) input = ClientAllows shape n input
NodeAllows shape (OfControl k) input = ControlAllows shape k input
NodeAllows shape (OfSeq s) input = ReplicaAllows input
NodeAllows shape (OfShard s) input = ReplicaAllows input

-- the identities in the order of a shard replica at [from, to)
abbrev pub ids_of : NodeState → ℕ → ℕ → List Identity
ids_of (OfShard s) from to = ids_in (slice_range s.store.order from to)
ids_of _ from to = []

-- each node begins as in the first world of the shape
abbrev pub nodes_of_shape : Dimensions → Machine
nodes_of_shape shape = record {
  State = NodeState;
  first = state_at (first_world shape);
  step = node_step;
  Allows = NodeAllows shape;
  ids = ids_of;
}
