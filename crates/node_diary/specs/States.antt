use Rattle.std.specs.Prelude.{◌≡◌, ℕ, false, Option, Some, None}
use Rattle.std.specs.Option.{is_none}
use Rattle.view_config.specs.Shape.{Dimensions, IsShape, node_of}
use Rattle.view_config.specs.declared.nodes.Node.{Node}
use Rattle.view_config.specs.declared.nodes.Node.TheVariants.{Client as ClientRole, Controller, Seq as SeqRole, Shard as ShardRole}
use Rattle.lazy_rules.specs.ClientState.{first_client}
use Rattle.lazy_rules.specs.ControlState.{first_control}
use Rattle.lazy_rules.specs.ReaderState.{first_reader}
use Rattle.lazy_rules.specs.SeqState.{first_seq}
use Rattle.lazy_rules.specs.ShardState.{first_shard}
use Rattle.lazy_rules.specs.WorldState.{first_world}
use Rattle.diary_laws.specs.Nodes.{NodeState as LawState, OfClient, OfControl, OfSeq, OfShard, state_at}
use Rattle.lazy_core.specs.declared.node_state.NodeState.{NodeState}
use Rattle.lazy_core.specs.declared.node_state.NodeState.TheVariants.{Seq, Shard, Client, Control}
use Rattle.lazy_core.specs.NodeStep.{halves_of}

-- The state of a node in code, as the laws on diaries have it.

abbrev pub law_state : NodeState → LawState
law_state (Seq s) = OfSeq s
law_state (Shard s) = OfShard s
law_state (Client appends reads) = OfClient (halves_of appends reads)
law_state (Control k) = OfControl k

-- the node of this number has this state at first, in this shape
pub record Begins (shape : Dimensions) (node : ℕ) (state : NodeState) : Type 0 where
  pub formed : IsShape shape
  pub first : state_at (first_world shape) node ≡ Some (law_state state)

-- the first state of the node of a number, the controller's where there is none
abbrev pub first_of : Dimensions → Option Node → NodeState
first_of shape (Some (ClientRole c)) = Client (first_client shape c) (first_reader shape c)
first_of shape (Some Controller) = Control (first_control shape)
first_of shape (Some (SeqRole i)) = Seq (first_seq shape i)
first_of shape (Some (ShardRole i j)) = Shard (first_shard shape i j)
first_of shape None = Control (first_control shape)

abbrev pub first_at : Dimensions → ℕ → NodeState
first_at shape node = first_of shape (node_of shape node)

-- the shape has this node
pub record HasNode (shape : Dimensions) (node : ℕ) : Type 0 where
  pub has : is_none (node_of shape node) ≡ false

-- the same in some shape
pub record BeginsSomewhere (node : ℕ) (state : NodeState) : Type 0 where
  pub shape : Dimensions
  pub begins : Begins shape node state
