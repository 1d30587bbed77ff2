use Rattle.std.specs.Prelude.{ℕ, zero, suc, ◌+◌, ◌*◌, List, [], ◌∷◌, ◌++◌, map, Option, option_and_then, slice_get, slice_set}
use Rattle.std.specs.List.{range_with_len}
use Rattle.std.specs.Option.{option_map}
use Rattle.view_config.specs.declared.nodes.Node.{Node}
use Rattle.view_config.specs.declared.nodes.Node.TheVariants.{Client as ClientNode, Controller, Seq as SeqNode, Shard as ShardNode}
use Rattle.view_config.specs.Shape.{Dimensions, node_of}
use Rattle.lazy_msgs.specs.Step.{Row}
use Rattle.lazy_rules.specs.ClientState.{ClientState, first_client}
use Rattle.lazy_rules.specs.ControlState.{ControlState, first_control}
use Rattle.lazy_rules.specs.ReaderState.{ReaderState, first_reader}
use Rattle.lazy_rules.specs.SeqState.{SeqState, first_seq}
use Rattle.lazy_rules.specs.ShardState.{ShardState}
use Rattle.lazy_rules.specs.WorldState.{WorldState, first_shard_at, shard_place}
use Rattle.lazy_core.specs.declared.node_state.NodeState.{NodeState}
use Rattle.lazy_core.specs.declared.node_state.NodeState.TheVariants.{Seq, Shard, Client, Control}

-- The states of all nodes, each at its place, and the crashed nodes: how a world stands.

pub record Standing : Type 0 where
  pub shape : Dimensions
  pub states : List NodeState
  pub crashed : List ℕ

-- the nodes of each role, in their order
abbrev pub clients_in : List NodeState → List ClientState
clients_in [] = []
clients_in (Client appends reads ∷ others) = appends ∷ clients_in others
clients_in (Seq s ∷ others) = clients_in others
clients_in (Shard s ∷ others) = clients_in others
clients_in (Control k ∷ others) = clients_in others

abbrev pub readers_in : List NodeState → List ReaderState
readers_in [] = []
readers_in (Client appends reads ∷ others) = reads ∷ readers_in others
readers_in (Seq s ∷ others) = readers_in others
readers_in (Shard s ∷ others) = readers_in others
readers_in (Control k ∷ others) = readers_in others

abbrev pub seqs_in : List NodeState → List SeqState
seqs_in [] = []
seqs_in (Client appends reads ∷ others) = seqs_in others
seqs_in (Seq s ∷ others) = s ∷ seqs_in others
seqs_in (Shard s ∷ others) = seqs_in others
seqs_in (Control k ∷ others) = seqs_in others

abbrev pub shards_in : List NodeState → List ShardState
shards_in [] = []
shards_in (Client appends reads ∷ others) = shards_in others
shards_in (Seq s ∷ others) = shards_in others
shards_in (Shard s ∷ others) = s ∷ shards_in others
shards_in (Control k ∷ others) = shards_in others

-- the controller, which is this one where there is none
abbrev pub control_in : ControlState → List NodeState → ControlState
control_in none [] = none
control_in none (Client appends reads ∷ others) = control_in none others
control_in none (Seq s ∷ others) = control_in none others
control_in none (Shard s ∷ others) = control_in none others
control_in none (Control k ∷ others) = k

-- a world that stands so, in which nothing was sent or told
abbrev pub world_of_standing : Standing → WorldState
world_of_standing s = record {
  shape = s.shape;
  clients = clients_in s.states;
  readers = readers_in s.states;
  control = control_in (first_control s.shape) s.states;
  seqs = seqs_in s.states;
  shards = shards_in s.states;
  times = [];
  crashed = s.crashed;
  sent = [];
  history = [];
  events = 0;
}

-- so many shard replicas, and before them so many sequencing replicas, the controller and so many clients, and no
-- more
abbrev pub AreShards : ℕ → List NodeState → Type 0
AreShards zero [] = Unit {0}
AreShards (suc n) (Shard s ∷ others) = AreShards n others
AreShards _ _ = ⊥

abbrev pub AreSeqs : ℕ → ℕ → List NodeState → Type 0
AreSeqs zero shards states = AreShards shards states
AreSeqs (suc n) shards (Seq s ∷ others) = AreSeqs n shards others
AreSeqs (suc n) shards _ = ⊥

abbrev pub AreNodes : ℕ → ℕ → ℕ → List NodeState → Type 0
AreNodes zero seqs shards (Control k ∷ others) = AreSeqs seqs shards others
AreNodes (suc n) seqs shards (Client appends reads ∷ others) = AreNodes n seqs shards others
AreNodes _ seqs shards _ = ⊥

-- each node of the shape stands at its place
abbrev pub IsLaid : Dimensions → List NodeState → Type 0
IsLaid shape states = AreNodes shape.clients (shape.seq + shape.spares) (shape.shards * shape.copies) states

-- the place of a node among all
abbrev pub place_at : Dimensions → Node → ℕ
place_at shape (ClientNode c) = c
place_at shape Controller = shape.clients
place_at shape (SeqNode i) = shape.clients + 1 + i
place_at shape (ShardNode i j) = shape.clients + 1 + shape.seq + shape.spares + shard_place shape i j

abbrev pub place_of : Dimensions → ℕ → Option ℕ
place_of shape number = option_map (place_at shape) (node_of shape number)

-- the state of the node of this number
abbrev pub state_of : Dimensions → List NodeState → ℕ → Option NodeState
state_of shape states number = option_and_then (slice_get states) (place_of shape number)

-- the states of all nodes at first
abbrev pub first_client_node : Dimensions → ℕ → NodeState
first_client_node shape c = Client (first_client shape c) (first_reader shape c)

abbrev pub first_states : Dimensions → List NodeState
first_states shape =
    map (first_client_node shape) (range_with_len 0 shape.clients)
    ++ Control (first_control shape)
    ∷ (map (λ i. Seq (first_seq shape i)) (range_with_len 0 (shape.seq + shape.spares))
    ++ map (λ k. Shard (first_shard_at shape k)) (range_with_len 0 (shape.shards * shape.copies)))

-- a step of the node at a place, as one of all
abbrev pub with_state : Standing → ℕ → NodeState → Standing
with_state s place state = record s { states = slice_set s.states place state }

abbrev pub at_place : Standing → ℕ → Row NodeState → Row Standing
at_place s place row = record { next = with_state s place row.next; sends = row.sends; events = row.events }
