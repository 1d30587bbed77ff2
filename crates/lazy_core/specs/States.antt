use Rattle.std.specs.Prelude.{ℕ, Option, Some, None, slice_get, slice_set}
use Rattle.view_config.specs.declared.nodes.Node.{Node}
use Rattle.view_config.specs.declared.nodes.Node.TheVariants.{Client as ClientNode, Controller, Seq as SeqNode, Shard as ShardNode}
use Rattle.lazy_msgs.specs.Step.{Row}
use Rattle.lazy_rules.specs.ClientNode.{ClientNode as Halves}
use Rattle.lazy_rules.specs.SeqState.{SeqState}
use Rattle.lazy_rules.specs.ShardState.{ShardState}
use Rattle.lazy_rules.specs.WorldRules.{client_node, stepped, with_client_node}
use Rattle.lazy_rules.specs.WorldState.{WorldState, shard_place}
use Rattle.lazy_core.specs.declared.node_state.NodeState.{NodeState}
use Rattle.lazy_core.specs.declared.node_state.NodeState.TheVariants.{Seq, Shard, Client, Control}
use Rattle.lazy_core.specs.NodeStep.{client_of, halves_of}

-- A node of a world, by its role.

-- the state of a node in a world
abbrev pub client_there : Option Halves → Option NodeState
client_there None = None
client_there (Some n) = Some (client_of n)

abbrev pub seq_there : Option SeqState → Option NodeState
seq_there None = None
seq_there (Some s) = Some (Seq s)

abbrev pub shard_there : Option ShardState → Option NodeState
shard_there None = None
shard_there (Some s) = Some (Shard s)

abbrev pub state_at : WorldState → Node → Option NodeState
state_at w (ClientNode c) = client_there (client_node w c)
state_at w Controller = Some (Control w.control)
state_at w (SeqNode i) = seq_there (slice_get w.seqs i)
state_at w (ShardNode i j) = shard_there (slice_get w.shards (shard_place w.shape i j))

-- the world in which the node of this role has this state, where it is one of the role
abbrev pub set_client : WorldState → ℕ → NodeState → WorldState
set_client w c (Client appends reads) = with_client_node w c (halves_of appends reads)
set_client w c (Seq s) = w
set_client w c (Shard s) = w
set_client w c (Control k) = w

abbrev pub set_control : WorldState → NodeState → WorldState
set_control w (Control k) = record w { control = k }
set_control w (Client appends reads) = w
set_control w (Seq s) = w
set_control w (Shard s) = w

abbrev pub set_seq : WorldState → ℕ → NodeState → WorldState
set_seq w i (Seq s) = record w { seqs = slice_set w.seqs i s }
set_seq w i (Client appends reads) = w
set_seq w i (Shard s) = w
set_seq w i (Control k) = w

abbrev pub set_shard : WorldState → ℕ → NodeState → WorldState
set_shard w place (Shard s) = record w { shards = slice_set w.shards place s }
set_shard w place (Client appends reads) = w
set_shard w place (Seq s) = w
set_shard w place (Control k) = w

abbrev pub set_state : WorldState → Node → NodeState → WorldState
set_state w (ClientNode c) state = set_client w c state
set_state w Controller state = set_control w state
set_state w (SeqNode i) state = set_seq w i state
set_state w (ShardNode i j) state = set_shard w (shard_place w.shape i j) state

-- the world after a step of the node of this role, whose number is `node`
abbrev pub node_did : WorldState → Node → ℕ → ℕ → Row NodeState → WorldState
node_did w role node received row = stepped (set_state w role row.next) node received row.sends row.events
