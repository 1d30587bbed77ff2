use Rattle.lazy_msgs.specs.declared.input.Input.{Input}
use Rattle.lazy_msgs.specs.Step.{Row}
use Rattle.lazy_rules.specs.ClientNode.{ClientNode, client_node_step}
use Rattle.lazy_rules.specs.ClientState.{ClientState}
use Rattle.lazy_rules.specs.ControlRules.{control_step}
use Rattle.lazy_rules.specs.ReaderState.{ReaderState}
use Rattle.lazy_rules.specs.SeqRules.{seq_step}
use Rattle.lazy_rules.specs.ShardRules.{shard_step}
use Rattle.lazy_core.specs.declared.node_state.NodeState.{NodeState}
use Rattle.lazy_core.specs.declared.node_state.NodeState.TheVariants.{Seq, Shard, Client, Control}

-- The step of a node of any role.

-- a client's node, of its two halves
abbrev pub halves_of : ClientState → ReaderState → ClientNode
halves_of appends reads = record { appends = appends; reads = reads }

abbrev pub client_of : ClientNode → NodeState
client_of n = Client n.appends n.reads

-- a row of one role, as one of a node
abbrev pub as_node : {S : Type 0} → (S → NodeState) → Row S → Row NodeState
as_node into row = record { next = into row.next; sends = row.sends; events = row.events }

abbrev pub node_step : NodeState → Input → Row NodeState
node_step (Seq s) input = as_node Seq (seq_step s input)
node_step (Shard s) input = as_node Shard (shard_step s input)
node_step (Client appends reads) input = as_node client_of (client_node_step (halves_of appends reads) input)
node_step (Control k) input = as_node Control (control_step k input)
