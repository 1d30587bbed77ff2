use Rattle.std.specs.Prelude.{◌≡◌, ◌<◌, ◌≤◌, ◌+◌, ℕ, List, length}
use Rattle.list_facts.specs.Lists.{Each}
use Rattle.view_config.specs.Nodes.{seq_id, shard_id}
use Rattle.view_config.specs.Shape.{Dimensions}
use Rattle.view_config.specs.declared.config.Config.{Config}
use Rattle.view_config.specs.declared.nodes.TheConstants.{BOARD, CONTROLLER}
use Rattle.lazy_msgs.specs.declared.msg.Msg.{Msg}
use Rattle.lazy_msgs.specs.declared.msg.Msg.TheVariants.{Append, AppendAck, Put, DataAck, Rejected, Place, Placed, Copy, Copied, Order, Ordered, Stable, Probe, ProbeAck, TailReady, Fetch, Part, Flush, FlushCopy, Flushed, Seal, Sealed, SealedEmpty, NewView, Started, AskView, ViewIs, Claim, Trim, TrimAck, TrimmedAt}

-- the node is a client of the shape, a sequencing replica, a shard replica
abbrev pub IsClientNode : Dimensions → ℕ → Type 0
IsClientNode shape node = node < shape.clients

pub record IsSeqNode (shape : Dimensions) (node : ℕ) : Type 0 where
  pub place : ℕ
  pub few : place < shape.seq + shape.spares
  pub is : node ≡ seq_id place

pub record IsShardNode (shape : Dimensions) (node : ℕ) : Type 0 where
  pub shard : ℕ
  pub copy : ℕ
  pub row : shard < shape.shards
  pub column : copy < shape.copies
  pub is : node ≡ shard_id shard copy

-- a shard's replicas
pub record IsGroup (shape : Dimensions) (nodes : List ℕ) : Type 0 where
  pub some : 1 ≤ length nodes
  pub few : length nodes ≤ shape.copies
  pub each : Each (IsShardNode shape) nodes

-- a configuration names nodes of the shape: some sequencing replicas, and some replicas of each shard
pub record IsNamed (shape : Dimensions) (config : Config) : Type 0 where
  pub view : 1 ≤ config.view
  pub some : 1 ≤ length config.seq
  pub few : length config.seq ≤ shape.seq
  pub seq : Each (IsSeqNode shape) config.seq
  pub count : length config.shards ≡ shape.shards
  pub shards : Each (IsGroup shape) config.shards

-- who sends a message to whom
abbrev pub Goes : Dimensions → ℕ → ℕ → Msg → Type 0
Goes shape sender to (Append view id bytes) = IsClientNode shape sender × IsSeqNode shape to × (id.client ≡ sender)
Goes shape sender to (AppendAck view id) = IsSeqNode shape sender × IsClientNode shape to × (id.client ≡ to)
Goes shape sender to (Put id bytes) = IsClientNode shape sender × IsShardNode shape to × (id.client ≡ sender)
Goes shape sender to (DataAck view id) = IsShardNode shape sender × IsClientNode shape to × (id.client ≡ to)
Goes shape sender to (Rejected id place) = IsShardNode shape sender × IsClientNode shape to × (id.client ≡ to)
Goes shape sender to (Place view from items) = IsSeqNode shape sender × IsShardNode shape to
Goes shape sender to (Placed view upto) = IsShardNode shape sender × IsSeqNode shape to
Goes shape sender to (Copy view from cells) = IsShardNode shape sender × IsShardNode shape to
Goes shape sender to (Copied view upto) = IsShardNode shape sender × IsShardNode shape to
Goes shape sender to (Order view from ids) = IsSeqNode shape sender × IsSeqNode shape to
Goes shape sender to (Ordered view upto) = IsSeqNode shape sender × IsSeqNode shape to
Goes shape sender to (Stable view upto) = IsSeqNode shape sender × IsShardNode shape to
Goes shape sender to (Probe view read) = IsClientNode shape sender × IsSeqNode shape to
Goes shape sender to (ProbeAck view read) = IsSeqNode shape sender × IsClientNode shape to
Goes shape sender to (TailReady view read tail) = IsSeqNode shape sender × IsClientNode shape to
Goes shape sender to (Fetch read from end) = IsClientNode shape sender × IsShardNode shape to
Goes shape sender to (Part read from end entries) = IsShardNode shape sender × IsClientNode shape to
Goes shape sender to (Flush config from items) = (sender ≡ CONTROLLER) × IsShardNode shape to × IsNamed shape config
Goes shape sender to (FlushCopy view from cells) = IsShardNode shape sender × IsShardNode shape to
Goes shape sender to (Flushed view) = IsShardNode shape sender × (to ≡ CONTROLLER)
Goes shape sender to (Seal view) = (sender ≡ CONTROLLER) × IsSeqNode shape to
Goes shape sender to (Sealed view bound window items) = IsSeqNode shape sender × (to ≡ CONTROLLER)
Goes shape sender to (SealedEmpty view) = IsSeqNode shape sender × (to ≡ CONTROLLER)
Goes shape sender to (NewView config base window) = (sender ≡ CONTROLLER) × IsSeqNode shape to × IsNamed shape config
Goes shape sender to (Started view) = IsSeqNode shape sender × (to ≡ CONTROLLER)
Goes shape sender to AskView = IsClientNode shape sender × (to ≡ CONTROLLER)
Goes shape sender to (ViewIs config) = (sender ≡ CONTROLLER) × IsClientNode shape to × IsNamed shape config
Goes shape sender to (Claim stable) = IsShardNode shape sender × (to ≡ BOARD)
Goes shape sender to (Trim read floor) = IsClientNode shape sender × IsShardNode shape to
Goes shape sender to (TrimAck read) = IsShardNode shape sender × IsClientNode shape to
Goes shape sender to (TrimmedAt read floor) = IsShardNode shape sender × IsClientNode shape to
