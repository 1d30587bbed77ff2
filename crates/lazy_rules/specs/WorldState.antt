use Rattle.std.specs.Prelude.{ℕ, ◌+◌, ◌*◌, ◌/◌, ◌%◌, List, [], map, replicate}
use Rattle.std.specs.List.{range_with_len}
use Rattle.rec_id.specs.declared.event.Event.{Event}
use Rattle.view_config.specs.Shape.{Dimensions}
use Rattle.lazy_msgs.specs.declared.msg.Envelope.{Envelope}
use Rattle.lazy_rules.specs.ClientState.{ClientState, first_client}
use Rattle.lazy_rules.specs.ControlState.{ControlState, first_control}
use Rattle.lazy_rules.specs.ReaderState.{ReaderState, first_reader}
use Rattle.lazy_rules.specs.SeqState.{SeqState, first_seq}
use Rattle.lazy_rules.specs.ShardState.{ShardState, first_shard}
use Rattle.view_config.specs.Nodes.{node_count}

-- a world: the states of its nodes, all messages ever sent, and what the clients did and were told
pub record WorldState : Type 0 where
  pub shape : Dimensions
  -- the two halves of each client: what it appends, and what it reads and trims
  pub clients : List ClientState
  pub readers : List ReaderState
  pub control : ControlState
  pub seqs : List SeqState
  -- the replicas of the first shard, then those of the next
  pub shards : List ShardState
  -- the Lamport time of each node, by its number
  pub times : List ℕ
  -- the crashed nodes
  pub crashed : List ℕ
  pub sent : List Envelope
  pub history : List Event
  -- how many events were accepted
  pub events : ℕ

-- where replica j of shard i stands among all
abbrev pub shard_place : Dimensions → ℕ → ℕ → ℕ
shard_place shape i j = i * shape.copies + j

-- the replica that stands at this place, at first
abbrev pub first_shard_at : Dimensions → ℕ → ShardState
first_shard_at shape k = first_shard shape (k / shape.copies) (k % shape.copies)

-- the world of a shape at first
abbrev pub first_world : Dimensions → WorldState
first_world shape = record {
  shape = shape;
  clients = map (first_client shape) (range_with_len 0 shape.clients);
  readers = map (first_reader shape) (range_with_len 0 shape.clients);
  control = first_control shape;
  seqs = map (first_seq shape) (range_with_len 0 (shape.seq + shape.spares));
  shards = map (first_shard_at shape) (range_with_len 0 (shape.shards * shape.copies));
  times = replicate node_count 0;
  crashed = [];
  sent = [];
  history = [];
  events = 0;
}
