use Rattle.std.specs.Prelude.{◌≡◌, ◌<◌, ℕ, ◌-◌, ◌/◌, List, [], ◌++◌, false, unwrap_or, slice_get}
use Rattle.list_facts.specs.Lists.{Each, put}
use Rattle.rec_id.specs.declared.event.Event.{Event}
use Rattle.view_config.specs.Shape.{Dimensions, node_of}
use Rattle.view_config.specs.declared.limits.TheConstants.{MAX_COPIES}
use Rattle.view_config.specs.declared.nodes.TheConstants.{FIRST_SHARD}
use Rattle.lazy_rules.specs.ClientNode.{ClientNode}
use Rattle.lazy_rules.specs.ClientState.{ClientState, first_client}
use Rattle.lazy_rules.specs.ControlState.{ControlState}
use Rattle.lazy_rules.specs.Flight.{Probe}
use Rattle.lazy_rules.specs.Holders.{seq_numbered}
use Rattle.lazy_rules.specs.Lines.{shard_at}
use Rattle.lazy_rules.specs.ReaderState.{ReaderState, first_reader}
use Rattle.lazy_rules.specs.SeqState.{SeqState, first_seq}
use Rattle.lazy_rules.specs.ShardState.{Backup, PlaceJob, ShardState, first_shard}
use Rattle.lazy_rules.specs.Store.{new_store}
use Rattle.lazy_rules.specs.WorldState.{WorldState}
use Rattle.world_facts.specs.Members.{IsNamed, IsSeqNode, IsShardNode}
use Rattle.world_facts.specs.MembersOf.{ClientOf, ReaderOf, ControlOf, FlushOf}

-- A world without its messages, its nodes by their numbers. A number that the shape gives to no node of a role is
-- one of view 0 there, which does and says nothing.

pub record Parts : Type 0 where
  pub history : List Event
  pub clients : ℕ → ClientState
  pub readers : ℕ → ReaderState
  pub control : ControlState
  pub seqs : ℕ → SeqState
  pub shards : ℕ → ShardState

-- the shard whose replica a node of this number is
abbrev pub home_of : ℕ → ℕ
home_of node = (node - FIRST_SHARD) / MAX_COPIES

-- what stands for a replica that isn't there
abbrev pub no_seq : Dimensions → ℕ → SeqState
no_seq shape node = record (first_seq shape shape.seq) { node = node }

abbrev pub no_shard : Dimensions → ℕ → ShardState
no_shard shape node = record (first_shard shape 0 0) {
  node = node;
  view = 0;
  primary = false;
  backups = [];
  store = new_store shape.mode (home_of node) shape.shards;
}

-- the parts of a world
abbrev pub parts_of : WorldState → Parts
parts_of w = record {
  history = w.history;
  clients = λ c. unwrap_or (slice_get w.clients c) (first_client w.shape c);
  readers = λ c. unwrap_or (slice_get w.readers c) (first_reader w.shape c);
  control = w.control;
  seqs = λ node. unwrap_or (seq_numbered w node) (no_seq w.shape node);
  shards = λ node. unwrap_or (shard_at w (node_of w.shape node)) (no_shard w.shape node);
}

-- the parts with one node changed, and with what it told
abbrev pub with_seq : Parts → ℕ → SeqState → Parts
with_seq a node s = record a { seqs = put a.seqs node s }

abbrev pub with_shard : Parts → ℕ → ShardState → Parts
with_shard a node s = record a { shards = put a.shards node s }

abbrev pub with_control : Parts → ControlState → Parts
with_control a k = record a { control = k }

abbrev pub with_client : Parts → ℕ → ClientState → List Event → Parts
with_client a c s told = record a { clients = put a.clients c s; history = a.history ++ told }

abbrev pub with_reader : Parts → ℕ → ReaderState → List Event → Parts
with_reader a c r told = record a { readers = put a.readers c r; history = a.history ++ told }

-- a client's node is both of its halves
abbrev pub with_node : Parts → ℕ → ClientNode → List Event → Parts
with_node a c n told = record a {
  clients = put a.clients c n.appends;
  readers = put a.readers c n.reads;
  history = a.history ++ told;
}

-- what every node has of its shape, whatever happened
pub record SeqFormed (shape : Dimensions) (node : ℕ) (s : SeqState) : Type 0 where
  pub shaped : s.shape ≡ shape
  pub numbered : s.node ≡ node
  pub config : IsNamed shape s.config
  pub probes : Each (λ (probe : Probe). probe.client < shape.clients) s.probes

pub record ShardFormed (shape : Dimensions) (node : ℕ) (s : ShardState) : Type 0 where
  pub shaped : s.shape ≡ shape
  pub numbered : s.node ≡ node
  pub backups : Each (λ (backup : Backup). IsShardNode shape backup.node) s.backups
  pub jobs : Each (λ (job : PlaceJob). IsSeqNode shape job.asker) s.jobs
  pub flush : FlushOf s.flush

pub record Formed (shape : Dimensions) (a : Parts) : Type 0 where
  pub clients : (c : ℕ) → ClientOf shape c (a.clients c)
  pub readers : (c : ℕ) → ReaderOf shape c (a.readers c)
  pub control : ControlOf shape a.control
  pub seqs : (node : ℕ) → SeqFormed shape node (a.seqs node)
  pub shards : (node : ℕ) → ShardFormed shape node (a.shards node)
