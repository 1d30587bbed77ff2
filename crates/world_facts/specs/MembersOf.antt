use Rattle.world_facts.specs.Members.{IsNamed, IsSeqNode, IsShardNode, Goes}
use Rattle.lazy_rules.specs.Flight.{Probe}
use Rattle.lazy_rules.specs.ShardState.{Backup, FlushJob, PlaceJob, ShardState}
use Rattle.view_config.specs.declared.nodes.TheConstants.{CONTROLLER}
use Rattle.lazy_rules.specs.ClientState.{ClientState}
use Rattle.lazy_rules.specs.ControlState.{ControlState, Flushing, Phase, Running, Sealing}
use Rattle.view_config.specs.Shape.{Dimensions}
use Rattle.list_facts.specs.Lists.{Each}
use Rattle.lazy_rules.specs.ReaderState.{ReaderState}
use Rattle.lazy_rules.specs.SeqState.{SeqState}
use Rattle.lazy_rules.specs.WorldState.{WorldState}
use Rattle.view_config.specs.Nodes.{seq_id, shard_id}
use Rattle.std.specs.Prelude.{◌≡◌, ◌<◌, ℕ, Option, Some, slice_get, None, ◌/◌, ◌%◌}

-- What each node has of its shape, and who sends what to whom.

-- client c, the half that appends and the one that reads
pub record ClientOf (shape : Dimensions) (c : ℕ) (s : ClientState) : Type 0 where
  pub shaped : s.shape ≡ shape
  pub numbered : s.client ≡ c
  pub config : IsNamed shape s.config

pub record ReaderOf (shape : Dimensions) (c : ℕ) (r : ReaderState) : Type 0 where
  pub shaped : r.shape ≡ shape
  pub numbered : r.client ≡ c
  pub config : IsNamed shape r.config

-- each configuration of a phase names nodes of the shape
abbrev pub PhaseNamed : Dimensions → Phase → Type 0
PhaseNamed shape (Running reign) = IsNamed shape reign.config
PhaseNamed shape (Sealing change) = IsNamed shape change.old × IsNamed shape change.coming
PhaseNamed shape (Flushing taken) = IsNamed shape taken.config

pub record ControlOf (shape : Dimensions) (k : ControlState) : Type 0 where
  pub shaped : k.shape ≡ shape
  pub spares : Each (IsSeqNode shape) k.spares
  pub phase : PhaseNamed shape k.phase

-- sequencing replica i
pub record SeqOf (shape : Dimensions) (i : ℕ) (s : SeqState) : Type 0 where
  pub shaped : s.shape ≡ shape
  pub numbered : s.node ≡ seq_id i
  pub config : IsNamed shape s.config
  pub probes : Each (λ (probe : Probe). probe.client < shape.clients) s.probes

-- who awaits the answer to a flush
abbrev pub FlushOf : Option FlushJob → Type 0
FlushOf None = Unit {0}
FlushOf (Some job) = job.asker ≡ CONTROLLER

-- replica j of shard i
pub record ShardOf (shape : Dimensions) (i j : ℕ) (s : ShardState) : Type 0 where
  pub shaped : s.shape ≡ shape
  pub numbered : s.node ≡ shard_id i j
  pub backups : Each (λ (backup : Backup). IsShardNode shape backup.node) s.backups
  pub jobs : Each (λ (job : PlaceJob). IsSeqNode shape job.asker) s.jobs
  pub flush : FlushOf s.flush

-- each node is one of the shape, with its own number, and each message goes where its kind is due
pub record HasMembers (shape : Dimensions) (w : WorldState) : Type 0 where
  pub clients : (c : ℕ) (s : ClientState) → slice_get w.clients c ≡ Some s → ClientOf shape c s
  pub readers : (c : ℕ) (r : ReaderState) → slice_get w.readers c ≡ Some r → ReaderOf shape c r
  pub control : ControlOf shape w.control
  pub seqs : (i : ℕ) (s : SeqState) → slice_get w.seqs i ≡ Some s → SeqOf shape i s
  pub shards : (k : ℕ) (s : ShardState) → slice_get w.shards k ≡ Some s → ShardOf shape (k / shape.copies) (k % shape.copies) s
  pub sent : Each (λ e. Goes shape e.from e.to e.msg) w.sent
