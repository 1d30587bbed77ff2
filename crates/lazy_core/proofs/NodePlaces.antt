-- Each node of the shape stands at its place among the states, and what is written there is written in the list of
-- its role.
use Rattle.std.proofs.Common.{◌≡◌, ℕ, zero, suc, ◌+◌, ◌<◌, List, [], ◌∷◌, Some, refl, sym, ap, subst, arith}
use Rattle.std.specs.Prelude.{slice_get, slice_set}
use Rattle.lazy_rules.specs.ClientState.{ClientState}
use Rattle.lazy_rules.specs.ControlState.{ControlState}
use Rattle.lazy_rules.specs.ReaderState.{ReaderState}
use Rattle.lazy_rules.specs.SeqState.{SeqState}
use Rattle.lazy_rules.specs.ShardState.{ShardState}
use Rattle.lazy_core.specs.declared.node_state.NodeState.{NodeState}
use Rattle.lazy_core.specs.declared.node_state.NodeState.TheVariants.{Seq, Shard, Client, Control}
use Rattle.lazy_core.specs.Standing.{AreNodes, AreSeqs, AreShards, clients_in, control_in, readers_in, seqs_in, shards_in}

-- the lists of all roles, of these states
pub record Roles : Type 0 where
  pub clients : List ClientState
  pub readers : List ReaderState
  pub control : ControlState
  pub seqs : List SeqState
  pub shards : List ShardState

abbrev pub roles_in : ControlState → List NodeState → Roles
roles_in none states = record {
  clients = clients_in states;
  readers = readers_in states;
  control = control_in none states;
  seqs = seqs_in states;
  shards = shards_in states;
}

-- a client stands at this place, and another state of it is written there
pub record ClientStands (none : ControlState) (states : List NodeState) (c : ℕ) : Type 0 where
  pub appends : ClientState
  pub reads : ReaderState
  pub here : slice_get states c ≡ Some (Client appends reads)
  pub as_client : slice_get (clients_in states) c ≡ Some appends
  pub as_reader : slice_get (readers_in states) c ≡ Some reads
  pub written : (a : ClientState) (r : ReaderState) → roles_in none (slice_set states c (Client a r)) ≡ record (roles_in none states) { clients = slice_set (clients_in states) c a; readers = slice_set (readers_in states) c r }

pub record ControlStands (none : ControlState) (states : List NodeState) (place : ℕ) : Type 0 where
  pub here : slice_get states place ≡ Some (Control (control_in none states))
  pub written : (k : ControlState) → roles_in none (slice_set states place (Control k)) ≡ record (roles_in none states) { control = k }

pub record SeqStands (none : ControlState) (states : List NodeState) (place i : ℕ) : Type 0 where
  pub seq : SeqState
  pub here : slice_get states place ≡ Some (Seq seq)
  pub as_seq : slice_get (seqs_in states) i ≡ Some seq
  pub written : (s : SeqState) → roles_in none (slice_set states place (Seq s)) ≡ record (roles_in none states) { seqs = slice_set (seqs_in states) i s }

pub record ShardStands (none : ControlState) (states : List NodeState) (place k : ℕ) : Type 0 where
  pub shard : ShardState
  pub here : slice_get states place ≡ Some (Shard shard)
  pub as_shard : slice_get (shards_in states) k ≡ Some shard
  pub written : (s : ShardState) → roles_in none (slice_set states place (Shard s)) ≡ record (roles_in none states) { shards = slice_set (shards_in states) k s }

-- one state more in front
abbrev pub with_client : ClientState → ReaderState → Roles → Roles
with_client a r roles = record roles { clients = a ∷ roles.clients; readers = r ∷ roles.readers }

abbrev pub with_seq : SeqState → Roles → Roles
with_seq s roles = record roles { seqs = s ∷ roles.seqs }

abbrev pub with_shard : ShardState → Roles → Roles
with_shard s roles = record roles { shards = s ∷ roles.shards }

abbrev pub with_control : ControlState → Roles → Roles
with_control k roles = record roles { control = k }

module _ (none : ControlState) where
  -- among shard replicas alone
  shard_among : (n : ℕ) (states : List NodeState) → AreShards n states → (k : ℕ) → k < n → ShardStands none states k k
  shard_among zero states laid k few = absurd (omega arith)
  shard_among (suc n) [] laid k few = absurd laid
  shard_among (suc n) (Seq s ∷ others) laid k few = absurd laid
  shard_among (suc n) (Client a r ∷ others) laid k few = absurd laid
  shard_among (suc n) (Control c ∷ others) laid k few = absurd laid
  shard_among (suc n) (Shard s ∷ others) laid zero few = record { shard = s; here = refl; as_shard = refl; written = λ x. refl }
  shard_among (suc n) (Shard s ∷ others) laid (suc k) few =
      let later = shard_among n others laid k (omega arith) in
      record { shard = later.shard; here = later.here; as_shard = later.as_shard; written = λ x. ap (with_shard s) (later.written x) }

  -- behind sequencing replicas
  shard_behind : (m n : ℕ) (states : List NodeState) → AreSeqs m n states → (place k : ℕ) → place ≡ m + k → k < n → ShardStands none states place k
  shard_behind zero n states laid place k at few =
      let same : place ≡ k = omega arith in
      subst (λ (p : ℕ). ShardStands none states p k) (sym same) (shard_among n states laid k few)
  shard_behind (suc m) n [] laid place k at few = absurd laid
  shard_behind (suc m) n (Shard s ∷ others) laid place k at few = absurd laid
  shard_behind (suc m) n (Client a r ∷ others) laid place k at few = absurd laid
  shard_behind (suc m) n (Control c ∷ others) laid place k at few = absurd laid
  shard_behind (suc m) n (Seq s ∷ others) laid zero k at few = absurd (omega arith)
  shard_behind (suc m) n (Seq s ∷ others) laid (suc place) k at few =
      let later = shard_behind m n others laid place k (omega arith) few in
      record { shard = later.shard; here = later.here; as_shard = later.as_shard; written = λ x. ap (with_seq s) (later.written x) }

  seq_among : (m n : ℕ) (states : List NodeState) → AreSeqs m n states → (i : ℕ) → i < m → SeqStands none states i i
  seq_among zero n states laid i few = absurd (omega arith)
  seq_among (suc m) n [] laid i few = absurd laid
  seq_among (suc m) n (Shard s ∷ others) laid i few = absurd laid
  seq_among (suc m) n (Client a r ∷ others) laid i few = absurd laid
  seq_among (suc m) n (Control c ∷ others) laid i few = absurd laid
  seq_among (suc m) n (Seq s ∷ others) laid zero few = record { seq = s; here = refl; as_seq = refl; written = λ x. refl }
  seq_among (suc m) n (Seq s ∷ others) laid (suc i) few =
      let later = seq_among m n others laid i (omega arith) in
      record { seq = later.seq; here = later.here; as_seq = later.as_seq; written = λ x. ap (with_seq s) (later.written x) }

  pub client_stands : (c m n : ℕ) (states : List NodeState) → AreNodes c m n states → (place : ℕ) → place < c → ClientStands none states place
  client_stands zero m n states laid place few = absurd (omega arith)
  client_stands (suc c) m n [] laid place few = absurd laid
  client_stands (suc c) m n (Seq s ∷ others) laid place few = absurd laid
  client_stands (suc c) m n (Shard s ∷ others) laid place few = absurd laid
  client_stands (suc c) m n (Control k ∷ others) laid place few = absurd laid
  client_stands (suc c) m n (Client a r ∷ others) laid zero few = record { appends = a; reads = r; here = refl; as_client = refl; as_reader = refl; written = λ x y. refl }
  client_stands (suc c) m n (Client a r ∷ others) laid (suc place) few =
      let later = client_stands c m n others laid place (omega arith) in
      record { appends = later.appends; reads = later.reads; here = later.here; as_client = later.as_client; as_reader = later.as_reader; written = λ x y. ap (with_client a r) (later.written x y) }

  pub control_stands : (c m n : ℕ) (states : List NodeState) → AreNodes c m n states → ControlStands none states c
  control_stands zero m n [] laid = absurd laid
  control_stands zero m n (Seq s ∷ others) laid = absurd laid
  control_stands zero m n (Shard s ∷ others) laid = absurd laid
  control_stands zero m n (Client a r ∷ others) laid = absurd laid
  control_stands zero m n (Control k ∷ others) laid = record { here = refl; written = λ x. refl }
  control_stands (suc c) m n [] laid = absurd laid
  control_stands (suc c) m n (Seq s ∷ others) laid = absurd laid
  control_stands (suc c) m n (Shard s ∷ others) laid = absurd laid
  control_stands (suc c) m n (Control k ∷ others) laid = absurd laid
  control_stands (suc c) m n (Client a r ∷ others) laid =
      let later = control_stands c m n others laid in
      record { here = later.here; written = λ x. ap (with_client a r) (later.written x) }

  pub seq_stands : (c m n : ℕ) (states : List NodeState) → AreNodes c m n states → (place i : ℕ) → place ≡ c + 1 + i → i < m → SeqStands none states place i
  seq_stands zero m n [] laid place i at few = absurd laid
  seq_stands zero m n (Seq s ∷ others) laid place i at few = absurd laid
  seq_stands zero m n (Shard s ∷ others) laid place i at few = absurd laid
  seq_stands zero m n (Client a r ∷ others) laid place i at few = absurd laid
  seq_stands zero m n (Control k ∷ others) laid zero i at few = absurd (omega arith)
  seq_stands zero m n (Control k ∷ others) laid (suc place) i at few =
      let same : place ≡ i = omega arith in
      let later = subst (λ (p : ℕ). SeqStands none others p i) (sym same) (seq_among m n others laid i few) in
      record { seq = later.seq; here = later.here; as_seq = later.as_seq; written = λ x. ap (with_control k) (later.written x) }
  seq_stands (suc c) m n [] laid place i at few = absurd laid
  seq_stands (suc c) m n (Seq s ∷ others) laid place i at few = absurd laid
  seq_stands (suc c) m n (Shard s ∷ others) laid place i at few = absurd laid
  seq_stands (suc c) m n (Control k ∷ others) laid place i at few = absurd laid
  seq_stands (suc c) m n (Client a r ∷ others) laid zero i at few = absurd (omega arith)
  seq_stands (suc c) m n (Client a r ∷ others) laid (suc place) i at few =
      let later = seq_stands c m n others laid place i (omega arith) few in
      record { seq = later.seq; here = later.here; as_seq = later.as_seq; written = λ x. ap (with_client a r) (later.written x) }

  pub shard_stands : (c m n : ℕ) (states : List NodeState) → AreNodes c m n states → (place k : ℕ) → place ≡ c + 1 + m + k → k < n → ShardStands none states place k
  shard_stands zero m n [] laid place k at few = absurd laid
  shard_stands zero m n (Seq s ∷ others) laid place k at few = absurd laid
  shard_stands zero m n (Shard s ∷ others) laid place k at few = absurd laid
  shard_stands zero m n (Client a r ∷ others) laid place k at few = absurd laid
  shard_stands zero m n (Control c ∷ others) laid zero k at few = absurd (omega arith)
  shard_stands zero m n (Control c ∷ others) laid (suc place) k at few =
      let later = shard_behind m n others laid place k (omega arith) few in
      record { shard = later.shard; here = later.here; as_shard = later.as_shard; written = λ x. ap (with_control c) (later.written x) }
  shard_stands (suc c) m n [] laid place k at few = absurd laid
  shard_stands (suc c) m n (Seq s ∷ others) laid place k at few = absurd laid
  shard_stands (suc c) m n (Shard s ∷ others) laid place k at few = absurd laid
  shard_stands (suc c) m n (Control x ∷ others) laid place k at few = absurd laid
  shard_stands (suc c) m n (Client a r ∷ others) laid zero k at few = absurd (omega arith)
  shard_stands (suc c) m n (Client a r ∷ others) laid (suc place) k at few =
      let later = shard_stands c m n others laid place k (omega arith) few in
      record { shard = later.shard; here = later.here; as_shard = later.as_shard; written = λ x. ap (with_client a r) (later.written x) }
