use Rattle.std.specs.Prelude.{◌≡◌, ◌<◌, ◌≤◌, ℕ, ◌+◌, List, [], ◌∷◌, length, take, true, false, Some, slice_get}
use Rattle.list_facts.specs.Lists.{In, Each}
use Rattle.rec_id.specs.declared.event.Event.{Event}
use Rattle.view_config.specs.Shape.{Dimensions}
use Rattle.world_facts.specs.SizesOf.{AreFlying}
use Rattle.lazy_rules.specs.Flight.{Batch, Probe, batch_end, has_all}
use Rattle.lazy_rules.specs.Roles.{followers_of}
use Rattle.lazy_rules.specs.SeqRules.{is_leader}
use Rattle.lazy_rules.specs.SeqState.{SeqState}
use Rattle.lazy_rules.specs.ShardState.{ShardState}
use Rattle.log_facts.specs.Finality.{line_ids, AllSettledIn, BarredOrCovered, IsShut}
use Rattle.log_facts.specs.Ghosts.{Views, Log, Probed, IsStarted}
use Rattle.log_facts.specs.Past.{HasBegun}
use Rattle.log_facts.specs.Says.{OrderedSays}
use Rattle.log_facts.specs.facts.OfLine.{IsWhole}

-- Of sequencing replicas: what each has of itself, of its own view be it old or new, and what they have of each other.

-- ---- what one replica has

-- a replica is a member of the view that it took
pub record JoinedFacts (v : Views) (node : ℕ) (s : SeqState) : Type 0 where
  pub started : IsStarted v s.view
  pub member : In node (v.cf s.view).seq
  pub config : s.config ≡ v.cf s.view

-- no batch that is being placed comes before one that is being ordered
abbrev pub OrderingFirst : List Batch → Type 0
OrderingFirst [] = Unit {0}
OrderingFirst (batch ∷ others) = (batch.ordering ≡ false → Each (λ (other : Batch). other.ordering ≡ false) others) × OrderingFirst others

-- a batch that is being ordered was placed by all shards
abbrev pub IsPlacedByAll : SeqState → Batch → Type 0
IsPlacedByAll s batch = batch.ordering ≡ true → has_all (length s.config.shards) batch.placed ≡ true

-- a read that began waits for what is pending
pub record WaitsFor (history : List Event) (s : SeqState) (probe : Probe) : Type 0 where
  pub begun : HasBegun history probe.client probe.read
  pub above : s.bound < probe.target
  pub within : probe.target ≤ s.bound + length s.pending

-- what a leader has beside: its batches follow on from what is bound
pub record FlightFacts (history : List Event) (s : SeqState) : Type 0 where
  pub follow : AreFlying s.bound (s.bound + length s.pending) s.flight
  pub sorted : OrderingFirst s.flight
  pub placed : Each (IsPlacedByAll s) s.flight
  pub waiting : Each (WaitsFor history s) s.probes

pub record SeqFacts (shape : Dimensions) (v : Views) (history : List Event) (node : ℕ) (s : SeqState) : Type 0 where
  pub known : s.view ≤ v.lv
  pub joined : 1 ≤ s.view → JoinedFacts v node s
  pub items : Each (IsWhole shape history) s.pending
  pub based : v.bs s.view ≤ s.bound
  pub leads : is_leader s ≡ true → FlightFacts history s
  pub unled : is_leader s ≡ false → s.flight ≡ []
  pub unasked : is_leader s ≡ false → s.probes ≡ []
  -- the leader of a closed view doesn't know more to be bound than was when it was closed
  pub closed : is_leader s ≡ true → s.view < v.cur → s.bound ≤ v.cl s.view

-- ---- what they have of each other

-- a closed view was closed by a member of it, which does nothing more in it
pub record ClosedBy (v : Views) (seqs : ℕ → SeqState) (view : ℕ) : Type 0 where
  pub member : In (v.cx view) (v.cf (v.sv view)).seq
  pub shut : IsShut (seqs (v.cx view)) (v.sv view)

-- what a leader noted is what the primaries of the shards, and the followers, said
pub record BatchNoted (v : Views) (seqs : ℕ → SeqState) (shards : ℕ → ShardState) (s : SeqState) (batch : Batch) : Type 0 where
  pub placed : Each (λ (shard : ℕ). AllSettledIn v shards s.view shard (batch_end batch)) batch.placed
  pub ordered : Each (λ (i : ℕ). (node : ℕ) → slice_get (followers_of s.config) i ≡ Some node → OrderedSays v (seqs node) node s.view (batch_end batch)) batch.ordered

-- what a leader of a view, old or new, knows of reads
pub record LeaderReads (v : Views) (log : Log) (history : List Event) (seqs : ℕ → SeqState) (s : SeqState) : Type 0 where
  pub cover : (client read : ℕ) → HasBegun history client read → BarredOrCovered v log.probed history seqs s.view client read (line_ids log.line s) s.bound
  pub waiting : Each (λ (probe : Probe). BarredOrCovered v log.probed history seqs s.view probe.client probe.read (take probe.target (line_ids log.line s)) probe.target) s.probes
  -- up to where its view was closed its line is the line
  pub old : s.view < v.cur → take (v.cl s.view) (line_ids log.line s) ≡ take (v.cl s.view) log.line

pub record AmongSeqs (v : Views) (log : Log) (history : List Event) (seqs : ℕ → SeqState) (shards : ℕ → ShardState) : Type 0 where
  pub closers : (view : ℕ) → 1 ≤ view → view < v.cur → ClosedBy v seqs view
  pub noted : (node : ℕ) → Each (BatchNoted v seqs shards (seqs node)) (seqs node).flight
  pub reads : (node : ℕ) → 1 ≤ (seqs node).view → is_leader (seqs node) ≡ true → LeaderReads v log history seqs (seqs node)
  pub probed : Each (λ (one : Probed). HasBegun history one.client one.read) log.probed
