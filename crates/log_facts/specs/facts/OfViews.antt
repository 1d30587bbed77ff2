use Rattle.std.specs.Prelude.{◌≡◌, ◌<◌, ◌≤◌, ℕ, ◌+◌, length, true, None}
use Rattle.list_facts.specs.Lists.{In, Each, Distinct}
use Rattle.view_config.specs.declared.config.Config.{Config}
use Rattle.view_config.specs.Shape.{Dimensions}
use Rattle.world_facts.specs.Members.{IsNamed}
use Rattle.lazy_rules.specs.ControlState.{ControlState, Change, Phase, Reign, Taken, Running, Sealing, Flushing, newest}
use Rattle.lazy_rules.specs.Roles.{is_first, replicas_at}
use Rattle.lazy_rules.specs.ShardState.{ShardState}
use Rattle.log_facts.specs.Finality.{AllSettledIn}
use Rattle.log_facts.specs.Ghosts.{Views, IsStarted}
use Rattle.log_facts.specs.Parts.{home_of}
use Rattle.log_facts.specs.Signs.{Sublist}

-- Of views and their configurations, and of what the controller has of them.

-- no list has a replica twice, and each replica is listed where its shard is
pub record ConfigFacts (config : Config) : Type 0 where
  pub members : Distinct config.seq
  pub replicas : (shard : ℕ) → Distinct (replicas_at config shard)
  pub homes : (shard d : ℕ) → In d (replicas_at config shard) → home_of d ≡ shard

-- the replicas of each shard in the one configuration are some of those in the other, in its order
abbrev pub IsLater : Config → Config → Type 0
IsLater config later = (shard : ℕ) → Sublist (replicas_at later shard) (replicas_at config shard)

-- every view has a configuration, and each is later than those before it
pub record ConfigsFacts (shape : Dimensions) (v : Views) : Type 0 where
  pub named : (w : ℕ) → 1 ≤ w → IsNamed shape (v.cf w)
  pub numbered : (w : ℕ) → (v.cf w).view ≡ w
  pub lists : (w : ℕ) → ConfigFacts (v.cf w)
  pub later : (u w : ℕ) → u ≤ w → IsLater (v.cf u) (v.cf w)

-- which views were started
pub record StartedFacts (v : Views) : Type 0 where
  pub some : 1 ≤ v.lv
  pub latest : v.lv ≤ v.cur
  pub below : (w : ℕ) → v.sv w ≤ w
  pub again : (w : ℕ) → v.sv (v.sv w) ≡ v.sv w
  pub rise : (u w : ℕ) → u ≤ w → v.sv u ≤ v.sv w
  pub first : (w : ℕ) → 1 ≤ w → 1 ≤ v.sv w
  pub last : (w : ℕ) → v.lv ≤ w → v.sv w ≡ v.lv

-- where views began and were closed: no earlier than the ones before. Views of one closing were closed at one place
pub record BoundsFacts (v : Views) : Type 0 where
  pub bases_rise : (u w : ℕ) → u ≤ w → v.bs u ≤ v.bs w
  pub closings_rise : (u w : ℕ) → u ≤ w → v.cl u ≤ v.cl w
  pub ends_rise : (u w : ℕ) → u ≤ w → v.le u ≤ v.le w
  pub latest : (w : ℕ) → v.lv ≤ w → v.bs w ≡ v.bs v.lv
  pub closed : (w : ℕ) → w < v.cur → v.bs w ≤ v.cl w
  pub ended : (w : ℕ) → w < v.cur → v.cl w ≤ v.le w
  pub based : (u w : ℕ) → u < w → IsStarted v w → v.le u ≤ v.bs w
  pub one_closing : (w : ℕ) → w < v.cur → v.cl w ≡ v.cl (v.sv w)
  pub one_end : (w : ℕ) → w < v.cur → v.le w ≡ v.le (v.sv w)

-- the controller's phase tells the current view
pub record ReignFacts (v : Views) (reign : Reign) : Type 0 where
  pub live : v.cur ≡ v.lv
  pub config : reign.config ≡ v.cf v.lv

-- the configuration that comes is later than the one that is sealed
pub record ChangeFacts (v : Views) (change : Change) : Type 0 where
  pub live : v.cur ≡ v.lv
  pub old : change.old ≡ v.cf v.lv
  pub after : v.lv < change.coming.view
  pub lists : ConfigFacts change.coming
  pub later : IsLater (v.cf v.lv) change.coming

pub record TakenFacts (v : Views) (taken : Taken) : Type 0 where
  pub unstarted : v.lv < v.cur
  pub config : taken.config ≡ v.cf v.cur

abbrev pub PhaseFacts : Views → Phase → Type 0
PhaseFacts v (Running reign) = ReignFacts v reign
PhaseFacts v (Sealing change) = ChangeFacts v change
PhaseFacts v (Flushing taken) = TakenFacts v taken

-- its spares were never named, and are each there once
pub record ControlFacts (v : Views) (k : ControlState) : Type 0 where
  pub phase : PhaseFacts v k.phase
  pub base : k.base ≡ v.bs v.lv
  pub window : k.window ≡ v.wn v.lv
  pub spares : Distinct k.spares
  pub unnamed : (node : ℕ) → In node k.spares → ¬ In node (newest k).seq

pub record ViewFacts (shape : Dimensions) (v : Views) (k : ControlState) : Type 0 where
  pub configs : ConfigsFacts shape v
  pub started : StartedFacts v
  pub bounds : BoundsFacts v
  pub control : ControlFacts v k

-- a shard that the controller noted to have the flushed line: all its replicas have it, and its primary is at no flush
pub record NotedFlushed (v : Views) (shards : ℕ → ShardState) (upto shard : ℕ) : Type 0 where
  pub settled : AllSettledIn v shards v.cur shard upto
  pub ended : (d : ℕ) → is_first (replicas_at (v.cf v.cur) shard) d ≡ true → (shards d).view ≡ v.cur → (shards d).flush ≡ None

abbrev pub ControlNotes : Views → (ℕ → ShardState) → Phase → Type 0
ControlNotes v shards (Flushing taken) = Each (NotedFlushed v shards (taken.from + length taken.items)) taken.flushed
ControlNotes v shards _ = Unit {0}
