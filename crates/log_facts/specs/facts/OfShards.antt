use Rattle.std.specs.Prelude.{◌≡◌, ◌≢◌, ◌<◌, ◌≤◌, ◌⊎◌, ℕ, ◌+◌, List, [], ◌∷◌, length, map, true, false, Some, None, slice_get}
use Rattle.list_facts.specs.Lists.{In, Each}
use Rattle.rec_id.specs.Identity.{Identity}
use Rattle.view_config.specs.Shape.{Dimensions}
use Rattle.view_config.specs.declared.edition.Mode.TheVariants.{M}
use Rattle.world_facts.specs.Members.{IsShardNode}
use Rattle.lazy_rules.specs.Pushing.{length_of}
use Rattle.lazy_rules.specs.Roles.{is_first, others_of, replicas_at}
use Rattle.lazy_rules.specs.ShardRules.{first_unplaced}
use Rattle.lazy_rules.specs.ShardState.{Backup, FlushJob, PlaceJob, ShardState}
use Rattle.lazy_rules.specs.Store.{Store}
use Rattle.log_facts.specs.Finality.{IsFinal}
use Rattle.log_facts.specs.Ghosts.{Views, IsStarted}
use Rattle.log_facts.specs.Handed.{CellFloored, CellPlaced, EachFrom}
use Rattle.log_facts.specs.Parts.{home_of}
use Rattle.log_facts.specs.Says.{CopiedSays}
use Rattle.log_facts.specs.Signs.{Sign, Lacking, NoneOpen, ordered_at, sign_at}

-- Of shard replicas: their places in the configurations, their orders and jobs, and what several of them agree on.

-- ---- what one replica has

-- of the store alone
pub record StoreFacts (shape : Dimensions) (node : ℕ) (store : Store) : Type 0 where
  pub mode : store.mode ≡ shape.mode
  pub shards : store.shards ≡ shape.shards
  pub shard : store.shard ≡ home_of node
  pub placed : EachFrom (CellPlaced shape (home_of node)) 0 store.order
  pub floored : EachFrom (CellFloored store.floor) 0 store.order
  pub within : store.floor ≤ store.stable
  pub held : shape.mode ≡ M → store.held ≡ []

-- a replica is in its shard's list of its view; the first one is the primary, and the others are its backups. A backup
-- has no open cell and nothing to do
pub record RankFacts (v : Views) (node : ℕ) (s : ShardState) : Type 0 where
  pub known : s.view ≤ v.cur
  pub listed : In node (replicas_at (v.cf s.view) (home_of node))
  pub first : s.primary ≡ is_first (replicas_at (v.cf s.view) (home_of node)) node
  pub backups : s.primary ≡ true → map (λ (backup : Backup). backup.node) s.backups ≡ others_of (replicas_at (v.cf s.view) (home_of node))
  pub alone : s.primary ≡ false → s.backups ≡ []
  pub idle : s.primary ≡ false → s.jobs ≡ []
  pub unasked : s.primary ≡ false → s.flush ≡ None
  pub whole : s.primary ≡ false → NoneOpen s (length_of s)

-- Place jobs follow each other from here, and end there
abbrev pub FollowOn : ℕ → ℕ → List PlaceJob → Type 0
FollowOn from end [] = from ≡ end
FollowOn from end (job ∷ jobs) = (job.from ≡ from) × (job.from ≤ job.end) × FollowOn job.end end jobs

-- a backup is noted to have the order up to here; at first nothing is
abbrev pub IsNotedTo : ℕ → ℕ → Backup → Type 0
IsNotedTo view upto backup = ((view ≡ 1) × (upto ≡ 0)) ⊎ ((n : ℕ) × (backup.copied ≡ Some n) × (upto ≤ n))

-- a Flush job is the only one: of the line that was flushed for this view, and of nothing behind it
pub record FlushJobFacts (v : Views) (s : ShardState) (job : FlushJob) : Type 0 where
  pub before : ℕ
  pub some : 1 ≤ before
  pub is : s.view ≡ before + 1
  pub from_is : job.from ≡ v.cl before
  pub whole : length_of s ≡ v.le before
  pub alone : s.jobs ≡ []
  pub unstarted : ¬ IsStarted v s.view
  pub stable : s.store.stable ≤ job.from

-- Place jobs are of a started view. What is below them is whole, and every backup is noted to have it
pub record JobFacts (v : Views) (s : ShardState) : Type 0 where
  pub flush : (job : FlushJob) → s.flush ≡ Some job → FlushJobFacts v s job
  pub started : (job : PlaceJob) → In job s.jobs → IsStarted v s.view
  pub follow : FollowOn (first_unplaced s s.jobs) (length_of s) s.jobs
  pub whole : s.flush ≡ None → NoneOpen s (first_unplaced s s.jobs)
  pub noted : s.flush ≡ None → Each (IsNotedTo s.view (first_unplaced s s.jobs)) s.backups

-- the place has what the line has there
abbrev pub OrderedAs : List Identity → ShardState → ℕ → Type 0
OrderedAs line s place = (id : Identity) → ordered_at s place ≡ Some id → slice_get line place ≡ Some id

-- a replica has all that was flushed, up to here, and isn't placing any of it
pub record HasFlushed (line : List Identity) (s : ShardState) (end : ℕ) : Type 0 where
  pub has : end ≤ length_of s
  pub placed : end ≤ first_unplaced s s.jobs
  pub ordered : (place : ℕ) → place < end → OrderedAs line s place

-- the order is that of the line: in the current view all of it, in a closed one up to where it was closed. It has the
-- line that was flushed for its view, and before its view is started nothing behind that
pub record OrderFacts (v : Views) (line : List Identity) (s : ShardState) : Type 0 where
  pub live : s.view ≡ v.cur → (place : ℕ) → OrderedAs line s place
  pub closed : s.view < v.cur → (place : ℕ) → place < v.cl s.view → OrderedAs line s place
  pub flushed : (before : ℕ) → 1 ≤ before → s.view ≡ before + 1 → HasFlushed line s (v.le before)
  pub unstarted : s.view ≡ v.cur → v.lv < v.cur → length_of s ≡ length line

-- what is final is there, isn't open, and isn't being placed; what is stable is final
pub record FinalFacts (v : Views) (low high : ℕ) (s : ShardState) : Type 0 where
  pub has : (place : ℕ) → IsFinal v high s.view place → place < length_of s
  pub placed : (place : ℕ) → IsFinal v high s.view place → place < first_unplaced s s.jobs
  pub decided : (place : ℕ) (sign : Sign) → IsFinal v high s.view place → sign_at s place ≡ Some sign → sign.sort ≢ Lacking
  pub stable : s.store.stable ≤ low
  pub closed : s.view < v.cur → s.store.stable ≤ v.cl s.view

-- ---- what several have of each other

-- two of one shard agree on what is final for both
abbrev pub AgreeOnFinal : Views → ℕ → ShardState → ShardState → Type 0
AgreeOnFinal v high s t = (place : ℕ) → IsFinal v high s.view place → IsFinal v high t.view place → sign_at s place ≡ sign_at t place

-- in one view a backup's order is how that of its primary begins
pub record IsCopyOf (s t : ShardState) : Type 0 where
  pub shorter : length_of s ≤ length_of t
  pub same : (place : ℕ) → place < length_of s → sign_at s place ≡ sign_at t place

-- what a primary notes of a backup is what that said
abbrev pub BackupNoted : (ℕ → ShardState) → ℕ → Backup → Type 0
BackupNoted shards view backup = (n : ℕ) → backup.copied ≡ Some n → CopiedSays (shards backup.node) view n

pub record AmongShards (shape : Dimensions) (v : Views) (high : ℕ) (shards : ℕ → ShardState) : Type 0 where
  -- every replica of the shape has a view
  pub there : (d : ℕ) → IsShardNode shape d → 1 ≤ (shards d).view
  pub agree : (d e : ℕ) → home_of d ≡ home_of e → 1 ≤ (shards d).view → 1 ≤ (shards e).view → AgreeOnFinal v high (shards d) (shards e)
  pub copies : (d e : ℕ) → home_of d ≡ home_of e → 1 ≤ (shards d).view → (shards d).view ≡ (shards e).view → (shards d).primary ≡ false → (shards e).primary ≡ true → IsCopyOf (shards d) (shards e)
  pub noted : (d : ℕ) → Each (BackupNoted shards (shards d).view) (shards d).backups
  -- a primary takes a view before its backups do
  pub ahead : (d e : ℕ) → 1 ≤ (shards d).view → is_first (replicas_at (v.cf (shards d).view) (home_of d)) e ≡ true → (shards d).view ≤ (shards e).view
  -- whom a view names has taken the latest started one up to it
  pub present : (view shard d : ℕ) → 1 ≤ view → view ≤ v.cur → In d (replicas_at (v.cf view) shard) → v.sv view ≤ (shards d).view
