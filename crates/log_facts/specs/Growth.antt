use Rattle.std.specs.Prelude.{◌≡◌, ◌≢◌, ◌<◌, ◌≤◌, ◌⊎◌, ℕ, List, ◌++◌, take, true, Some, None}
use Rattle.list_facts.specs.Lists.{In, Front}
use Rattle.rec_id.specs.Identity.{Identity}
use Rattle.rec_id.specs.declared.event.Ask.{Ask}
use Rattle.rec_id.specs.declared.event.Event.{Event}
use Rattle.rec_id.specs.declared.event.Event.TheVariants.{Begin}
use Rattle.lazy_rules.specs.Pushing.{length_of}
use Rattle.lazy_rules.specs.Roles.{is_first}
use Rattle.lazy_rules.specs.SeqState.{SeqState}
use Rattle.lazy_rules.specs.ShardRules.{first_unplaced}
use Rattle.lazy_rules.specs.ShardState.{ShardState}
use Rattle.log_facts.specs.Finality.{line_ids, IsFinal, IsShut}
use Rattle.log_facts.specs.Ghosts.{Ghost, Log, Given, Probed, Views, IsStarted}
use Rattle.log_facts.specs.Parts.{Parts}
use Rattle.log_facts.specs.Past.{HasBegun}
use Rattle.log_facts.specs.Says.{LeaderlessSays}
use Rattle.log_facts.specs.Signs.{Sign, Lacking, sign_at}

-- What no step takes back, by which every message goes on saying what it said. A step of a node keeps the views, and
-- lets the line grow at its end; a step of the controller keeps all other nodes, and may replace the line.

-- ---- one node

-- who is sealed changes nothing more in this view
pub record StaysSealed (s t : SeqState) : Type 0 where
  pub sealed : t.sealed ≡ true
  pub bound : t.bound ≡ s.bound
  pub window : t.window ≡ s.window
  pub pending : t.pending ≡ s.pending

-- a sequencing replica: its view, what it barred, and in one view its bound position rise; it takes no view that it
-- barred
pub record SeqGrows (s t : SeqState) : Type 0 where
  pub view : s.view ≤ t.view
  pub barred : s.barred ≤ t.barred
  pub unbarred : s.view < t.view → s.barred < t.view
  pub bound : s.view ≡ t.view → s.bound ≤ t.bound
  pub sealed : s.view ≡ t.view → s.sealed ≡ true → StaysSealed s t

-- in one view the order grows at its end, and only an open cell becomes something else
pub record OrderGrows (s t : ShardState) : Type 0 where
  pub longer : length_of s ≤ length_of t
  pub signs : (place : ℕ) (sign : Sign) → sign.sort ≢ Lacking → sign_at s place ≡ Some sign → sign_at t place ≡ Some sign
  pub placed : first_unplaced s s.jobs ≤ first_unplaced t t.jobs
  pub flushed : s.flush ≡ None → t.flush ≡ None

-- a shard replica: its view, its stable number and its floor rise
pub record ShardGrows (s t : ShardState) : Type 0 where
  pub view : s.view ≤ t.view
  pub stable : s.store.stable ≤ t.store.stable
  pub floor : s.store.floor ≤ t.store.floor
  pub order : s.view ≡ t.view → OrderGrows s t

-- ---- a step of a node

-- what was told comes last. A read that begins is a new one, which nobody acknowledged
pub record HistoryGrows (probed : List Probed) (history later : List Event) : Type 0 where
  pub told : List Event
  pub is : later ≡ history ++ told
  pub unbegun : (client read : ℕ) (ask : Ask) → In (Begin client read ask) told → ¬ HasBegun history client read
  pub unread : (client read : ℕ) (ask : Ask) → In (Begin client read ask) told → (node view : ℕ) → ¬ In (record { node = node; view = view; client = client; read = read }) probed

-- who acknowledges a probe in a view isn't shut for it
pub record LogGrows (seqs : ℕ → SeqState) (log later : Log) : Type 0 where
  pub line : Front log.line later.line
  pub low : log.low ≤ later.low
  pub given : (one : Given) → In one log.given → In one later.given
  pub probed : (one : Probed) → In one log.probed → In one later.probed
  pub silent : (one : Probed) → In one later.probed → In one log.probed ⊎ (¬ IsShut (seqs one.node) one.view)

-- what is final then and lies below what was bound for good was final before, and was the same
pub record StaysFinal (v : Views) (high place : ℕ) (s t : ShardState) : Type 0 where
  pub some : 1 ≤ s.view
  pub final : IsFinal v high s.view place
  pub same : sign_at t place ≡ sign_at s place

pub record NodeGrows (v : Views) (log later : Log) (a b : Parts) : Type 0 where
  pub history : HistoryGrows log.probed a.history b.history
  pub logs : LogGrows a.seqs log later
  pub seqs : (node : ℕ) → SeqGrows (a.seqs node) (b.seqs node)
  pub lines : (node : ℕ) (id : Identity) → v.cur ≤ (a.seqs node).view → In id (line_ids log.line (a.seqs node)) → In id (line_ids later.line (b.seqs node))
  pub shards : (d : ℕ) → ShardGrows (a.shards d) (b.shards d)
  pub finals : (d place : ℕ) → 1 ≤ (b.shards d).view → place < log.low → IsFinal v later.high (b.shards d).view place → StaysFinal v log.high place (a.shards d) (b.shards d)

-- ---- a step of the controller

-- what is known of a view stays known
pub record ViewsGrow (v later : Views) : Type 0 where
  pub lv : v.lv ≤ later.lv
  pub cur : v.cur ≤ later.cur
  pub configs : (w : ℕ) → w ≤ v.cur → later.cf w ≡ v.cf w
  pub started : (w : ℕ) → IsStarted v w → IsStarted later w
  pub bases : (w : ℕ) → IsStarted v w → later.bs w ≡ v.bs w
  pub windows : (w : ℕ) → IsStarted v w → later.wn w ≡ v.wn w
  pub closings : (w : ℕ) → w < v.cur → later.cl w ≡ v.cl w
  pub ends : (w : ℕ) → w < v.cur → later.le w ≡ v.le w
  pub closers : (w : ℕ) → w < v.cur → later.cx w ≡ v.cx w

-- the line stays up to what is bound for good, and up to what was flushed for a view; while no view is closed it stays
-- whole
pub record LineStays (v later : Views) (log next : Log) : Type 0 where
  pub low : log.low ≤ next.low
  pub below : take log.low next.line ≡ take log.low log.line
  pub flushed : (w : ℕ) → w < v.cur → take (v.le w) next.line ≡ take (v.le w) log.line
  pub live : later.cur ≡ v.cur → next.line ≡ log.line
  pub given : next.given ≡ log.given
  pub probed : next.probed ≡ log.probed

-- where the latest started view is closed: what is bound in it and what its closer has goes on; where its leader never
-- took it, nobody was told more than it began with
pub record ViewCloses (v later : Views) (log next : Log) (a : Parts) : Type 0 where
  pub low : log.low ≤ later.cl v.cur
  pub has : (id : Identity) → v.cur ≤ (a.seqs (later.cx v.cur)).view → In id (line_ids log.line (a.seqs (later.cx v.cur))) → In id (take (later.le v.cur) next.line)
  pub bound : v.cur ≤ (a.seqs (later.cx v.cur)).view → (a.seqs (later.cx v.cur)).bound ≤ later.cl v.cur
  pub leaderless : (leader : ℕ) → is_first (v.cf v.cur).seq leader ≡ true → (a.seqs leader).view < v.cur → LeaderlessSays later next a.history a.seqs v.cur

pub record ControlGrows (g h : Ghost) (a : Parts) : Type 0 where
  pub views : ViewsGrow g.views h.views
  pub line : LineStays g.views h.views g.log h.log
  pub closes : g.views.cur < h.views.cur → IsStarted g.views g.views.cur → ViewCloses g.views h.views g.log h.log a
  pub finals : (d place : ℕ) → 1 ≤ (a.shards d).view → place < g.log.low → IsFinal h.views h.log.high (a.shards d).view place → IsFinal g.views g.log.high (a.shards d).view place
