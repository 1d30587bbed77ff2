-- What a replica has of its order: what is stable, what was flushed for its view, and what is closed in it lies within.
use Rattle.std.proofs.Common.{◌≡◌, ℕ, ◌<◌, ◌≤◌, List, [], ◌∷◌, inl, inr, arith}
use Rattle.std.proofs.lemmas.Bool.{cases_lt}
use Rattle.list_facts.specs.Lists.{In}
use Rattle.view_config.specs.Shape.{Dimensions}
use Rattle.world_facts.specs.Members.{IsShardNode}
use Rattle.lazy_rules.specs.Pushing.{length_of}
use Rattle.lazy_rules.specs.Roles.{others_of}
use Rattle.lazy_rules.specs.ShardRules.{first_unplaced}
use Rattle.lazy_rules.specs.ShardState.{ShardState}
use Rattle.log_facts.specs.Ghosts.{Ghost, Views, IsStarted}
use Rattle.log_facts.specs.Good.{Moment}
use Rattle.log_facts.specs.Parts.{Parts}
use Rattle.log_facts.specs.facts.OfShards.{FinalFacts, JobFacts, OrderFacts, RankFacts, StoreFacts}
use Rattle.shard_rows.proofs.Handing.{stable_placed}
use Rattle.shard_rows.proofs.Placing.{follow_within}

module _ (shape : Dimensions) (g : Ghost) (a : Parts) (moment : Moment shape g a) where
  abbrev v : Views
  v = g.views

  -- of any replica
  module _ (d : ℕ) (some : 1 ≤ (a.shards d).view) where
    abbrev s : ShardState
    s = a.shards d

    pub rank : RankFacts v d s
    rank = moment.agreed.shards.ranks d some

    pub jobs : JobFacts v s
    jobs = moment.agreed.shards.jobs d some

    pub order : OrderFacts v g.log.line s
    order = moment.agreed.places.orders d some

    pub final : FinalFacts v g.log.low g.log.high s
    final = moment.agreed.places.finals d some

    pub unplaced_within : first_unplaced s s.jobs ≤ length_of s
    unplaced_within = follow_within (first_unplaced s s.jobs) (length_of s) s.jobs jobs.follow

    pub stable_within : s.store.stable ≤ length_of s
    stable_within = let one = stable_placed shape g a d moment some in let two = unplaced_within in omega arith

    pub closed_within : s.view < v.cur → v.cl s.view ≤ length_of s
    closed_within below = elim (cases_lt (length_of s) (v.cl s.view)) [
      | inl beyond ↦ let wrong = final.has (length_of s) (inr (below, beyond)) in absurd (omega arith)
      | inr within ↦ within
    ]

  -- of one of the shape's
  pub there : (d : ℕ) → IsShardNode shape d → 1 ≤ (a.shards d).view
  there d is = moment.agreed.places.among.there d is

  pub store : (d : ℕ) → StoreFacts shape d (a.shards d).store
  store d = moment.agreed.shards.stores d

  -- a started view is no later than the latest one
  pub started_known : (view : ℕ) → IsStarted v view → view ≤ v.lv
  started_known view started = elim (cases_lt v.lv view) [
    | inl later ↦ let last : v.sv view ≡ v.lv = moment.agreed.views.started.last view (omega arith) in let is = started.is in absurd (omega arith)
    | inr known ↦ known
  ]

-- the first of a list, and the others
pub others_in : (nodes : List ℕ) (node : ℕ) → In node (others_of nodes) → In node nodes
others_in [] node i = absurd i
others_in (first ∷ others) node i = inr i
