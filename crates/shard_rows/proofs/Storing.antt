-- A step of a shard replica that changes no more than its store, and keeps its places.
use Rattle.std.proofs.Common.{◌≡◌, ℕ, ◌<◌, ◌≤◌, List, [], ◌∷◌, length, Some, ◌⊎◌, inl, inr, refl, sym, ◌∙◌, subst, arith, true}
use Rattle.list_facts.specs.Lists.{Each, In}
use Rattle.rec_id.specs.Identity.{Identity}
use Rattle.view_config.specs.Shape.{Dimensions}
use Rattle.lazy_msgs.specs.declared.msg.Msg.{Msg}
use Rattle.lazy_rules.specs.Pushing.{length_of}
use Rattle.lazy_rules.specs.Rows.{sends_all}
use Rattle.lazy_rules.specs.ShardRules.{first_unplaced, with_store}
use Rattle.lazy_rules.specs.ShardState.{FlushJob, PlaceJob, ShardState}
use Rattle.lazy_rules.specs.Store.{Store, has}
use Rattle.log_facts.specs.Ghosts.{Ghost, Given}
use Rattle.log_facts.specs.Good.{GoodShard, Moment}
use Rattle.log_facts.specs.Parts.{Parts, ShardFormed, with_shard}
use Rattle.log_facts.specs.Said.{Said}
use Rattle.log_facts.specs.Signs.{Lacking, NoneOpen}
use Rattle.log_facts.specs.facts.OfData.{AwaitedFacts, DataFacts}
use Rattle.log_facts.specs.facts.OfShards.{FollowOn, IsNotedTo, JobFacts, StoreFacts}
use Rattle.shard_rows.proofs.Deciding.{Decides, IsNewlyGiven, StaysOrDecided, decides_shows}
use Rattle.shard_rows.proofs.Stepping.{shows_good}

-- with these acknowledgements of data, old ones and new
abbrev pub with_given : Ghost → List Given → Ghost
with_given g given = record { views = g.views; log = record g.log { given = given } }

pub stays_closed : (s t : ShardState) → ((place : ℕ) → StaysOrDecided s t place) → (upto : ℕ) → NoneOpen s upto → NoneOpen t upto
stays_closed s t places upto whole place sign lt at = elim (places place) [
  | inl same ↦ whole place sign lt (sym same ∙ at)
  | inr one ↦ absurd (whole place (record { id = one.id; sort = Lacking }) lt one.was refl)
]

module _ (shape : Dimensions) (g : Ghost) (a : Parts) (me : ℕ) (moment : Moment shape g a) where
  abbrev s : ShardState
  s = a.shards me

  pub record Stores (given : List Given) (store : Store) : Type 0 where
    pub length : length store.order ≡ length_of s
    pub places : (place : ℕ) → StaysOrDecided s (with_store s store) place
    pub facts : StoreFacts shape me store
    pub bytes : DataFacts a.history store
    pub stable : s.store.stable ≤ store.stable
    pub floor : s.store.floor ≤ store.floor
    pub below : 1 ≤ s.view → store.stable ≤ g.log.low
    pub closed : 1 ≤ s.view → s.view < g.views.cur → store.stable ≤ g.views.cl s.view
    pub unflushed : 1 ≤ s.view → (job : FlushJob) → s.flush ≡ Some job → store.stable ≤ job.from
    pub awaited : AwaitedFacts g.views (with_store s store)
    pub has : (id : Identity) → has s.store id ≡ true → has store id ≡ true
    pub more : (one : Given) → In one g.log.given → In one given
    pub fresh : (one : Given) → In one given → In one g.log.given ⊎ IsNewlyGiven shape me (with_store s store) one

  module _ (given : List Given) (store : Store) (stores : Stores given store) where
    abbrev t : ShardState
    t = with_store s store

    unplaced_same : (jobs : List PlaceJob) → first_unplaced t jobs ≡ first_unplaced s jobs
    unplaced_same [] = stores.length
    unplaced_same (job ∷ jobs) = refl

    jobs_kept : 1 ≤ s.view → JobFacts g.views t
    jobs_kept some =
        let f = moment.agreed.shards.jobs me some in
        let same = unplaced_same s.jobs in
        record {
          flush = λ job is.
              let h = f.flush job is in
              record {
                before = h.before;
                some = h.some;
                is = h.is;
                from_is = h.from_is;
                whole = stores.length ∙ h.whole;
                alone = h.alone;
                unstarted = h.unstarted;
                stable = stores.unflushed some job is;
              };
          started = f.started;
          follow = subst (λ (n : ℕ). FollowOn (first_unplaced t s.jobs) n s.jobs) (sym stores.length) (subst (λ (n : ℕ). FollowOn n (length_of s) s.jobs) (sym same) f.follow);
          whole = λ none. stays_closed s t stores.places (first_unplaced t s.jobs) (subst (NoneOpen s) (sym same) (f.whole none));
          noted = λ none. subst (λ (n : ℕ). Each (IsNotedTo s.view n) s.backups) (sym same) (f.noted none);
        }

    decides : Decides shape g a me moment given t
    decides = record {
      view = refl;
      primary = refl;
      length = stores.length;
      places = stores.places;
      store = stores.facts;
      bytes = stores.bytes;
      backups = refl;
      noted = moment.agreed.places.among.noted me;
      alone = λ some. (moment.agreed.shards.ranks me some).alone;
      idle = λ some. (moment.agreed.shards.ranks me some).idle;
      unasked = λ some. (moment.agreed.shards.ranks me some).unasked;
      jobs = jobs_kept;
      placed = let same = unplaced_same s.jobs in omega arith;
      flushed = λ none. none;
      stable = stores.stable;
      floor = stores.floor;
      below = stores.below;
      closed = stores.closed;
      awaited = stores.awaited;
      has = stores.has;
      more = stores.more;
      fresh = stores.fresh;
    }

    pub stores_good :
        (sends : List (ℕ × Msg)) → Each (λ (send : ℕ × Msg). Said shape (with_given g given) (with_shard a me t) me send.0 send.1) sends →
        GoodShard shape g a me (sends_all t sends)
    stores_good sends said = shows_good shape g a me moment given t (decides_shows shape g a me moment given t decides) sends said

    pub stores_formed : ShardFormed shape me t
    stores_formed = let f = moment.formed.shards me in record { shaped = f.shaped; numbered = f.numbered; backups = f.backups; jobs = f.jobs; flush = f.flush }
