-- A step of a shard replica that changes no more than what it notes of its backups, and what it is at.
use Rattle.std.proofs.Common.{◌≡◌, ℕ, ◌≤◌, List, [], ◌∷◌, map, Option, None, inl, refl, arith, false}
use Rattle.list_facts.specs.Lists.{Each}
use Rattle.view_config.specs.Shape.{Dimensions}
use Rattle.lazy_msgs.specs.declared.msg.Msg.{Msg}
use Rattle.lazy_rules.specs.Rows.{sends_all, stays}
use Rattle.lazy_rules.specs.ShardRules.{first_unplaced}
use Rattle.lazy_rules.specs.ShardState.{Backup, FlushJob, PlaceJob, ShardState}
use Rattle.log_facts.specs.Ghosts.{Ghost}
use Rattle.log_facts.specs.Good.{GoodShard, Moment}
use Rattle.log_facts.specs.Parts.{Parts, ShardFormed, with_shard}
use Rattle.log_facts.specs.Said.{Said}
use Rattle.log_facts.specs.facts.OfShards.{BackupNoted, JobFacts}
use Rattle.shard_rows.proofs.Deciding.{Decides, decides_shows}
use Rattle.shard_rows.proofs.Joining.{Part, part_good}
use Rattle.shard_rows.proofs.Stepping.{after_agreed, goes_on}

module _ (shape : Dimensions) (g : Ghost) (a : Parts) (me : ℕ) (moment : Moment shape g a) where
  abbrev s : ShardState
  s = a.shards me

  -- the replica with other notes of its backups, and at other jobs
  abbrev pub with_books : List Backup → List PlaceJob → Option FlushJob → ShardState
  with_books backups jobs flush = record s { backups = backups; jobs = jobs; flush = flush }

  pub record Books (backups : List Backup) (jobs : List PlaceJob) (flush : Option FlushJob) : Type 0 where
    pub nodes : map (λ (backup : Backup). backup.node) backups ≡ map (λ (backup : Backup). backup.node) s.backups
    pub noted : Each (BackupNoted a.shards s.view) backups
    pub alone : 1 ≤ s.view → s.primary ≡ false → backups ≡ []
    pub idle : 1 ≤ s.view → s.primary ≡ false → jobs ≡ []
    pub unasked : 1 ≤ s.view → s.primary ≡ false → flush ≡ None
    pub facts : 1 ≤ s.view → JobFacts g.views (with_books backups jobs flush)
    pub placed : first_unplaced s s.jobs ≤ first_unplaced s jobs
    pub flushed : s.flush ≡ None → flush ≡ None

  module _ (backups : List Backup) (jobs : List PlaceJob) (flush : Option FlushJob) (books : Books backups jobs flush) where
    abbrev t : ShardState
    t = with_books backups jobs flush

    unplaced_same : (jobs : List PlaceJob) → first_unplaced t jobs ≡ first_unplaced s jobs
    unplaced_same [] = refl
    unplaced_same (job ∷ jobs) = refl

    decides : Decides shape g a me moment g.log.given t
    decides = record {
      view = refl;
      primary = refl;
      length = refl;
      places = λ place. inl refl;
      store = moment.agreed.shards.stores me;
      bytes = moment.agreed.bytes me;
      backups = books.nodes;
      noted = books.noted;
      alone = books.alone;
      idle = books.idle;
      unasked = books.unasked;
      jobs = books.facts;
      placed = let placed = books.placed in let same = unplaced_same jobs in omega arith;
      flushed = books.flushed;
      stable = omega arith;
      floor = omega arith;
      below = λ some. (moment.agreed.places.finals me some).stable;
      closed = λ some. (moment.agreed.places.finals me some).closed;
      awaited = moment.agreed.shards.awaited me;
      has = λ id h. h;
      more = λ one i. i;
      fresh = λ one i. inl i;
    }

    pub books_part : ShardFormed shape me t → (sends : List (ℕ × Msg)) → Each (λ (send : ℕ × Msg). Said shape g (with_shard a me t) me send.0 send.1) sends → Part shape g a me (sends_all t sends)
    books_part formed sends said =
        let shows = decides_shows shape g a me moment g.log.given t decides in
        record {
          agreed = after_agreed shape g a me moment g.log.given t shows;
          lifts = goes_on shape g a me moment g.log.given t shows;
          said = said;
          formed = formed;
          view = refl;
          primary = refl;
          store = refl;
        }

  -- what the replica has, it keeps
  pub same_books : Books s.backups s.jobs s.flush
  same_books = record {
    nodes = refl;
    noted = moment.agreed.places.among.noted me;
    alone = λ some. (moment.agreed.shards.ranks me some).alone;
    idle = λ some. (moment.agreed.shards.ranks me some).idle;
    unasked = λ some. (moment.agreed.shards.ranks me some).unasked;
    facts = λ some. moment.agreed.shards.jobs me some;
    placed = omega arith;
    flushed = λ none. none;
  }

  -- a step that leaves all as it is, and sends what is so
  pub sends_part : (sends : List (ℕ × Msg)) → Each (λ (send : ℕ × Msg). Said shape g (with_shard a me s) me send.0 send.1) sends → Part shape g a me (sends_all s sends)
  sends_part = books_part s.backups s.jobs s.flush same_books (moment.formed.shards me)

  pub stays_part : Part shape g a me (stays s)
  stays_part = sends_part [] tt

  pub sends_good : (sends : List (ℕ × Msg)) → Each (λ (send : ℕ × Msg). Said shape g (with_shard a me s) me send.0 send.1) sends → GoodShard shape g a me (sends_all s sends)
  sends_good sends said = part_good shape g a me (sends_all s sends) (sends_part sends said)

  pub stays_good : GoodShard shape g a me (stays s)
  stays_good = part_good shape g a me (stays s) stays_part
