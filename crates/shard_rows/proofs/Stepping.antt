-- A step of a shard replica: what of it has to be shown, and that it is good then.
use Rattle.std.proofs.Common.{◌≡◌, ◌≢◌, ℕ, ◌+◌, ◌-◌, min, ◌<◌, ◌≤◌, List, [], ◌∷◌, length, Option, Some, None, inl, refl, sym, ◌∙◌, arith, append-nil, true, false}
use Rattle.std.proofs.lemmas.Bool.{eqb-true}
use Rattle.std.proofs.lemmas.Option.{slice_get_within}
use Rattle.list_facts.specs.Lists.{Each, In, put}
use Rattle.list_facts.proofs.Members.{each_weaker}
use Rattle.list_facts.proofs.Puts.{put_cases}
use Rattle.rec_id.specs.Identity.{Identity}
use Rattle.rec_id.specs.History.{answer_reach, asked_to}
use Rattle.rec_id.specs.declared.entry.Entry.{Entry}
use Rattle.rec_id.specs.declared.event.Event.TheVariants.{Answer}
use Rattle.view_config.specs.Shape.{Dimensions}
use Rattle.lazy_msgs.specs.declared.msg.Msg.{Msg}
use Rattle.lazy_msgs.specs.declared.msg.Msg.TheVariants.{Copied}
use Rattle.lazy_rules.specs.ClientState.{OpenAppend, id_of}
use Rattle.lazy_rules.specs.ControlState.{Phase, Running, Sealing, Flushing}
use Rattle.lazy_rules.specs.ReaderRules.{entry_at}
use Rattle.lazy_rules.specs.ReaderState.{Stage, Idle, Fetching, Probing, Trimming}
use Rattle.lazy_rules.specs.Roles.{is_first, replicas_at}
use Rattle.lazy_rules.specs.ShardState.{Backup, ShardState}
use Rattle.log_facts.specs.Agreed.{Agreed, ClientsAgree, PlacesAgree, ShardsAgree, ToldFacts}
use Rattle.log_facts.specs.Finality.{AllSettledIn, IsFinal, TellsPlace}
use Rattle.log_facts.specs.Ghosts.{Ghost, Given, Log}
use Rattle.log_facts.specs.Good.{Good, Moment}
use Rattle.log_facts.specs.Growth.{NodeGrows, ShardGrows, StaysFinal}
use Rattle.log_facts.specs.Parts.{Parts, home_of, with_shard}
use Rattle.log_facts.specs.Said.{Said}
use Rattle.log_facts.specs.Says.{PartSays, RejectedSays}
use Rattle.log_facts.specs.facts.OfClients.{AckNoted}
use Rattle.log_facts.specs.facts.OfData.{AmongGiven, AwaitedFacts, DataFacts}
use Rattle.log_facts.specs.facts.OfLine.{LineFacts}
use Rattle.log_facts.specs.facts.OfReads.{AnswerFacts, StageNotes}
use Rattle.log_facts.specs.facts.OfSeqs.{AmongSeqs, BatchNoted}
use Rattle.log_facts.specs.facts.OfShards.{AgreeOnFinal, AmongShards, BackupNoted, FinalFacts, IsCopyOf, JobFacts, OrderFacts, RankFacts, StoreFacts}
use Rattle.log_facts.specs.facts.OfViews.{ControlNotes, NotedFlushed}
use Rattle.log_facts.proofs.growth.Orders.{all_settled_later}
use Rattle.log_facts.proofs.growth.SaidNodes.{said_nodes}
use Rattle.log_facts.proofs.telling.Stands.{history_same, seq_same, shard_same}

module _ (shape : Dimensions) (g : Ghost) (a : Parts) (me : ℕ) (moment : Moment shape g a) where
  abbrev s : ShardState
  s = a.shards me

  -- what a step of this replica to the state t has to show: what t has, what it and the others agree on, and that it has
  -- grown. With these acknowledgements of data, old ones and new
  pub record Shows (given : List Given) (t : ShardState) : Type 0 where
    pub grows : ShardGrows s t
    pub finals : (place : ℕ) → 1 ≤ t.view → place < g.log.low → IsFinal g.views g.log.high t.view place → StaysFinal g.views g.log.high place s t
    pub store : StoreFacts shape me t.store
    pub rank : 1 ≤ t.view → RankFacts g.views me t
    pub jobs : 1 ≤ t.view → JobFacts g.views t
    pub awaited : AwaitedFacts g.views t
    pub order : 1 ≤ t.view → OrderFacts g.views g.log.line t
    pub final : 1 ≤ t.view → FinalFacts g.views g.log.low g.log.high t
    pub bytes : DataFacts a.history t.store
    -- with the others of its shard: as any, as a backup, as the primary
    pub agree : (e : ℕ) → e ≢ me → home_of me ≡ home_of e → 1 ≤ t.view → 1 ≤ (a.shards e).view → AgreeOnFinal g.views g.log.high t (a.shards e)
    pub follows : (e : ℕ) → e ≢ me → home_of me ≡ home_of e → 1 ≤ t.view → t.view ≡ (a.shards e).view → t.primary ≡ false → (a.shards e).primary ≡ true → IsCopyOf t (a.shards e)
    pub leads : (d : ℕ) → d ≢ me → home_of d ≡ home_of me → 1 ≤ (a.shards d).view → (a.shards d).view ≡ t.view → (a.shards d).primary ≡ false → t.primary ≡ true → IsCopyOf (a.shards d) t
    pub noted : Each (BackupNoted a.shards t.view) t.backups
    pub ahead : (e : ℕ) → e ≢ me → 1 ≤ t.view → is_first (replicas_at (g.views.cf t.view) (home_of me)) e ≡ true → t.view ≤ (a.shards e).view
    pub more : (one : Given) → In one g.log.given → In one given
    pub stored : AmongGiven shape g.views given (put a.shards me t)

  module _ (given : List Given) (t : ShardState) (shows : Shows given t) where
    abbrev pub after : Parts
    after = with_shard a me t

    abbrev pub later : Log
    later = record g.log { given = given }

    abbrev pub then : Ghost
    then = record { views = g.views; log = later }

    every : (d : ℕ) → ShardGrows (a.shards d) (after.shards d)
    every = put_cases (λ (d : ℕ) (x : ShardState). ShardGrows (a.shards d) x) a.shards me t shows.grows (λ d other. shard_same (a.shards d))

    finals : (d place : ℕ) → 1 ≤ (after.shards d).view → place < g.log.low → IsFinal g.views g.log.high (after.shards d).view place → StaysFinal g.views g.log.high place (a.shards d) (after.shards d)
    finals d = by d
      where
        by : (d : ℕ) (place : ℕ) → 1 ≤ (after.shards d).view → place < g.log.low → IsFinal g.views g.log.high (after.shards d).view place → StaysFinal g.views g.log.high place (a.shards d) (after.shards d)
        by = put_cases (λ (d : ℕ) (x : ShardState). (place : ℕ) → 1 ≤ x.view → place < g.log.low → IsFinal g.views g.log.high x.view place → StaysFinal g.views g.log.high place (a.shards d) x) a.shards me t
            shows.finals (λ d other place some below final. record { some = some; final = final; same = refl })

    pub step_grows : NodeGrows g.views g.log later a after
    step_grows = record {
      history = history_same g.log.probed a.history;
      logs = record {
        line = record { rest = []; is = sym (append-nil g.log.line) };
        low = omega arith;
        given = shows.more;
        probed = λ one i. i;
        silent = λ one i. inl i;
      };
      seqs = λ node. seq_same (a.seqs node);
      lines = λ node id live i. i;
      shards = every;
      finals = finals;
    }

    -- what was said goes on being said
    pub goes_on : (node to : ℕ) (msg : Msg) → Said shape g a node to msg → Said shape then after node to msg
    goes_on = said_nodes shape g later a after moment.agreed step_grows

    settled : (view shard upto : ℕ) → AllSettledIn g.views a.shards view shard upto → AllSettledIn g.views after.shards view shard upto
    settled = all_settled_later g.views a.shards after.shards every

    tells : (shard place : ℕ) (told : Option Entry) → place < g.log.low → TellsPlace g.views g.log.high a.history a.shards shard place told → TellsPlace g.views g.log.high a.history after.shards shard place told
    tells shard place told below h d sign home some final at =
        let stays = finals d place some below final in
        h d sign home stays.some stays.final (sym stays.same ∙ at)

    -- ---- the line
    line : LineFacts shape g.views later a.history a.control.phase a.seqs after.shards
    line =
        let l = moment.agreed.line in
        record {
          distinct = l.distinct;
          begun = l.begun;
          low = l.low;
          high = l.high;
          closed = l.closed;
          reached = l.reached;
          behind = l.behind;
          members = λ node is. let m = l.members node is in record { held = m.held; least = m.least; most = m.most };
          live = λ is. let f = l.live is in record {
            based = f.based;
            absent = λ node i below. let b = f.absent node i below in record { held = b.held; low = b.low };
            leader = λ node first. let b = f.leader node first in record { taken = b.taken; low = b.low; absent = b.absent };
            settled = λ shard. settled g.views.cur shard g.log.high (f.settled shard);
          };
          closing = λ below. let f = l.closing below in record { one = f.one; closed = f.closed; ended = f.ended };
          taken = λ taken is. let f = l.taken taken is in record { held = f.held; whole = f.whole; low = f.low; line = f.line };
        }

    -- ---- sequencing replicas
    seqs : AmongSeqs g.views later a.history a.seqs after.shards
    seqs =
        let f = moment.agreed.among_seqs in
        record {
          closers = f.closers;
          noted = λ node. each_weaker (BatchNoted g.views a.seqs a.shards (a.seqs node)) (BatchNoted g.views a.seqs after.shards (a.seqs node))
              (λ batch n. record { placed = each_weaker _ _ (λ shard h. settled (a.seqs node).view shard _ h) batch.placed n.placed; ordered = n.ordered }) (a.seqs node).flight (f.noted node);
          reads = λ node some leads. let r = f.reads node some leads in record { cover = r.cover; waiting = r.waiting; old = r.old };
          probed = f.probed;
        }

    -- ---- shard replicas
    shards : ShardsAgree shape g.views after.shards
    shards =
        let f = moment.agreed.shards in
        record {
          stores = put_cases (λ (d : ℕ) (x : ShardState). StoreFacts shape d x.store) a.shards me t shows.store (λ d other. f.stores d);
          ranks = put_cases (λ (d : ℕ) (x : ShardState). 1 ≤ x.view → RankFacts g.views d x) a.shards me t shows.rank (λ d other. f.ranks d);
          jobs = put_cases (λ (d : ℕ) (x : ShardState). 1 ≤ x.view → JobFacts g.views x) a.shards me t shows.jobs (λ d other. f.jobs d);
          awaited = put_cases (λ (d : ℕ) (x : ShardState). AwaitedFacts g.views x) a.shards me t shows.awaited (λ d other. f.awaited d);
        }

    agree : (d e : ℕ) → home_of d ≡ home_of e → 1 ≤ (after.shards d).view → 1 ≤ (after.shards e).view → AgreeOnFinal g.views g.log.high (after.shards d) (after.shards e)
    agree = put_cases (λ (d : ℕ) (x : ShardState). (e : ℕ) → home_of d ≡ home_of e → 1 ≤ x.view → 1 ≤ (after.shards e).view → AgreeOnFinal g.views g.log.high x (after.shards e)) a.shards me t
        (put_cases (λ (e : ℕ) (y : ShardState). home_of me ≡ home_of e → 1 ≤ t.view → 1 ≤ y.view → AgreeOnFinal g.views g.log.high t y) a.shards me t
        (λ home some there place f h. refl)
        (λ e other. shows.agree e other))
        (λ d other. put_cases (λ (e : ℕ) (y : ShardState). home_of d ≡ home_of e → 1 ≤ (a.shards d).view → 1 ≤ y.view → AgreeOnFinal g.views g.log.high (a.shards d) y) a.shards me t
        (λ home some there place f h. sym (shows.agree d other (sym home) there some place h f))
        (λ e apart. moment.agreed.places.among.agree d e))

    copies : (d e : ℕ) → home_of d ≡ home_of e → 1 ≤ (after.shards d).view → (after.shards d).view ≡ (after.shards e).view → (after.shards d).primary ≡ false → (after.shards e).primary ≡ true → IsCopyOf (after.shards d) (after.shards e)
    copies = put_cases (λ (d : ℕ) (x : ShardState). (e : ℕ) → home_of d ≡ home_of e → 1 ≤ x.view → x.view ≡ (after.shards e).view → x.primary ≡ false → (after.shards e).primary ≡ true → IsCopyOf x (after.shards e)) a.shards me t
        (put_cases (λ (e : ℕ) (y : ShardState). home_of me ≡ home_of e → 1 ≤ t.view → t.view ≡ y.view → t.primary ≡ false → y.primary ≡ true → IsCopyOf t y) a.shards me t
        (λ home some same backup primary. let wrong : false ≡ true = sym backup ∙ primary in absurd (let no : ⊥ = cc in no))
        (λ e other. shows.follows e other))
        (λ d other. put_cases (λ (e : ℕ) (y : ShardState). home_of d ≡ home_of e → 1 ≤ (a.shards d).view → (a.shards d).view ≡ y.view → (a.shards d).primary ≡ false → y.primary ≡ true → IsCopyOf (a.shards d) y) a.shards me t
        (λ home some same backup primary. shows.leads d other home some same backup primary)
        (λ e apart. moment.agreed.places.among.copies d e))

    -- what a primary notes goes on being said
    noted_on : (view : ℕ) (backups : List Backup) → Each (BackupNoted a.shards view) backups → Each (BackupNoted after.shards view) backups
    noted_on view = each_weaker (BackupNoted a.shards view) (BackupNoted after.shards view) (λ backup noted upto is. goes_on backup.node me (Copied view upto) (noted upto is))

    among : AmongShards shape g.views g.log.high after.shards
    among =
        let f = moment.agreed.places.among in
        record {
          there = λ d is. let some = f.there d is in let rises = (every d).view in omega arith;
          agree = agree;
          copies = copies;
          noted = put_cases (λ (d : ℕ) (x : ShardState). Each (BackupNoted after.shards x.view) x.backups) a.shards me t (noted_on t.view t.backups shows.noted) (λ d other. noted_on (a.shards d).view (a.shards d).backups (f.noted d));
          ahead = put_cases (λ (d : ℕ) (x : ShardState). (e : ℕ) → 1 ≤ x.view → is_first (replicas_at (g.views.cf x.view) (home_of d)) e ≡ true → x.view ≤ (after.shards e).view) a.shards me t
              (put_cases (λ (e : ℕ) (y : ShardState). 1 ≤ t.view → is_first (replicas_at (g.views.cf t.view) (home_of me)) e ≡ true → t.view ≤ y.view) a.shards me t (λ some first. omega arith) (λ e other. shows.ahead e other))
              (λ d other e some first. let before = f.ahead d e some first in let rises = (every e).view in omega arith);
          present = λ view shard d some known among. let before = f.present view shard d some known among in let rises = (every d).view in omega arith;
        }

    places : PlacesAgree shape g.views g.log.line g.log.low g.log.high after.shards
    places =
        let f = moment.agreed.places in
        record {
          orders = put_cases (λ (d : ℕ) (x : ShardState). 1 ≤ x.view → OrderFacts g.views g.log.line x) a.shards me t shows.order (λ d other. f.orders d);
          finals = put_cases (λ (d : ℕ) (x : ShardState). 1 ≤ x.view → FinalFacts g.views g.log.low g.log.high x) a.shards me t shows.final (λ d other. f.finals d);
          among = among;
        }

    -- ---- clients
    part : (shard client read from end : ℕ) (entries : List (ℕ × Entry)) → PartSays shape g.views g.log a.history a.shards shard client read from end entries → PartSays shape g.views later a.history after.shards shard client read from end entries
    part shard client read from end entries p =
        let below = p.below in
        record { fetched = p.fetched; below = p.below; told = λ place least lt. tells shard place (entry_at entries place) (omega arith) (p.told place least lt) }

    stage : (client view : ℕ) (stage : Stage) → StageNotes shape g.views g.log a.history a.seqs a.shards client view stage → StageNotes shape g.views later a.history a.seqs after.shards client view stage
    stage client view Idle n = tt
    stage client view (Fetching fetch) n = record {
      wants = let w = n.wants in record { forward = w.forward; unforced = w.unforced; whole = w.whole; forced = w.forced; below = w.below; covers = w.covers };
      count = n.count;
      parts = λ shard entries is. part shard client fetch.number _ fetch.end entries (n.parts shard entries is);
    }
    stage client view (Probing force) n = record {
      acked = n.acked;
      tail = λ tail is. let f = n.tail tail is in record { begun = f.begun; stable = f.stable; covers = f.covers };
    }
    stage client view (Trimming trimmer) n = record {
      below = n.below;
      acked = each_weaker (λ (node : ℕ). trimmer.floor ≤ (a.shards node).store.floor) (λ (node : ℕ). trimmer.floor ≤ (after.shards node).store.floor)
          (λ node least. let rises = (every node).floor in omega arith) trimmer.acked n.acked;
    }

    clients : ClientsAgree shape g.views later after
    clients =
        let f = moment.agreed.clients in
        record {
          appends = f.appends;
          appends_noted = λ c. each_weaker (λ (append : OpenAppend). Each (AckNoted g.views g.log a.seqs (a.clients c) (id_of (a.clients c) append.number)) append.acked) (λ (append : OpenAppend). Each (AckNoted g.views later a.seqs (a.clients c) (id_of (a.clients c) append.number)) append.acked)
              (λ append. each_weaker (AckNoted g.views g.log a.seqs (a.clients c) (id_of (a.clients c) append.number)) (AckNoted g.views later a.seqs (a.clients c) (id_of (a.clients c) append.number)) (λ node n. record { member = n.member; home = λ i. shows.more _ (n.home i) }) append.acked)
              (a.clients c).unfinished (f.appends_noted c);
          reads = f.reads;
          reads_noted = λ c. let n = f.reads_noted c in record { reach = n.reach; stage = stage c (a.readers c).config.view (a.readers c).stage n.stage };
        }

    -- ---- the controller
    first_in : (nodes : List ℕ) (node : ℕ) → is_first nodes node ≡ true → In node nodes
    first_in [] node h = cc
    first_in (first ∷ others) node h = inl (eqb-true first node h)

    flushed : (phase : Phase) → ControlNotes g.views a.shards phase → ControlNotes g.views after.shards phase
    flushed (Running reign) n = tt
    flushed (Sealing change) n = tt
    flushed (Flushing taken) n = each_weaker (NotedFlushed g.views a.shards (taken.from + length taken.items)) (NotedFlushed g.views after.shards (taken.from + length taken.items))
        (λ shard f. record {
          settled = settled g.views.cur shard (taken.from + length taken.items) f.settled;
          ended = λ d first is.
              let own = (f.settled d (first_in (replicas_at (g.views.cf g.views.cur) shard) d first)).own in
              let rises = (every d).view in
              let stayed : (a.shards d).view ≡ (after.shards d).view = omega arith in
              ((every d).order stayed).flushed (f.ended d first (stayed ∙ is));
        }) taken.flushed n

    -- ---- what was told
    rejected : (id : Identity) (place : ℕ) → RejectedSays shape g.views g.log a.shards id place → RejectedSays shape g.views later after.shards id place
    rejected id place r = record {
      apart = r.apart;
      below = r.below;
      stands = r.stands;
      void = λ d home some final. let stays = finals d place some r.below final in stays.same ∙ r.void d home stays.some stays.final;
    }

    -- an answer lies below what is bound for good
    answer_below :
        (client read from : ℕ) (entries : List Entry) (tail : Option ℕ) → In (Answer client read from entries tail) a.history → AnswerFacts shape g.views g.log a.history a.shards client read from entries tail →
        (k : ℕ) → k < length entries → from + k < g.log.low
    answer_below client read from entries tail i f k lt = by entries tail lt (moment.agreed.line.reached (Answer client read from entries tail) (answer_reach from entries tail) refl i) f.count
      where
        by : (entries : List Entry) (tail : Option ℕ) → k < length entries → answer_reach from entries tail ≤ g.log.low → ((t : ℕ) → tail ≡ Some t → length entries ≡ min (asked_to f.ask) t - from) → from + k < g.log.low
        by [] tail lt reach count = absurd (omega arith)
        by (entry ∷ entries) None lt reach count = omega arith
        by (entry ∷ entries) (Some t) lt reach count = let c = count t refl in omega arith

    told : ToldFacts shape g.views later a.history after.shards
    told =
        let f = moment.agreed.told in
        record {
          of_data = record {
            acked = λ id apart i. let h = f.of_data.acked id apart i in record { view = h.view; started = h.started; by_all = λ d among. shows.more _ (h.by_all d among) };
            rejected = λ id place i. rejected id place (f.of_data.rejected id place i);
            trimmed = λ client read floor i shard d among. let before = f.of_data.trimmed client read floor i shard d among in let rises = (every d).floor in omega arith;
          };
          of_reads = record {
            answers = λ client read from entries tail i.
                let h = f.of_reads.answers client read from entries tail i in
                record {
                  ask = h.ask;
                  begun = h.begun;
                  starts = h.starts;
                  unforced = h.unforced;
                  whole = h.whole;
                  count = h.count;
                  covers = h.covers;
                  told = λ k entry at.
                      let p = h.told k entry at in
                      record { shard = p.shard; known = p.known; tells = tells p.shard (from + k) (Some entry) (answer_below client read from entries tail i h k (slice_get_within entries k entry at)) p.tells };
                };
            seen = f.of_reads.seen;
          };
        }

    pub after_agreed : Agreed shape then after
    after_agreed = record {
      views = moment.agreed.views;
      history = moment.agreed.history;
      line = line;
      seqs = moment.agreed.seqs;
      among_seqs = seqs;
      shards = shards;
      places = places;
      bytes = put_cases (λ (d : ℕ) (x : ShardState). DataFacts a.history x.store) a.shards me t shows.bytes (λ d other. moment.agreed.bytes d);
      given = shows.stored;
      clients = clients;
      flushed = flushed a.control.phase moment.agreed.flushed;
      told = told;
    }

    -- a step that shows this is good
    pub shows_good : (sends : List (ℕ × Msg)) → Each (λ (send : ℕ × Msg). Said shape then after me send.0 send.1) sends → Good shape g a me after sends
    shows_good sends said = record { ghost = then; agreed = after_agreed; lifts = goes_on; said = said }
