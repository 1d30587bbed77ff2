-- At a step of one sequencing replica all messages go on saying what they said, and so do the notes of clients and
-- of other replicas, and what clients were told.
use Rattle.std.proofs.Common.{◌≡◌, ℕ, ◌+◌, ◌-◌, ◌<◌, ◌≤◌, min, List, [], ◌∷◌, length, take, true, Option, Some, None, inl, inr, refl, sym, ap, ◌∙◌, subst, arith}
use Rattle.std.specs.Prelude.{slice_get}
use Rattle.std.proofs.lemmas.Bool.{cases_lt}
use Rattle.std.proofs.lemmas.Option.{slice_get_within}
use Rattle.list_facts.specs.Lists.{Each, Front, In}
use Rattle.list_facts.proofs.Members.{each_in, each_weaker, in_cases, in_each, in_left, in_right}
use Rattle.list_facts.proofs.Puts.{put_cases}
use Rattle.rec_id.specs.Identity.{Identity}
use Rattle.rec_id.specs.declared.entry.Entry.{Entry}
use Rattle.rec_id.specs.declared.event.Event.TheVariants.{Answer}
use Rattle.rec_id.specs.History.{answer_reach, asked_from, asked_to}
use Rattle.view_config.specs.Shape.{Dimensions}
use Rattle.lazy_msgs.specs.declared.msg.Msg.{Msg}
use Rattle.lazy_msgs.specs.declared.msg.Msg.TheVariants.{AppendAck, Ordered, Rejected, TailReady}
use Rattle.lazy_rules.specs.ClientState.{ClientState, OpenAppend, id_of}
use Rattle.lazy_rules.specs.Flight.{Batch, Probe, batch_end}
use Rattle.lazy_rules.specs.Ids.{ids_of}
use Rattle.lazy_rules.specs.ReaderRules.{entry_at}
use Rattle.lazy_rules.specs.ReaderState.{Fetch, Fetching, Idle, Probing, Stage, Trimming}
use Rattle.lazy_rules.specs.Roles.{followers_of}
use Rattle.lazy_rules.specs.SeqRules.{is_leader}
use Rattle.lazy_rules.specs.SeqState.{SeqState}
use Rattle.log_facts.specs.Agreed.{Agreed, ClientsAgree, ToldFacts}
use Rattle.log_facts.specs.Finality.{BarredOrCovered, IsFinal, TellsPlace, line_ids}
use Rattle.log_facts.specs.Ghosts.{Ghost, Given, Log, Views}
use Rattle.log_facts.specs.Growth.{LogGrows, NodeGrows, SeqGrows}
use Rattle.log_facts.specs.Parts.{Parts, with_seq}
use Rattle.log_facts.specs.Past.{Covers, HasBegun}
use Rattle.log_facts.specs.Said.{Said}
use Rattle.log_facts.specs.Says.{DataAckSays, OrderedSays, PartSays, ProbeAckSays}
use Rattle.log_facts.specs.facts.OfClients.{AckNoted, ClientNotes}
use Rattle.log_facts.specs.facts.OfData.{AmongGiven}
use Rattle.log_facts.specs.facts.OfReads.{AnswerFacts, FetchNotes, StageNotes}
use Rattle.log_facts.specs.facts.OfSeqs.{BatchNoted, ClosedBy, FlightFacts, LeaderReads, WaitsFor}
use Rattle.log_facts.proofs.growth.SaidNodes.{front_take, piece_later, said_nodes}
use Rattle.log_facts.proofs.growth.Shuts.{cover_later, shut_later}
use Rattle.log_facts.proofs.telling.Stands.{history_same, seq_same, shard_same}
use Rattle.seq_rows.proofs.Longer.{line_same, take_front}

-- what a replica has of the line stands there when that goes on
pub line_more : (line later : List Identity) (s : SeqState) → Front line later → (id : Identity) → In id (line_ids line s) → In id (line_ids later s)
line_more line later s front id i = elim (in_cases id (take s.bound line) (ids_of s.pending) i) [
  | inl bound ↦ in_left id (take s.bound later) (ids_of s.pending) (front_take s.bound line later front id bound)
  | inr pending ↦ in_right id (take s.bound later) (ids_of s.pending) pending
]

-- an entry lies below where its answer reaches
below_reach : (from : ℕ) (entries : List Entry) (tail : Option ℕ) (to k : ℕ) → k < length entries → ((t : ℕ) → tail ≡ Some t → length entries ≡ min to t - from) → from + k < answer_reach from entries tail
below_reach from [] tail to k within count = absurd (omega arith)
below_reach from (entry ∷ entries) None to k within count = omega arith
below_reach from (entry ∷ entries) (Some t) to k within count = let long : length (entry ∷ entries) ≡ min to t - from = count t refl in omega arith

-- the replica and the log grow: no acknowledgement of data comes, and what stood in the replica's line stands there
pub record Grown (g : Ghost) (a : Parts) (me : ℕ) (t : SeqState) (later : Log) : Type 0 where
  pub grows : SeqGrows (a.seqs me) t
  pub logs : LogGrows a.seqs g.log later
  pub given : later.given ≡ g.log.given
  pub has : (id : Identity) → g.views.cur ≤ (a.seqs me).view → In id (line_ids g.log.line (a.seqs me)) → In id (line_ids later.line t)

module _ (shape : Dimensions) (g : Ghost) (a : Parts) (me : ℕ) (agreed : Agreed shape g a) (t : SeqState) (later : Log) (grown : Grown g a me t later) where
  logs : LogGrows a.seqs g.log later
  logs = grown.logs

  given : later.given ≡ g.log.given
  given = grown.given

  abbrev v : Views
  v = g.views

  abbrev log : Log
  log = g.log

  abbrev then : Ghost
  then = record { views = g.views; log = later }

  abbrev b : Parts
  b = with_seq a me t

  seqs_grow : (node : ℕ) → SeqGrows (a.seqs node) (b.seqs node)
  seqs_grow = put_cases (λ (node : ℕ) (s : SeqState). SeqGrows (a.seqs node) s) a.seqs me t grown.grows (λ node other. seq_same (a.seqs node))

  final_low : (view place : ℕ) → place < log.low → IsFinal v later.high view place → IsFinal v log.high view place
  final_low view place below (inl now) = let low = agreed.line.low in inl (now.0, omega arith)
  final_low view place below (inr closed) = inr closed

  node_grows : NodeGrows v log later a b
  node_grows = record {
    history = history_same log.probed a.history;
    logs = logs;
    seqs = seqs_grow;
    lines = put_cases (λ (node : ℕ) (s : SeqState). (id : Identity) → v.cur ≤ (a.seqs node).view → In id (line_ids log.line (a.seqs node)) → In id (line_ids later.line s)) a.seqs me t
        grown.has (λ node other id live. line_more log.line later.line (a.seqs node) grown.logs.line id);
    shards = λ d. shard_same (a.shards d);
    finals = λ d place some below final. record { some = some; final = final_low (a.shards d).view place below final; same = refl };
  }

  pub lift : (node to : ℕ) (msg : Msg) → Said shape g a node to msg → Said shape then b node to msg
  lift = said_nodes shape g later a b agreed node_grows

  -- ---- what clients note
  acked_on : (k : ClientState) (id : Identity) (node : ℕ) → AckNoted v log a.seqs k id node → AckNoted v later b.seqs k id node
  acked_on k id node n = record {
    member = λ i. lift node 0 (AppendAck k.config.view id) (n.member i);
    home = λ i. subst (λ (list : List Given). DataAckSays list node k.config.view id) (sym given) (n.home i);
  }

  appends_on : (c : ℕ) → ClientNotes v later b.seqs (a.clients c)
  appends_on c =
      let k : ClientState = a.clients c in
      each_weaker (λ (append : OpenAppend). Each (AckNoted v log a.seqs k (id_of k append.number)) append.acked) (λ (append : OpenAppend). Each (AckNoted v later b.seqs k (id_of k append.number)) append.acked)
      (λ append. each_weaker (AckNoted v log a.seqs k (id_of k append.number)) (AckNoted v later b.seqs k (id_of k append.number)) (acked_on k (id_of k append.number)) append.acked)
      k.unfinished (agreed.clients.appends_noted c)

  tells_on : (shard place : ℕ) (told : Option Entry) → place < log.low → TellsPlace v log.high a.history a.shards shard place told → TellsPlace v later.high a.history a.shards shard place told
  tells_on shard place told below tells d sign home some final at = tells d sign home some (final_low (a.shards d).view place below final) at

  part_on : (shard client read from end : ℕ) (entries : List (ℕ × Entry)) → PartSays shape v log a.history a.shards shard client read from end entries → PartSays shape v later a.history a.shards shard client read from end entries
  part_on shard client read from end entries p =
      let below = p.below in
      let low = grown.logs.low in
      record { fetched = p.fetched; below = omega arith; told = λ place least within. tells_on shard place (entry_at entries place) (omega arith) (p.told place least within) }

  covers_on : (client read tail : ℕ) → Covers a.history client read (take tail log.line) tail → Covers a.history client read (take tail later.line) tail
  covers_on client read tail c = record { ended = λ id e. front_take tail log.line later.line grown.logs.line id (c.ended id e); reached = c.reached }

  fetch_on : (c : ℕ) (fetch : Fetch) → FetchNotes shape v log a.history a.shards c fetch → FetchNotes shape v later a.history a.shards c fetch
  fetch_on c fetch f = record {
    wants = record {
      forward = f.wants.forward;
      unforced = f.wants.unforced;
      whole = f.wants.whole;
      forced = f.wants.forced;
      below = λ tail is. let below = f.wants.below tail is in let low = grown.logs.low in omega arith;
      covers = λ tail is. covers_on c fetch.number tail (f.wants.covers tail is);
    };
    count = f.count;
    parts = λ shard entries at. part_on shard c fetch.number (asked_from fetch.ask) fetch.end entries (f.parts shard entries at);
  }

  stage_on : (c view : ℕ) (stage : Stage) → StageNotes shape v log a.history a.seqs a.shards c view stage → StageNotes shape v later a.history b.seqs a.shards c view stage
  stage_on c view Idle n = tt
  stage_on c view (Fetching fetch) n = fetch_on c fetch n
  stage_on c view (Probing force) n = record {
    acked = each_weaker (λ (node : ℕ). ProbeAckSays log.probed node view c force.number) (λ (node : ℕ). ProbeAckSays later.probed node view c force.number) (λ node i. logs.probed _ i) force.acked n.acked;
    tail = λ tail is. lift 0 c (TailReady view force.number tail) (n.tail tail is);
  }
  stage_on c view (Trimming trimmer) n = let below = n.below in let low = grown.logs.low in record { below = omega arith; acked = n.acked }

  pub clients_on : ClientsAgree shape v later b
  clients_on = record {
    appends = agreed.clients.appends;
    appends_noted = appends_on;
    reads = agreed.clients.reads;
    reads_noted = λ c.
        let n = agreed.clients.reads_noted c in
        let reach = n.reach in
        let low = grown.logs.low in
        record { reach = omega arith; stage = stage_on c (a.readers c).config.view (a.readers c).stage n.stage };
  }

  -- ---- what clients were told
  answer_on : (client read from : ℕ) (entries : List Entry) (tail : Option ℕ) → In (Answer client read from entries tail) a.history → AnswerFacts shape v log a.history a.shards client read from entries tail → AnswerFacts shape v later a.history a.shards client read from entries tail
  answer_on client read from entries tail stands f =
      let reached : answer_reach from entries tail ≤ log.low = agreed.line.reached (Answer client read from entries tail) (answer_reach from entries tail) refl stands in
      record {
        ask = f.ask;
        begun = f.begun;
        starts = f.starts;
        unforced = f.unforced;
        whole = f.whole;
        count = f.count;
        covers = λ t is. covers_on client read t (f.covers t is);
        told = λ k entry at.
            let p = f.told k entry at in
            let within = below_reach from entries tail (asked_to f.ask) k (slice_get_within entries k entry at) f.count in
            record { shard = p.shard; known = p.known; tells = tells_on p.shard (from + k) (Some entry) (omega arith) p.tells };
      }

  pub told_on : ToldFacts shape v later a.history a.shards
  told_on = record {
    of_data = record {
      acked = λ id apart stands.
          let all = agreed.told.of_data.acked id apart stands in
          record { view = all.view; started = all.started; by_all = λ d i. logs.given _ (all.by_all d i) };
      rejected = λ id place stands. lift 0 0 (Rejected id place) (agreed.told.of_data.rejected id place stands);
      trimmed = agreed.told.of_data.trimmed;
    };
    of_reads = record {
      answers = λ client read from entries tail stands. answer_on client read from entries tail stands (agreed.told.of_reads.answers client read from entries tail stands);
      seen = λ client from ids stands. piece_later log.line later.line grown.logs.line from ids (agreed.told.of_reads.seen client from ids stands);
    };
  }

  pub given_on : AmongGiven shape v later.given a.shards
  given_on = subst (λ (list : List Given). AmongGiven shape v list a.shards) (sym given) agreed.given

  -- ---- what sequencing replicas have of each other
  pub closers_on : (view : ℕ) → 1 ≤ view → view < v.cur → ClosedBy v b.seqs view
  closers_on view some below =
      let c = agreed.among_seqs.closers view some below in
      record { member = c.member; shut = shut_later (a.seqs (v.cx view)) (b.seqs (v.cx view)) (seqs_grow (v.cx view)) (v.sv view) c.shut }

  -- a batch whose notes are the same
  pub batch_on : (s : SeqState) (batch : Batch) → BatchNoted v a.seqs a.shards s batch → BatchNoted v b.seqs a.shards s batch
  batch_on s batch n = record {
    placed = n.placed;
    ordered = each_weaker (λ (i : ℕ). (node : ℕ) → slice_get (followers_of s.config) i ≡ Some node → OrderedSays v (a.seqs node) node s.view (batch_end batch))
        (λ (i : ℕ). (node : ℕ) → slice_get (followers_of s.config) i ≡ Some node → OrderedSays v (b.seqs node) node s.view (batch_end batch))
        (λ i said node at. lift node 0 (Ordered s.view (batch_end batch)) (said node at)) batch.ordered n.ordered;
  }

  pub flight_on : (s : SeqState) (flight : List Batch) → Each (BatchNoted v a.seqs a.shards s) flight → Each (BatchNoted v b.seqs a.shards s) flight
  flight_on s flight = each_weaker (BatchNoted v a.seqs a.shards s) (BatchNoted v b.seqs a.shards s) (batch_on s) flight

  -- what a read must see goes on being there, where more is
  pub cover_on : (view client read : ℕ) → HasBegun a.history client read → (ids more : List Identity) (bound higher : ℕ) → ((id : Identity) → In id ids → In id more) → bound ≤ higher
      → BarredOrCovered v log.probed a.history a.seqs view client read ids bound → BarredOrCovered v later.probed a.history b.seqs view client read more higher
  cover_on = cover_later v log later a.history a.history a.seqs b.seqs (history_same log.probed a.history) logs seqs_grow

  -- a leader that has as much as before
  module _ (s : SeqState) (flying : FlightFacts a.history s) (r : LeaderReads v log a.history a.seqs s) where
    pub waiting_on : Each (λ (probe : Probe). BarredOrCovered v later.probed a.history b.seqs s.view probe.client probe.read (take probe.target (line_ids log.line s)) probe.target) s.probes
    waiting_on = in_each (λ (probe : Probe). BarredOrCovered v later.probed a.history b.seqs s.view probe.client probe.read (take probe.target (line_ids log.line s)) probe.target) s.probes
        (λ probe i. cover_on s.view probe.client probe.read (each_in (WaitsFor a.history s) s.probes flying.waiting probe i).begun
        (take probe.target (line_ids log.line s)) (take probe.target (line_ids log.line s)) probe.target probe.target (λ id j. j) (omega arith)
        (each_in (λ (probe : Probe). BarredOrCovered v log.probed a.history a.seqs s.view probe.client probe.read (take probe.target (line_ids log.line s)) probe.target) s.probes r.waiting probe i))

    pub reads_on : s.bound ≤ length log.line → (s.view < v.cur → v.cl s.view ≤ length log.line) → LeaderReads v later a.history b.seqs s
    reads_on short closed =
        let same : line_ids log.line s ≡ line_ids later.line s = sym (line_same log.line later.line s grown.logs.line short) in
        record {
          cover = λ client read begun. cover_on s.view client read begun (line_ids log.line s) (line_ids later.line s) s.bound s.bound (line_more log.line later.line s grown.logs.line) (omega arith) (r.cover client read begun);
          waiting = subst (λ (ids : List Identity). Each (λ (probe : Probe). BarredOrCovered v later.probed a.history b.seqs s.view probe.client probe.read (take probe.target ids) probe.target) s.probes) same waiting_on;
          old = λ below. ap (take (v.cl s.view)) (sym same) ∙ r.old below ∙ sym (take_front (v.cl s.view) log.line later.line grown.logs.line (closed below));
        }

  -- a leader knows no more to be bound than there is
  pub bound_short : (node : ℕ) → is_leader (a.seqs node) ≡ true → (a.seqs node).bound ≤ length log.line
  bound_short node leads = elim (cases_lt (a.seqs node).view v.cur) [
    | inl below ↦
        let least = (agreed.seqs node).closed leads below in
        let closed = agreed.line.closed (a.seqs node).view below in
        let low = agreed.line.low in
        let high = agreed.line.high in
        omega arith
    | inr not ↦
        let known = (agreed.seqs node).known in
        let latest = agreed.views.started.latest in
        (agreed.line.members node (omega arith)).held.short
  ]

  pub closed_short : (view : ℕ) → view < v.cur → v.cl view ≤ length log.line
  closed_short view below = let closed = agreed.line.closed view below in let low = agreed.line.low in let high = agreed.line.high in omega arith

  pub reads_other : (node : ℕ) → 1 ≤ (a.seqs node).view → is_leader (a.seqs node) ≡ true → LeaderReads v later a.history b.seqs (a.seqs node)
  reads_other node some leads = reads_on (a.seqs node) ((agreed.seqs node).leads leads) (agreed.among_seqs.reads node some leads) (bound_short node leads) (closed_short (a.seqs node).view)
