-- A turn of the controller by which no more is taken back than it may: what other nodes have and note, and what clients
-- were told, holds of the views and the line that are known then.
use Rattle.std.proofs.Common.{◌≡◌, ◌⊎◌, ℕ, ◌+◌, ◌<◌, ◌≤◌, List, [], ◌∷◌, ◌++◌, length, take, true, Option, Some, None, inl, inr, refl, sym, ap, ◌∙◌, subst, arith}
use Rattle.std.specs.Prelude.{slice_get, min, ◌-◌}
use Rattle.std.proofs.lemmas.Bool.{cases_lt}
use Rattle.std.proofs.lemmas.List.{take-take}
use Rattle.std.proofs.lemmas.Option.{slice_get_within}
use Rattle.list_facts.specs.Lists.{In, Each}
use Rattle.list_facts.proofs.Members.{each_weaker}
use Rattle.rec_id.specs.History.{answer_reach, end_of, asked_to}
use Rattle.rec_id.specs.Identity.{Identity}
use Rattle.rec_id.specs.declared.entry.Entry.{Entry}
use Rattle.rec_id.specs.declared.event.Event.TheVariants.{Answer, Seen}
use Rattle.view_config.specs.declared.config.Config.{Config}
use Rattle.view_config.specs.Shape.{Dimensions}
use Rattle.lazy_msgs.specs.declared.msg.Msg.{Msg}
use Rattle.lazy_msgs.specs.declared.msg.Msg.TheVariants.{AppendAck, DataAck, Ordered, ProbeAck, TailReady, ViewIs}
use Rattle.lazy_rules.specs.ClientState.{ClientState, OpenAppend, id_of}
use Rattle.lazy_rules.specs.ControlState.{ControlState}
use Rattle.lazy_rules.specs.Flight.{Batch, Probe, batch_end}
use Rattle.lazy_rules.specs.Ids.{ids_of}
use Rattle.lazy_rules.specs.ReaderState.{Fetch, Force, Stage, Idle, Fetching, Probing, Trimming}
use Rattle.lazy_rules.specs.Roles.{is_first, followers_of, replicas_at}
use Rattle.lazy_rules.specs.SeqRules.{is_leader}
use Rattle.log_facts.specs.Agreed.{Agreed, ClientsAgree}
use Rattle.log_facts.specs.Finality.{line_ids, AllSettledIn, BarredOrCovered, IsShut}
use Rattle.log_facts.specs.Ghosts.{Ghost, Probed, IsStarted}
use Rattle.log_facts.specs.Growth.{ControlGrows}
use Rattle.log_facts.specs.Parts.{Formed, Parts, with_control}
use Rattle.log_facts.specs.Past.{Covers, HasBegun}
use Rattle.log_facts.specs.Said.{Said}
use Rattle.log_facts.specs.Says.{OrderedSays, PartSays, ProbeAckSays}
use Rattle.log_facts.specs.facts.OfClients.{AckNoted}
use Rattle.log_facts.specs.facts.OfReads.{AnswerFacts, FetchNotes, ForceNotes, StageNotes, ToldOfReads}
use Rattle.log_facts.specs.facts.OfSeqs.{AmongSeqs, BatchNoted, ClosedBy, LeaderReads, SeqFacts}
use Rattle.control_rows.proofs.Lists.{at_take}

-- how far an answer reaches that has an entry there
pub below_reach : (from : ℕ) (entries : List Entry) (tail : Option ℕ) (to k : ℕ) → k < length entries → ((t : ℕ) → tail ≡ Some t → length entries ≡ min to t - from) → from + k < answer_reach from entries tail
below_reach from [] None to k lt count = absurd (omega arith)
below_reach from (entry ∷ entries) None to k lt count = omega arith
below_reach from entries (Some t) to k lt count = let all = count t refl in omega arith

pub below_end : (from : ℕ) (ids : List Identity) (k : ℕ) → k < length ids → from + k < end_of from ids
below_end from [] k lt = absurd (omega arith)
below_end from (id ∷ ids) k lt = omega arith

module _ (shape : Dimensions) (g h : Ghost) (a : Parts) (k : ControlState) (formed : Formed shape a) (agreed : Agreed shape g a) (grows : ControlGrows g h a)
    (lift : (node to : ℕ) (msg : Msg) → Said shape g a node to msg → Said shape h (with_control a k) node to msg) where
  -- ---- the line below what is bound for good
  pub line_below : (n : ℕ) → n ≤ g.log.low → take n h.log.line ≡ take n g.log.line
  line_below n le = sym (take-take n g.log.low h.log.line le) ∙ ap (λ (ids : List Identity). take n ids) grows.line.below ∙ take-take n g.log.low g.log.line le

  pub at_below : (place : ℕ) → place < g.log.low → slice_get h.log.line place ≡ slice_get g.log.line place
  at_below place lt = sym (at_take g.log.low h.log.line place lt) ∙ ap (λ (ids : List Identity). slice_get ids place) grows.line.below ∙ at_take g.log.low g.log.line place lt

  -- ---- clients
  part_turned : (shard client read from end : ℕ) (entries : List (ℕ × Entry)) → PartSays shape g.views g.log a.history a.shards shard client read from end entries → PartSays shape h.views h.log a.history a.shards shard client read from end entries
  part_turned shard client read from end entries p = record {
    fetched = p.fetched;
    below = let low = grows.line.low in let below = p.below in omega arith;
    told = λ place le lt d sign home some final there. let below = p.below in let within : place < g.log.low = omega arith in
        p.told place le lt d sign home some (grows.finals d place some within final) there;
  }

  fetch_turned : (client : ℕ) (fetch : Fetch) → FetchNotes shape g.views g.log a.history a.shards client fetch → FetchNotes shape h.views h.log a.history a.shards client fetch
  fetch_turned client fetch n = record {
    wants = record {
      forward = n.wants.forward;
      unforced = n.wants.unforced;
      whole = n.wants.whole;
      forced = n.wants.forced;
      below = λ tail is. let low = grows.line.low in let below = n.wants.below tail is in omega arith;
      covers = λ tail is. subst (λ (ids : List Identity). Covers a.history client fetch.number ids tail) (sym (line_below tail (n.wants.below tail is))) (n.wants.covers tail is);
    };
    count = n.count;
    parts = λ shard entries is. part_turned shard client fetch.number _ fetch.end entries (n.parts shard entries is);
  }

  force_turned : (client view : ℕ) (force : Force) → ForceNotes g.views g.log a.history a.seqs client view force → ForceNotes h.views h.log a.history a.seqs client view force
  force_turned client view force n = record {
    acked = each_weaker (λ (node : ℕ). ProbeAckSays g.log.probed node view client force.number) (λ (node : ℕ). ProbeAckSays h.log.probed node view client force.number)
        (λ node said. lift node client (ProbeAck view force.number) said) force.acked n.acked;
    tail = λ tail is. lift 0 client (TailReady view force.number tail) (n.tail tail is);
  }

  stage_turned : (client view : ℕ) (stage : Stage) → StageNotes shape g.views g.log a.history a.seqs a.shards client view stage → StageNotes shape h.views h.log a.history a.seqs a.shards client view stage
  stage_turned client view Idle n = tt
  stage_turned client view (Fetching fetch) n = fetch_turned client fetch n
  stage_turned client view (Probing force) n = force_turned client view force n
  stage_turned client view (Trimming trimmer) n = record { below = let low = grows.line.low in let below = n.below in omega arith; acked = n.acked }

  ack_turned : (s : ClientState) (id : Identity) (node : ℕ) → AckNoted g.views g.log a.seqs s id node → AckNoted h.views h.log a.seqs s id node
  ack_turned s id node n = record {
    member = λ m. lift node 0 (AppendAck s.config.view id) (n.member m);
    home = λ m. lift node 0 (DataAck s.config.view id) (n.home m);
  }

  pub clients_turned : ClientsAgree shape h.views h.log (with_control a k)
  clients_turned = record {
    appends = λ c. let f = agreed.clients.appends c in record {
      config = lift 0 0 (ViewIs (a.clients c).config) f.config;
      next = f.next;
      few = f.few;
      rising = f.rising;
      opened = f.opened;
      begun = f.begun;
      ended = f.ended;
    };
    appends_noted = λ c. each_weaker
        (λ (append : OpenAppend). Each (AckNoted g.views g.log a.seqs (a.clients c) (id_of (a.clients c) append.number)) append.acked)
        (λ (append : OpenAppend). Each (AckNoted h.views h.log a.seqs (a.clients c) (id_of (a.clients c) append.number)) append.acked)
        (λ append n. each_weaker (AckNoted g.views g.log a.seqs (a.clients c) (id_of (a.clients c) append.number)) (AckNoted h.views h.log a.seqs (a.clients c) (id_of (a.clients c) append.number))
        (ack_turned (a.clients c) (id_of (a.clients c) append.number)) append.acked n)
        (a.clients c).unfinished (agreed.clients.appends_noted c);
    reads = λ c. let f = agreed.clients.reads c in record {
      config = lift 0 0 (ViewIs (a.readers c).config) f.config;
      reads = f.reads;
      trims = f.trims;
      stage = f.stage;
    };
    reads_noted = λ c. let n = agreed.clients.reads_noted c in record {
      reach = let low = grows.line.low in let reach = n.reach in omega arith;
      stage = stage_turned c (a.readers c).config.view (a.readers c).stage n.stage;
    };
  }

  -- ---- what clients were told of the order
  answer_turned : (client read from : ℕ) (entries : List Entry) (tail : Option ℕ) → In (Answer client read from entries tail) a.history
      → AnswerFacts shape g.views g.log a.history a.shards client read from entries tail → AnswerFacts shape h.views h.log a.history a.shards client read from entries tail
  answer_turned client read from entries tail stands f = record {
    ask = f.ask;
    begun = f.begun;
    starts = f.starts;
    unforced = f.unforced;
    whole = f.whole;
    count = f.count;
    covers = λ t is. subst (λ (ids : List Identity). Covers a.history client read ids t) (sym (line_below t (reaches t (ap (λ (o : Option ℕ). Some (answer_reach from entries o)) is)))) (f.covers t is);
    told = λ n entry at. let p = f.told n entry at in record {
      shard = p.shard;
      known = p.known;
      tells = λ d sign home some final there. p.tells d sign home some (grows.finals d (from + n) some (below n entry at) final) there;
    };
  }
    where
      reaches : (reach : ℕ) → Some (answer_reach from entries tail) ≡ Some reach → reach ≤ g.log.low
      reaches reach is = agreed.line.reached (Answer client read from entries tail) reach is stands

      below : (n : ℕ) (entry : Entry) → slice_get entries n ≡ Some entry → from + n < g.log.low
      below n entry at =
          let within = slice_get_within entries n entry at in
          let one = below_reach from entries tail (asked_to f.ask) n within f.count in
          let two = agreed.line.reached (Answer client read from entries tail) (answer_reach from entries tail) refl stands in
          omega arith

  pub reads_turned : ToldOfReads shape h.views h.log a.history a.shards
  reads_turned = record {
    answers = λ client read from entries tail stands. answer_turned client read from entries tail stands (agreed.told.of_reads.answers client read from entries tail stands);
    seen = λ client from ids stands n x at.
        let within = slice_get_within ids n x at in
        let one = below_end from ids n within in
        let two = agreed.line.reached (Seen client from ids) (end_of from ids) refl stands in
        at_below (from + n) (omega arith) ∙ agreed.told.of_reads.seen client from ids stands n x at;
  }

  -- ---- sequencing replicas
  known : (node : ℕ) → (a.seqs node).view ≤ g.views.cur
  known node = let one = (agreed.seqs node).known in let two = agreed.views.started.latest in omega arith

  leader_first : (node : ℕ) → 1 ≤ (a.seqs node).view → is_leader (a.seqs node) ≡ true → is_first (g.views.cf (a.seqs node).view).seq node ≡ true
  leader_first node some leads =
      subst (λ (n : ℕ). is_first (g.views.cf (a.seqs node).view).seq n ≡ true) (formed.seqs node).numbered
      (subst (λ (config : Config). is_first config.seq (a.seqs node).node ≡ true) ((agreed.seqs node).joined some).config leads)

  -- the view of a replica is the current one, which is started, or it was closed
  live_or_closed : (node : ℕ) → ((a.seqs node).view < g.views.cur) ⊎ (((a.seqs node).view ≡ g.views.cur) × (g.views.lv ≡ g.views.cur))
  live_or_closed node = elim (cases_lt (a.seqs node).view g.views.cur) [
    | inl lt ↦ inl lt
    | inr not ↦
        let one = (agreed.seqs node).known in
        let two = agreed.views.started.latest in
        let now : (a.seqs node).view ≡ g.views.cur = omega arith in
        let live : g.views.lv ≡ g.views.cur = omega arith in
        inr (now, live)
  ]

  first_now : (node : ℕ) → 1 ≤ (a.seqs node).view → is_leader (a.seqs node) ≡ true → (a.seqs node).view ≡ g.views.cur → is_first (g.views.cf g.views.cur).seq node ≡ true
  first_now node some leads now = subst (λ (view : ℕ). is_first (g.views.cf view).seq node ≡ true) now (leader_first node some leads)

  leader_low : (node : ℕ) → 1 ≤ (a.seqs node).view → is_leader (a.seqs node) ≡ true → (a.seqs node).bound ≤ g.log.low
  leader_low node some leads = elim (live_or_closed node) [
    | inl lt ↦ let one = (agreed.seqs node).closed leads lt in let two = agreed.line.closed (a.seqs node).view lt in omega arith
    | inr now ↦ let same = ((agreed.line.live now.1).leader node (first_now node some leads now.0)).low now.0 in omega arith
  ]

  module _ (bases : (view : ℕ) → view ≤ g.views.lv → h.views.bs view ≡ g.views.bs view) where
    pub seq_turned : (node : ℕ) → SeqFacts shape h.views a.history node (a.seqs node)
    seq_turned node =
        let f = agreed.seqs node in
        let lv = grows.views.lv in
        record {
          known = let before = f.known in omega arith;
          joined = λ some. let j = f.joined some in record {
            started = grows.views.started (a.seqs node).view j.started;
            member = subst (λ (config : Config). In node config.seq) (sym (grows.views.configs (a.seqs node).view (known node))) j.member;
            config = j.config ∙ sym (grows.views.configs (a.seqs node).view (known node));
          };
          items = f.items;
          based = let based = f.based in let same = bases (a.seqs node).view f.known in omega arith;
          leads = f.leads;
          unled = f.unled;
          unasked = f.unasked;
          closed = closed node;
        }
      where
        closed : (n : ℕ) → is_leader (a.seqs n) ≡ true → (a.seqs n).view < h.views.cur → (a.seqs n).bound ≤ h.views.cl (a.seqs n).view
        closed n leads lt = elim (live_or_closed n) [
          | inl before ↦ let one = (agreed.seqs n).closed leads before in let same = grows.views.closings (a.seqs n).view before in omega arith
          | inr now ↦
              let is = now.0 in
              let live = now.1 in
              let first = agreed.views.started.some in
              let some : 1 ≤ (a.seqs n).view = omega arith in
              let later : g.views.cur < h.views.cur = omega arith in
              let one = leader_low n some leads in
              let two = (grows.closes later (subst (λ (view : ℕ). IsStarted g.views view) is ((agreed.seqs n).joined some).started)).low in
              let same : h.views.cl (a.seqs n).view ≡ h.views.cl g.views.cur = ap h.views.cl is in
              omega arith
        ]

  module _ (sv_is : (view : ℕ) → view < g.views.cur → h.views.sv view ≡ g.views.sv view)
      (closed_now : (view : ℕ) → 1 ≤ view → g.views.cur ≤ view → view < h.views.cur → ClosedBy h.views a.seqs view)
      (kept_now : g.views.cur < h.views.cur → take (h.views.cl g.views.cur) h.log.line ≡ take (h.views.cl g.views.cur) g.log.line) where
    closer_turned : (view : ℕ) → view < g.views.cur → ClosedBy g.views a.seqs view → ClosedBy h.views a.seqs view
    closer_turned view lt c =
        let least = agreed.views.started.below view in
        record {
          member = subst (λ (n : ℕ). In n (h.views.cf (h.views.sv view)).seq) (sym (grows.views.closers view lt))
              (subst (λ (u : ℕ). In (g.views.cx view) (h.views.cf u).seq) (sym (sv_is view lt))
              (subst (λ (config : Config). In (g.views.cx view) config.seq) (sym (grows.views.configs (g.views.sv view) (omega arith))) c.member));
          shut = subst (λ (n : ℕ). IsShut (a.seqs n) (h.views.sv view)) (sym (grows.views.closers view lt))
              (subst (λ (u : ℕ). IsShut (a.seqs (g.views.cx view)) u) (sym (sv_is view lt)) c.shut);
        }

    settled_turned : (view shard upto : ℕ) → view ≤ g.views.cur → AllSettledIn g.views a.shards view shard upto → AllSettledIn h.views a.shards view shard upto
    settled_turned view shard upto le s d m = s d (subst (λ (config : Config). In d (replicas_at config shard)) (grows.views.configs view le) m)

    batch_turned : (node : ℕ) (batch : Batch) → BatchNoted g.views a.seqs a.shards (a.seqs node) batch → BatchNoted h.views a.seqs a.shards (a.seqs node) batch
    batch_turned node batch n = record {
      placed = each_weaker (λ (shard : ℕ). AllSettledIn g.views a.shards (a.seqs node).view shard (batch_end batch)) (λ (shard : ℕ). AllSettledIn h.views a.shards (a.seqs node).view shard (batch_end batch))
          (λ shard s. settled_turned (a.seqs node).view shard (batch_end batch) (known node) s) batch.placed n.placed;
      ordered = each_weaker
          (λ (i : ℕ). (other : ℕ) → slice_get (followers_of (a.seqs node).config) i ≡ Some other → OrderedSays g.views (a.seqs other) other (a.seqs node).view (batch_end batch))
          (λ (i : ℕ). (other : ℕ) → slice_get (followers_of (a.seqs node).config) i ≡ Some other → OrderedSays h.views (a.seqs other) other (a.seqs node).view (batch_end batch))
          (λ i said other is. lift other 0 (Ordered (a.seqs node).view (batch_end batch)) (said other is)) batch.ordered n.ordered;
    }

    pub barred_turned : (view client read : ℕ) (ids : List Identity) (bound : ℕ) → view ≤ g.views.cur
        → BarredOrCovered g.views g.log.probed a.history a.seqs view client read ids bound → BarredOrCovered h.views h.log.probed a.history a.seqs view client read ids bound
    barred_turned view client read ids bound le (inl b) = inl (record {
      node = b.node;
      member = subst (λ (config : Config). In b.node config.seq) (sym (grows.views.configs view le)) b.member;
      shut = b.shut;
      silent = λ m. b.silent (subst (λ (probed : List Probed). In (record { node = b.node; view = view; client = client; read = read }) probed) grows.line.probed m);
    })
    barred_turned view client read ids bound le (inr c) = inr c

    leader_turned : (node : ℕ) → 1 ≤ (a.seqs node).view → is_leader (a.seqs node) ≡ true → LeaderReads g.views g.log a.history a.seqs (a.seqs node) → LeaderReads h.views h.log a.history a.seqs (a.seqs node)
    leader_turned node some leads r = record {
      cover = λ client read began. subst (λ (ids : List Identity). Known client read ids (a.seqs node).bound) (sym same) (barred_turned view client read (line_ids g.log.line (a.seqs node)) (a.seqs node).bound (known node) (r.cover client read began));
      waiting = each_weaker
          (λ (probe : Probe). BarredOrCovered g.views g.log.probed a.history a.seqs view probe.client probe.read (take probe.target (line_ids g.log.line (a.seqs node))) probe.target)
          (λ (probe : Probe). BarredOrCovered h.views h.log.probed a.history a.seqs view probe.client probe.read (take probe.target (line_ids h.log.line (a.seqs node))) probe.target)
          (λ probe b. subst (λ (ids : List Identity). Known probe.client probe.read (take probe.target ids) probe.target) (sym same)
          (barred_turned view probe.client probe.read (take probe.target (line_ids g.log.line (a.seqs node))) probe.target (known node) b))
          (a.seqs node).probes r.waiting;
      old = old;
    }
      where
        view : ℕ
        view = (a.seqs node).view

        Known : ℕ → ℕ → List Identity → ℕ → Type 0
        Known client read ids bound = BarredOrCovered h.views h.log.probed a.history a.seqs (a.seqs node).view client read ids bound

        same : line_ids h.log.line (a.seqs node) ≡ line_ids g.log.line (a.seqs node)
        same = ap (λ (ids : List Identity). ids ++ ids_of (a.seqs node).pending) (line_below (a.seqs node).bound (leader_low node some leads))

        old : (a.seqs node).view < h.views.cur → take (h.views.cl (a.seqs node).view) (line_ids h.log.line (a.seqs node)) ≡ take (h.views.cl (a.seqs node).view) h.log.line
        old lt = elim (live_or_closed node) [
          | inl before ↦
              let closing = grows.views.closings (a.seqs node).view before in
              let least = agreed.line.closed (a.seqs node).view before in
              ap (λ (ids : List Identity). take (h.views.cl (a.seqs node).view) ids) same
              ∙ subst (λ (n : ℕ). take n (line_ids g.log.line (a.seqs node)) ≡ take n g.log.line) (sym closing) (r.old before)
              ∙ sym (line_below (h.views.cl (a.seqs node).view) (omega arith))
          | inr now ↦
              let is = now.0 in
              let taken = ((agreed.line.live now.1).leader node (first_now node some leads is)).taken is in
              let later : g.views.cur < h.views.cur = omega arith in
              ap (λ (ids : List Identity). take (h.views.cl (a.seqs node).view) ids) (same ∙ taken)
              ∙ sym (subst (λ (u : ℕ). take (h.views.cl u) h.log.line ≡ take (h.views.cl u) g.log.line) (sym is) (kept_now later))
        ]

    pub among_turned : AmongSeqs h.views h.log a.history a.seqs a.shards
    among_turned = record {
      closers = λ view some lt. elim (cases_lt view g.views.cur) [
        | inl before ↦ closer_turned view before (agreed.among_seqs.closers view some before)
        | inr not ↦ closed_now view some not lt
      ];
      noted = λ node. each_weaker (BatchNoted g.views a.seqs a.shards (a.seqs node)) (BatchNoted h.views a.seqs a.shards (a.seqs node)) (batch_turned node) (a.seqs node).flight (agreed.among_seqs.noted node);
      reads = λ node some leads. leader_turned node some leads (agreed.among_seqs.reads node some leads);
      probed = subst (λ (probed : List Probed). Each (λ (one : Probed). HasBegun a.history one.client one.read) probed) (sym grows.line.probed) agreed.among_seqs.probed;
    }
