-- A view starts: each shard has the whole line, and with that the view begins.
use Rattle.std.proofs.Common.{◌≡◌, ℕ, ◌+◌, ◌<◌, ◌≤◌, List, [], ◌++◌, length, take, true, None, inl, inr, refl, sym, ap, ◌∙◌, subst, arith}
use Rattle.std.proofs.lemmas.Bool.{cases_lt, cases_Bool}
use Rattle.std.proofs.lemmas.List.{append-nil, take_all}
use Rattle.list_facts.specs.Lists.{In}
use Rattle.list_facts.proofs.Members.{each_map, in_each}
use Rattle.rec_id.specs.declared.marks.Marks.{Marks}
use Rattle.view_config.specs.Shape.{Dimensions}
use Rattle.view_config.specs.declared.config.Config.{Config}
use Rattle.lazy_msgs.specs.declared.msg.Msg.{Msg}
use Rattle.lazy_rules.specs.ControlRules.{new_reign, new_view_msg, reigning, starts_view}
use Rattle.lazy_rules.specs.ControlState.{ControlState, Phase, Taken, Flushing, Running}
use Rattle.lazy_rules.specs.Ids.{ids_of}
use Rattle.lazy_rules.specs.Roles.{is_first, replicas_at}
use Rattle.log_facts.proofs.growth.SaidControl.{said_control}
use Rattle.log_facts.specs.Agreed.{Agreed, PlacesAgree, ShardsAgree}
use Rattle.log_facts.specs.Finality.{IsSettled}
use Rattle.log_facts.specs.Ghosts.{Ghost, IsStarted}
use Rattle.log_facts.specs.Good.{GoodControl, Moment}
use Rattle.log_facts.specs.Growth.{ControlGrows}
use Rattle.log_facts.specs.Parts.{Parts, home_of, with_control}
use Rattle.log_facts.specs.Said.{Said}
use Rattle.log_facts.specs.Says.{NewViewSays}
use Rattle.log_facts.specs.facts.OfData.{ToldOfData}
use Rattle.log_facts.specs.facts.OfLine.{BaseFacts, Held, LineFacts, LiveFacts, TakenHeld}
use Rattle.log_facts.specs.facts.OfViews.{BoundsFacts, ConfigsFacts, ControlFacts, StartedFacts}
use Rattle.control_rows.proofs.Beginning.{all_begun, among_begun, begun, final_begun, given_begun, jobs_begun, order_begun, rank_begun, since_before, since_from, started_now, started_still, was_final_low}
use Rattle.control_rows.proofs.Turning.{among_turned, clients_turned, reads_turned, seq_turned}
use Rattle.control_rows.proofs.Noting.{Told}

module _ (shape : Dimensions) (g : Ghost) (a : Parts) (moment : Moment shape g a) (taken : Taken) (unstarted : g.views.lv < g.views.cur) (config_is : taken.config ≡ g.views.cf g.views.cur)
    (had : TakenHeld shape g.log a.history taken)
    (all : (shard d : ℕ) → In d (replicas_at (g.views.cf g.views.cur) shard) → IsSettled (a.shards d) g.views.cur (length g.log.line))
    (ended : (shard d : ℕ) → is_first (replicas_at (g.views.cf g.views.cur) shard) d ≡ true → (a.shards d).view ≡ g.views.cur → (a.shards d).flush ≡ None)
    (end : taken.from + length taken.items ≡ length g.log.line) where
  abbrev base : ℕ
  base = taken.from + length taken.items

  abbrev h : Ghost
  h = record {
    views = begun g.views base taken.window;
    log = record g.log { low = length g.log.line; high = length g.log.line };
  }

  agreed : Agreed shape g a
  agreed = moment.agreed

  late : (view : ℕ) → g.views.cur ≤ view → g.views.sv view ≡ g.views.lv
  late view le = agreed.views.started.last view (omega arith)

  sv_before : (w : ℕ) → w < g.views.cur → h.views.sv w ≡ g.views.sv w
  sv_before w lt = since_before g.views.sv g.views.cur g.views.cur w lt

  sv_from : (w : ℕ) → g.views.cur ≤ w → h.views.sv w ≡ g.views.cur
  sv_from w le = since_from g.views.sv g.views.cur g.views.cur w le

  bs_before : (w : ℕ) → w < g.views.cur → h.views.bs w ≡ g.views.bs w
  bs_before w lt = since_before g.views.bs g.views.cur base w lt

  bs_from : (w : ℕ) → g.views.cur ≤ w → h.views.bs w ≡ base
  bs_from w le = since_from g.views.bs g.views.cur base w le

  started_before : (w : ℕ) → IsStarted g.views w → w < g.views.cur
  started_before w s = elim (cases_lt w g.views.cur) [ inl lt ↦ lt | inr not ↦ let is = late w not in let own = s.is in absurd (omega arith) ]

  -- ---- views
  configs_now : ConfigsFacts shape h.views
  configs_now = let c = agreed.views.configs in record { named = c.named; numbered = c.numbered; lists = c.lists; later = c.later }

  started_facts : StartedFacts h.views
  started_facts =
      let s = agreed.views.started in
      record {
        some = omega arith;
        latest = omega arith;
        below = λ w. elim (cases_lt w g.views.cur) [ inl lt ↦ let one = s.below w in let two = sv_before w lt in omega arith | inr not ↦ let two = sv_from w not in omega arith ];
        again = λ w. elim (cases_lt w g.views.cur) [
          | inl lt ↦ let one = s.below w in ap h.views.sv (sv_before w lt) ∙ sv_before (g.views.sv w) (omega arith) ∙ s.again w ∙ sym (sv_before w lt)
          | inr not ↦ ap h.views.sv (sv_from w not) ∙ sv_from g.views.cur (omega arith) ∙ sym (sv_from w not)
        ];
        rise = λ u w le. elim (cases_lt w g.views.cur) [
          | inl lt ↦ let one = s.rise u w le in let two = sv_before w lt in let three = sv_before u (omega arith) in omega arith
          | inr not ↦ let two = sv_from w not in elim (cases_lt u g.views.cur) [
            | inl before ↦ let one = s.below u in let three = sv_before u before in omega arith
            | inr too ↦ let three = sv_from u too in omega arith
          ]
        ];
        first = λ w least. elim (cases_lt w g.views.cur) [ inl lt ↦ let one = s.first w least in let two = sv_before w lt in omega arith | inr not ↦ let two = sv_from w not in omega arith ];
        last = λ w le. sv_from w le;
      }

  low_inside : g.log.low ≤ length g.log.line
  low_inside = let one = agreed.line.low in let two = agreed.line.high in omega arith

  bounds_now : BoundsFacts h.views
  bounds_now =
      let b = agreed.views.bounds in
      let inside = low_inside in
      record {
        bases_rise = λ u w le. elim (cases_lt w g.views.cur) [
          | inl lt ↦ let one = b.bases_rise u w le in let two = bs_before w lt in let three = bs_before u (omega arith) in omega arith
          | inr not ↦ let two = bs_from w not in elim (cases_lt u g.views.cur) [
            | inl before ↦ let one = b.closed u before in let four = agreed.line.closed u before in let three = bs_before u before in omega arith
            | inr too ↦ let three = bs_from u too in omega arith
          ]
        ];
        closings_rise = b.closings_rise;
        ends_rise = b.ends_rise;
        latest = λ w le. bs_from w le ∙ sym (bs_from g.views.cur (omega arith));
        closed = λ w lt. let one = b.closed w lt in let two = bs_before w lt in omega arith;
        ended = b.ended;
        based = λ u w lt s. elim (cases_lt w g.views.cur) [
          | inl before ↦ let one = b.based u w lt (record { some = s.some; is = sym (sv_before w before) ∙ s.is }) in let two = bs_before w before in omega arith
          | inr not ↦
              let own = s.is in
              let is = sv_from w not in
              let two = bs_from w not in
              let closing = agreed.line.closing unstarted in
              elim (cases_lt u g.views.lv) [
                | inl early ↦ let one = b.ends_rise u g.views.lv (omega arith) in let three = closing.ended g.views.lv (omega arith) in omega arith
                | inr behind ↦ let three = closing.ended u behind in omega arith
              ]
        ];
        one_closing = λ w lt. b.one_closing w lt ∙ sym (ap g.views.cl (sv_before w lt));
        one_end = λ w lt. b.one_end w lt ∙ sym (ap g.views.le (sv_before w lt));
      }

  -- ---- growth
  grows_now : ControlGrows g h a
  grows_now = record {
    views = record {
      lv = omega arith;
      cur = omega arith;
      configs = λ w le. refl;
      started = started_still shape g.views base taken.window unstarted late;
      bases = λ w s. bs_before w (started_before w s);
      windows = λ w s. since_before g.views.wn g.views.cur taken.window w (started_before w s);
      closings = λ w lt. refl;
      ends = λ w lt. refl;
      closers = λ w lt. refl;
    };
    line = record {
      low = low_inside;
      below = refl;
      flushed = λ w lt. refl;
      live = λ is. refl;
      given = refl;
      probed = refl;
    };
    closes = λ lt s. absurd (omega arith);
    finals = λ d place some lt final. was_final_low shape g.views base taken.window unstarted late g.log.line g.log.low g.log.high agreed.line.low agreed.line.high (a.shards d).view place lt final;
  }

  -- ---- the line
  held_now : Held shape a.history g.log.line (length g.log.line) taken.window []
  held_now =
      let whole : length g.log.line ≤ length g.log.line = omega arith in
      let same : take (length g.log.line) g.log.line ++ [] ≡ take taken.from g.log.line ++ ids_of taken.items = append-nil (take (length g.log.line) g.log.line) ∙ take_all (length g.log.line) g.log.line whole ∙ sym had.line in
      record {
        short = whole;
        distinct = rw same had.held.distinct;
        window_formed = had.held.window_formed;
        sees = rw same had.held.sees;
        past = rw same had.held.past;
      }

  base_is : h.views.bs g.views.cur ≡ length g.log.line
  base_is = bs_from g.views.cur (omega arith) ∙ end

  window_is : h.views.wn g.views.cur ≡ taken.window
  window_is = since_from g.views.wn g.views.cur taken.window g.views.cur (omega arith)

  base_now : BaseFacts shape h.views h.log a.history
  base_now = record {
    held = subst (λ (n : ℕ). Held shape a.history g.log.line n (h.views.wn g.views.cur) []) (sym base_is)
        (subst (λ (marks : List Marks). Held shape a.history g.log.line (length g.log.line) marks []) (sym window_is) held_now);
    low = sym base_is;
  }

  seqs_below : (n : ℕ) → (a.seqs n).view ≡ g.views.cur → ⊥
  seqs_below n is = let one = (agreed.seqs n).known in omega arith

  live_now : LiveFacts shape h.views h.log a.history a.seqs a.shards
  live_now = record {
    based = let is = base_is in omega arith;
    absent = λ n m lt. base_now;
    leader = λ n first. record {
      taken = λ is. absurd (seqs_below n is);
      low = λ is. absurd (seqs_below n is);
      absent = λ lt. sym base_is;
    };
    settled = all;
  }

  line_now : (reign_phase : Phase) → ((other : Taken) → reign_phase ≡ Flushing other → ⊥) → LineFacts shape h.views h.log a.history reign_phase a.seqs a.shards
  line_now phase none = record {
    distinct = agreed.line.distinct;
    begun = agreed.line.begun;
    low = omega arith;
    high = omega arith;
    closed = λ w lt. let one = agreed.line.closed w lt in let two = low_inside in omega arith;
    reached = λ event reach is stands. let one = agreed.line.reached event reach is stands in let two = low_inside in omega arith;
    behind = agreed.line.behind;
    members = λ n is. absurd (seqs_below n is);
    live = λ is. live_now;
    closing = λ lt. absurd (omega arith);
    taken = λ other is. absurd (none other is);
  }

  -- ---- shard replicas
  shards_known : (d : ℕ) → (a.shards d).view ≤ g.views.cur
  shards_known d = elim (cases_lt (a.shards d).view 1) [ inl none ↦ omega arith | inr some ↦ (agreed.shards.ranks d some).known ]

  listed_now : (d : ℕ) → 1 ≤ (a.shards d).view → (a.shards d).view ≡ g.views.cur → In d (replicas_at (g.views.cf g.views.cur) (home_of d))
  listed_now d some is = subst (λ (view : ℕ). In d (replicas_at (g.views.cf view) (home_of d))) is (agreed.shards.ranks d some).listed

  ended_at : (d : ℕ) → 1 ≤ (a.shards d).view → (a.shards d).view ≡ g.views.cur → (a.shards d).flush ≡ None
  ended_at d some is =
      let r = agreed.shards.ranks d some in
      elim (cases_Bool (a.shards d).primary) [
        | inl leads ↦ ended (home_of d) d (subst (λ (view : ℕ). is_first (replicas_at (g.views.cf view) (home_of d)) d ≡ true) is (sym r.first ∙ leads)) is
        | inr backs ↦ r.unasked backs
      ]

  shards_now : ShardsAgree shape h.views a.shards
  shards_now = record {
    stores = agreed.shards.stores;
    ranks = λ d some. rank_begun shape g.views base taken.window unstarted late d (a.shards d) (agreed.shards.ranks d some);
    jobs = λ d some. jobs_begun shape g.views base taken.window unstarted late (a.shards d) (shards_known d) (ended_at d some) (agreed.shards.jobs d some);
    awaited = agreed.shards.awaited;
  }

  places_now : PlacesAgree shape h.views g.log.line (length g.log.line) (length g.log.line) a.shards
  places_now = record {
    orders = λ d some. order_begun shape g.views base taken.window unstarted late g.log.line (a.shards d) (agreed.places.orders d some);
    finals = λ d some. final_begun shape g.views base taken.window unstarted late g.log.line g.log.low g.log.high agreed.line.low agreed.line.high (a.shards d)
        (agreed.places.orders d some) (λ is. (all (home_of d) d (listed_now d some is)).settled is) (agreed.places.finals d some);
    among = among_begun shape g.views base taken.window unstarted late g.log.line g.log.low g.log.high agreed.line.low agreed.line.high a.shards agreed.shards.ranks agreed.places.orders
        (λ view some lt. agreed.line.closed view lt) (agreed.views.configs.lists g.views.cur).homes agreed.places.among (λ shard d m. (all shard d m).own);
  }

  told_data : ToldOfData shape h.views h.log a.history a.shards
  told_data = record {
    acked = λ id apart stands. all_begun shape g.views base taken.window unstarted late g.log.line g.log.low g.log.high agreed.line.low agreed.line.high g.log id (agreed.told.of_data.acked id apart stands);
    rejected = λ id place stands.
        let r = agreed.told.of_data.rejected id place stands in
        record {
          apart = r.apart;
          below = let one = r.below in let two = low_inside in omega arith;
          stands = r.stands;
          void = λ d home some final. r.void d home some (was_final_low shape g.views base taken.window unstarted late g.log.line g.log.low g.log.high agreed.line.low agreed.line.high (a.shards d).view place r.below final);
        };
    trimmed = agreed.told.of_data.trimmed;
  }

  -- ---- all of it
  module _ (k : ControlState) (facts : ControlFacts g.views k) (unnamed : (n : ℕ) → In n k.spares → ¬ In n taken.config.seq) where
    abbrev next : ControlState
    next = reigning k taken

    lift : (n to : ℕ) (msg : Msg) → Said shape g a n to msg → Said shape h (with_control a next) n to msg
    lift = said_control shape g h a next agreed grows_now

    control_now : ControlFacts h.views next
    control_now = record {
      phase = record { live = refl; config = config_is };
      base = sym (bs_from g.views.cur (omega arith));
      window = sym window_is;
      spares = facts.spares;
      unnamed = unnamed;
    }

    agreed_now : Agreed shape h (with_control a next)
    agreed_now = record {
      views = record { configs = configs_now; started = started_facts; bounds = bounds_now; control = control_now };
      history = agreed.history;
      line = line_now (Running (new_reign taken.config)) (λ other is. cc);
      seqs = seq_turned shape g h a next moment.formed agreed grows_now lift (λ view le. bs_before view (omega arith));
      among_seqs = among_turned shape g h a next moment.formed agreed grows_now lift sv_before (λ view some le lt. absurd (omega arith)) (λ lt. absurd (omega arith));
      shards = shards_now;
      places = places_now;
      bytes = agreed.bytes;
      given = given_begun shape g.views base taken.window unstarted late g.log.line g.log.low g.log.high agreed.line.low agreed.line.high a.shards g.log agreed.given;
      clients = clients_turned shape g h a next moment.formed agreed grows_now lift;
      flushed = tt;
      told = record { of_data = told_data; of_reads = reads_turned shape g h a next moment.formed agreed grows_now lift };
    }

    new_view_says : NewViewSays h.views h.log a.history a.seqs taken.config base taken.window
    new_view_says =
        let number : taken.config.view ≡ g.views.cur = ap (λ (c : Config). c.view) config_is ∙ agreed.views.configs.numbered g.views.cur in
        record {
          reign = record {
            started = subst (λ (view : ℕ). IsStarted h.views view) (sym number) (started_now shape g.views base taken.window unstarted late);
            named = config_is ∙ ap g.views.cf (sym number);
          };
          base_is = sym (bs_from taken.config.view (omega arith));
          window_is = sym (since_from g.views.wn g.views.cur taken.window taken.config.view (omega arith));
          leaderless = λ lt. absurd (omega arith);
        }

    pub good_started_view : GoodControl shape g a (starts_view (reigning k taken) taken.config)
    good_started_view = record {
      ghost = h;
      agreed = agreed_now;
      lifts = lift;
      said = each_map (λ (to : ℕ). (to, new_view_msg next taken.config)) (Told shape h (with_control a next)) taken.config.seq
          (in_each (λ (to : ℕ). NewViewSays h.views h.log a.history a.seqs taken.config base taken.window) taken.config.seq (λ to m. new_view_says));
    }
