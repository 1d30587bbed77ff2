-- A state is taken, or a flush begins anew with what was taken: the current view is closed here, and the line goes on
-- with the items.
use Rattle.std.proofs.Common.{◌≡◌, ℕ, ◌+◌, ◌-◌, ◌<◌, ◌≤◌, List, ◌++◌, length, take, Some, inl, inr, refl, sym, ap, ◌∙◌, subst, arith}
use Rattle.std.specs.Prelude.{slice_get, nat_lt, if◌then◌else◌}
use Rattle.std.proofs.lemmas.Bool.{cases_lt, lt-ltb, le-ltb, ltb-true, ltb-false}
use Rattle.std.proofs.lemmas.List.{take-take, length-take-le, length-append, length-map}
use Rattle.std.proofs.lemmas.List.{take_at as take_left}
use Rattle.list_facts.specs.Lists.{In, Each, Distinct}
use Rattle.list_facts.proofs.Cases.{either}
use Rattle.list_facts.proofs.Precedence.{precedes_first}
use Rattle.list_facts.proofs.Members.{each_in, each_map, in_cases, in_each, in_mapped}
use Rattle.rec_id.specs.Identity.{Identity}
use Rattle.rec_id.specs.History.{told_reach}
use Rattle.rec_id.specs.declared.event.Event.{Event}
use Rattle.rec_id.specs.declared.event.Event.TheVariants.{Invoke}
use Rattle.rec_id.specs.declared.item.Item.{Item}
use Rattle.rec_id.specs.declared.marks.Marks.{Marks}
use Rattle.view_config.specs.declared.config.Config.{Config}
use Rattle.view_config.specs.Shape.{Dimensions}
use Rattle.world_facts.specs.Members.{IsNamed}
use Rattle.lazy_msgs.specs.declared.msg.Msg.{Msg}
use Rattle.lazy_rules.specs.ControlRules.{flush_msg, flush_sends, flush_to, new_taken}
use Rattle.lazy_rules.specs.ControlState.{ControlState, Phase, Taken, Flushing, newest}
use Rattle.lazy_rules.specs.Ids.{ids_of}
use Rattle.lazy_rules.specs.Items.{items_for}
use Rattle.lazy_rules.specs.Roles.{first_of, replicas_at}
use Rattle.lazy_rules.specs.Rows.{sends_all}
use Rattle.log_facts.specs.Agreed.{Agreed}
use Rattle.log_facts.specs.Finality.{IsShut}
use Rattle.log_facts.specs.Ghosts.{Ghost, Views, Log, IsStarted, since}
use Rattle.log_facts.specs.Good.{GoodControl, Moment}
use Rattle.log_facts.specs.Growth.{ControlGrows, ViewCloses}
use Rattle.log_facts.specs.Handed.{EachFrom, ItemGiven}
use Rattle.log_facts.specs.Parts.{Parts, home_of, with_control}
use Rattle.log_facts.specs.Past.{IsBegun}
use Rattle.log_facts.specs.Said.{Said}
use Rattle.log_facts.specs.Says.{FlushSays, IsFlush}
use Rattle.log_facts.specs.Signs.{IsPiece, Sublist}
use Rattle.log_facts.specs.facts.OfLine.{BehindReached, Held, IsWhole, LineFacts, TakenHeld}
use Rattle.log_facts.specs.facts.OfSeqs.{ClosedBy}
use Rattle.log_facts.specs.facts.OfViews.{BoundsFacts, ConfigFacts, ConfigsFacts, ControlFacts, ControlNotes, IsLater, PhaseFacts, StartedFacts}
use Rattle.control_rows.proofs.Beginning.{since_before, since_from}
use Rattle.control_rows.proofs.Closing.{Closes, final_still, jobs_still, order_still, rank_still, was_final}
use Rattle.control_rows.proofs.ClosingShards.{among_still, awaited_still, given_still, started_known, told_still}
use Rattle.control_rows.proofs.Handing.{each_numbered_at, ids_for, items_given, sublist_same, sublist_trans}
use Rattle.control_rows.proofs.Lists.{at_right, at_take, first_is, first_in, in_take}
use Rattle.control_rows.proofs.Noting.{Told}
use Rattle.control_rows.proofs.Turning.{among_turned, clients_turned, reads_turned, seq_turned}

-- ---- what is known then

-- views behind this one have the coming configuration
abbrev pub coming_from : (ℕ → Config) → ℕ → Config → ℕ → Config
coming_from cf cur coming w = if nat_lt cur w then record coming { view = w } else cf w

abbrev pub closed_views : Views → Config → ℕ → ℕ → ℕ → Views
closed_views v coming from end node = record v {
  cur = coming.view;
  cf = coming_from v.cf v.cur coming;
  cl = since v.cl v.cur from;
  le = since v.le v.cur end;
  cx = since v.cx v.cur node;
}

abbrev pub taken_line : List Identity → ℕ → List Item → List Identity
taken_line line from items = take from line ++ ids_of items

abbrev pub closed_log : Log → ℕ → List Item → Log
closed_log log from items = record log { line = taken_line log.line from items; low = from; high = from }

abbrev pub closed_ghost : Ghost → Config → ℕ → List Item → ℕ → Ghost
closed_ghost g coming from items node = record {
  views = closed_views g.views coming from (length (taken_line g.log.line from items)) node;
  log = closed_log g.log from items;
}

-- ---- the line that goes on

module _ (line : List Identity) (from : ℕ) (items : List Item) (short : from ≤ length line) where
  pub front : take from (taken_line line from items) ≡ take from line
  front = take_left (take from line) (ids_of items) from (length-take-le from line short)

  pub front_less : (n : ℕ) → n ≤ from → take n (taken_line line from items) ≡ take n line
  front_less n le = sym (take-take n from (taken_line line from items) le) ∙ ap (λ (ids : List Identity). take n ids) front ∙ take-take n from line le

  pub at_front : (place : ℕ) → place < from → slice_get (taken_line line from items) place ≡ slice_get line place
  at_front place lt = sym (at_take from (taken_line line from items) place lt) ∙ ap (λ (ids : List Identity). slice_get ids place) front ∙ at_take from line place lt

  pub taken_length : length (taken_line line from items) ≡ from + length items
  taken_length =
      let one = length-append (take from line) (ids_of items) in
      let two = length-take-le from line short in
      let three = length-map items (λ (item : Item). item.id) in
      omega arith

  pub taken_piece : IsPiece (taken_line line from items) from (ids_of items)
  taken_piece k x at =
      let two = length-take-le from line short in
      subst (λ (n : ℕ). slice_get (taken_line line from items) (n + k) ≡ Some x) two (at_right (take from line) (ids_of items) k ∙ at)

module _ (cf : ℕ → Config) (cur : ℕ) (coming : Config) where
  pub cf_before : (w : ℕ) → w ≤ cur → coming_from cf cur coming w ≡ cf w
  cf_before w le = rw (le-ltb cur w le)

  pub cf_after : (w : ℕ) → cur < w → coming_from cf cur coming w ≡ record coming { view = w }
  cf_after w lt = rw (lt-ltb cur w lt)

  cf_cases : (P : ℕ → Config → Type 0) → ((w : ℕ) → w ≤ cur → P w (cf w)) → ((w : ℕ) → cur < w → P w (record coming { view = w })) → (w : ℕ) → P w (coming_from cf cur coming w)
  cf_cases P before after w = either (P w) (nat_lt cur w) (record coming { view = w }) (cf w) (λ e. after w (ltb-true cur w e)) (λ e. before w (ltb-false cur w e))

-- what is taken: of the same closing, where the current view is one that no replica started
pub record Takes (shape : Dimensions) (g : Ghost) (a : Parts) (coming : Config) (from : ℕ) (window : List Marks) (items : List Item) (node : ℕ) : Type 0 where
  pub after : g.views.cur < coming.view
  pub named : IsNamed shape coming
  pub lists : ConfigFacts coming
  pub later : IsLater (g.views.cf g.views.cur) coming
  pub member : In node (g.views.cf g.views.lv).seq
  pub shut : IsShut (a.seqs node) g.views.lv
  pub held : Held shape a.history g.log.line from window items
  pub whole : Each (IsWhole shape a.history) items
  pub least : g.log.low ≤ from
  pub most : from ≤ g.log.high
  pub based : g.views.bs g.views.lv ≤ from
  pub ends : (w : ℕ) → w < g.views.cur → g.views.le w ≤ length (taken_line g.log.line from items)
  pub flushed : (w : ℕ) → w < g.views.cur → take (g.views.le w) (taken_line g.log.line from items) ≡ take (g.views.le w) g.log.line
  pub closing : (w : ℕ) → g.views.lv ≤ w → w < g.views.cur → (g.views.cl w ≡ from) × (g.views.le w ≡ length (taken_line g.log.line from items))
  pub closes : IsStarted g.views g.views.cur → ViewCloses g.views (closed_ghost g coming from items node).views g.log (closed_log g.log from items) a

module _ (shape : Dimensions) (g : Ghost) (a : Parts) (moment : Moment shape g a) (coming : Config) (from : ℕ) (window : List Marks) (items : List Item) (node : ℕ)
    (t : Takes shape g a coming from window items node) where
  abbrev h : Ghost
  h = closed_ghost g coming from items node

  abbrev taken : Taken
  taken = new_taken coming from items window

  agreed : Agreed shape g a
  agreed = moment.agreed

  now_same : (n : ℕ) → n ≤ from → take n h.log.line ≡ take n g.log.line
  now_same = front_less g.log.line from items t.held.short

  -- ---- views
  cl_before : (w : ℕ) → w < g.views.cur → h.views.cl w ≡ g.views.cl w
  cl_before w lt = since_before g.views.cl g.views.cur from w lt

  cl_from : (w : ℕ) → g.views.cur ≤ w → h.views.cl w ≡ from
  cl_from w le = since_from g.views.cl g.views.cur from w le

  le_before : (w : ℕ) → w < g.views.cur → h.views.le w ≡ g.views.le w
  le_before w lt = since_before g.views.le g.views.cur (length h.log.line) w lt

  le_from : (w : ℕ) → g.views.cur ≤ w → h.views.le w ≡ length h.log.line
  le_from w le = since_from g.views.le g.views.cur (length h.log.line) w le

  late : (view : ℕ) → g.views.cur ≤ view → g.views.sv view ≡ g.views.lv
  late view le = let latest = agreed.views.started.latest in agreed.views.started.last view (omega arith)

  configs_now : ConfigsFacts shape h.views
  configs_now = record {
    named = cf_cases g.views.cf g.views.cur coming (λ w config. 1 ≤ w → IsNamed shape config) (λ w le. agreed.views.configs.named w)
        (λ w lt some. record { view = some; some = t.named.some; few = t.named.few; seq = t.named.seq; count = t.named.count; shards = t.named.shards });
    numbered = cf_cases g.views.cf g.views.cur coming (λ w config. config.view ≡ w) (λ w le. agreed.views.configs.numbered w) (λ w lt. refl);
    lists = cf_cases g.views.cf g.views.cur coming (λ w config. ConfigFacts config) (λ w le. agreed.views.configs.lists w)
        (λ w lt. record { members = t.lists.members; replicas = t.lists.replicas; homes = t.lists.homes });
    later = λ u w le. cf_cases g.views.cf g.views.cur coming (λ x config. (y : ℕ) → y ≤ x → IsLater (h.views.cf y) config) later_before later_after w u le;
  }
    where
      later_before : (w : ℕ) → w ≤ g.views.cur → (u : ℕ) → u ≤ w → IsLater (h.views.cf u) (g.views.cf w)
      later_before w in_range u le = subst (λ (config : Config). IsLater config (g.views.cf w)) (sym (cf_before g.views.cf g.views.cur coming u (omega arith))) (agreed.views.configs.later u w le)

      later_after : (w : ℕ) → g.views.cur < w → (u : ℕ) → u ≤ w → IsLater (h.views.cf u) (record coming { view = w })
      later_after w behind u le = cf_cases g.views.cf g.views.cur coming (λ x config. IsLater config (record coming { view = w }))
          (λ x x_le shard. sublist_trans (replicas_at coming shard) (replicas_at (g.views.cf g.views.cur) shard) (replicas_at (g.views.cf x) shard) (t.later shard) (agreed.views.configs.later x g.views.cur x_le shard))
          (λ x x_lt shard. sublist_same (replicas_at coming shard)) u

  started_now : StartedFacts h.views
  started_now =
      let s = agreed.views.started in
      record { some = s.some; latest = let one = s.latest in let two = t.after in omega arith; below = s.below; again = s.again; rise = s.rise; first = s.first; last = s.last }

  shards_known : (d : ℕ) → (a.shards d).view ≤ g.views.cur
  shards_known d = elim (cases_lt (a.shards d).view 1) [ inl none ↦ omega arith | inr some ↦ (agreed.shards.ranks d some).known ]

  closes_now : Closes g.views h.views from
  closes_now = record {
    later = t.after;
    named = cf_before g.views.cf g.views.cur coming;
    fewer = λ view shard lt. subst (λ (config : Config). Sublist (replicas_at config shard) (replicas_at (g.views.cf g.views.cur) shard)) (sym (cf_after g.views.cf g.views.cur coming view lt)) (t.later shard);
    sv_is = λ view. refl;
    cl_is = cl_before;
    le_is = le_before;
    closed = cl_from g.views.cur (omega arith);
  }

  -- a started view isn't later than the current one
  started_below : (w : ℕ) → IsStarted g.views w → w ≤ g.views.cur
  started_below w s = started_known shape g.views h.views from closes_now a.shards shards_known late w agreed.views.started.latest s

  closed_low : (w : ℕ) → w < g.views.cur → g.views.cl w ≤ from
  closed_low w lt = let one = agreed.line.closed w lt in let two = t.least in omega arith

  bounds_now : BoundsFacts h.views
  bounds_now =
      let b = agreed.views.bounds in
      let latest = agreed.views.started.latest in
      let based = t.based in
      let long = taken_length g.log.line from items t.held.short in
      record {
        bases_rise = b.bases_rise;
        closings_rise = λ u w le. elim (cases_lt w g.views.cur) [
          | inl lt ↦ let one = b.closings_rise u w le in let two = cl_before w lt in let three = cl_before u (omega arith) in omega arith
          | inr not ↦ let is = cl_from w not in elim (cases_lt u g.views.cur) [
            | inl lt ↦ let one = closed_low u lt in let two = cl_before u lt in omega arith
            | inr too ↦ let two = cl_from u too in omega arith
          ]
        ];
        ends_rise = λ u w le. elim (cases_lt w g.views.cur) [
          | inl lt ↦ let one = b.ends_rise u w le in let two = le_before w lt in let three = le_before u (omega arith) in omega arith
          | inr not ↦ let is = le_from w not in elim (cases_lt u g.views.cur) [
            | inl lt ↦ let one = t.ends u lt in let two = le_before u lt in omega arith
            | inr too ↦ let two = le_from u too in omega arith
          ]
        ];
        latest = b.latest;
        closed = λ w lt. elim (cases_lt w g.views.cur) [
          | inl before ↦ let one = b.closed w before in let two = cl_before w before in omega arith
          | inr not ↦ let one = b.latest w (omega arith) in let two = cl_from w not in omega arith
        ];
        ended = λ w lt. elim (cases_lt w g.views.cur) [
          | inl before ↦ let one = b.ended w before in let two = cl_before w before in let three = le_before w before in omega arith
          | inr not ↦ let one = le_from w not in let two = cl_from w not in omega arith
        ];
        based = λ u w lt s.
            let own : IsStarted g.views w = record { some = s.some; is = s.is } in
            let below = started_below w own in
            let one = b.based u w lt own in
            let two = le_before u (omega arith) in
            omega arith;
        one_closing = λ w lt. elim (cases_lt w g.views.cur) [
          | inl before ↦ let least = agreed.views.started.below w in cl_before w before ∙ b.one_closing w before ∙ sym (cl_before (g.views.sv w) (omega arith))
          | inr not ↦ cl_from w not ∙ sym (ap h.views.cl (late w not) ∙ cl_lv)
        ];
        one_end = λ w lt. elim (cases_lt w g.views.cur) [
          | inl before ↦ let least = agreed.views.started.below w in le_before w before ∙ b.one_end w before ∙ sym (le_before (g.views.sv w) (omega arith))
          | inr not ↦ le_from w not ∙ sym (ap h.views.le (late w not) ∙ le_lv)
        ];
      }
    where
      cl_lv : h.views.cl g.views.lv ≡ from
      cl_lv = elim (cases_lt g.views.lv g.views.cur) [ inl lt ↦ cl_before g.views.lv lt ∙ (t.closing g.views.lv (omega arith) lt).0 | inr not ↦ cl_from g.views.lv not ]

      le_lv : h.views.le g.views.lv ≡ length h.log.line
      le_lv = elim (cases_lt g.views.lv g.views.cur) [ inl lt ↦ le_before g.views.lv lt ∙ (t.closing g.views.lv (omega arith) lt).1 | inr not ↦ le_from g.views.lv not ]

  -- ---- growth
  pub grows_now : ControlGrows g h a
  grows_now = record {
    views = record {
      lv = omega arith;
      cur = let after = t.after in omega arith;
      configs = cf_before g.views.cf g.views.cur coming;
      started = λ w s. record { some = s.some; is = s.is };
      bases = λ w s. refl;
      windows = λ w s. refl;
      closings = cl_before;
      ends = le_before;
      closers = λ w lt. since_before g.views.cx g.views.cur node w lt;
    };
    line = record {
      low = t.least;
      below = now_same g.log.low t.least;
      flushed = t.flushed;
      live = λ is. let after = t.after in absurd (omega arith);
      given = refl;
      probed = refl;
    };
    closes = λ lt s. t.closes s;
    finals = λ d place some lt final. was_final g.views h.views from closes_now g.log.high t.most (a.shards d).view place (shards_known d) final;
  }

  -- ---- the line
  held_now : Held shape a.history h.log.line from window items
  held_now =
      let same : take from h.log.line ++ ids_of items ≡ take from g.log.line ++ ids_of items = ap (λ (ids : List Identity). ids ++ ids_of items) (front g.log.line from items t.held.short) in
      record {
        short = let long = taken_length g.log.line from items t.held.short in omega arith;
        distinct = rw same t.held.distinct;
        window_formed = t.held.window_formed;
        sees = rw same t.held.sees;
        past = rw same t.held.past;
      }

  taken_now : TakenHeld shape h.log a.history taken
  taken_now = record {
    held = held_now;
    whole = t.whole;
    low = refl;
    line = ap (λ (ids : List Identity). ids ++ ids_of items) (front g.log.line from items t.held.short);
  }

  begun_now : (id : Identity) → In id h.log.line → IsBegun a.history id
  begun_now id m = elim (in_cases id (take from g.log.line) (ids_of items) m) [
    | inl old ↦ agreed.line.begun id (in_take from g.log.line id old)
    | inr new ↦
        let k = in_mapped (λ (item : Item). item.id) id items new in
        let one = each_in (IsWhole shape a.history) items t.whole k.0 k.1 in
        subst (λ (x : Identity). IsBegun a.history x) k.2 (record { bytes = one.own; stands = one.begun })
  ]

  reached_now : (event : Event) (reach : ℕ) → told_reach event ≡ Some reach → In event a.history → reach ≤ from
  reached_now event reach is stands = let one = agreed.line.reached event reach is stands in let two = t.least in omega arith

  behind_now : BehindReached a.history h.log.line
  behind_now id bytes event reach place is before at = elim (cases_lt place from) [
    | inl lt ↦ agreed.line.behind id bytes event reach place is before (sym (at_front g.log.line from items t.held.short place lt) ∙ at)
    | inr not ↦ let one = reached_now event reach is (precedes_first event (Invoke id bytes) a.history before) in omega arith
  ]

  seqs_below : (n : ℕ) → (a.seqs n).view ≡ coming.view → ⊥
  seqs_below n is = let one = (agreed.seqs n).known in let two = agreed.views.started.latest in let three = t.after in omega arith

  line_now : (phase : Phase) → phase ≡ Flushing taken → LineFacts shape h.views h.log a.history phase a.seqs a.shards
  line_now phase phase_is = record {
    distinct = t.held.distinct;
    begun = begun_now;
    low = omega arith;
    high = held_now.short;
    closed = λ w lt. elim (cases_lt w g.views.cur) [
      | inl before ↦ let one = closed_low w before in let two = cl_before w before in omega arith
      | inr not ↦ let two = cl_from w not in omega arith
    ];
    reached = reached_now;
    behind = behind_now;
    members = λ n is. absurd (seqs_below n is);
    live = λ is. let one = agreed.views.started.latest in let two = t.after in absurd (omega arith);
    closing = λ lt. record {
      one = refl;
      closed = λ w le. elim (cases_lt w g.views.cur) [ inl before ↦ cl_before w before ∙ (t.closing w le before).0 | inr not ↦ cl_from w not ];
      ended = λ w le. elim (cases_lt w g.views.cur) [ inl before ↦ le_before w before ∙ (t.closing w le before).1 | inr not ↦ le_from w not ];
    };
    taken = λ other is. let same : Flushing taken ≡ Flushing other = sym phase_is ∙ is in let one : taken ≡ other = cc in subst (λ (x : Taken). TakenHeld shape h.log a.history x) one taken_now;
  }

  closed_now : (view : ℕ) → 1 ≤ view → g.views.cur ≤ view → view < h.views.cur → ClosedBy h.views a.seqs view
  closed_now view some le lt =
      let is = since_from g.views.cx g.views.cur node view le in
      record {
        member = subst (λ (n : ℕ). In n (h.views.cf (g.views.sv view)).seq) (sym is)
            (subst (λ (u : ℕ). In node (h.views.cf u).seq) (sym (late view le))
            (subst (λ (config : Config). In node config.seq) (sym (cf_before g.views.cf g.views.cur coming g.views.lv agreed.views.started.latest)) t.member));
        shut = subst (λ (n : ℕ). IsShut (a.seqs n) (g.views.sv view)) (sym is) (subst (λ (u : ℕ). IsShut (a.seqs node) u) (sym (late view le)) t.shut);
      }

  kept_now : g.views.cur < h.views.cur → take (h.views.cl g.views.cur) h.log.line ≡ take (h.views.cl g.views.cur) g.log.line
  kept_now lt = let is = cl_from g.views.cur (omega arith) in now_same (h.views.cl g.views.cur) (omega arith)

  flushed_at : (view place : ℕ) → 1 ≤ view → view < g.views.cur → place < g.views.le view → slice_get h.log.line place ≡ slice_get g.log.line place
  flushed_at view place some lt below =
      sym (at_take (g.views.le view) h.log.line place below) ∙ ap (λ (ids : List Identity). slice_get ids place) (t.flushed view lt) ∙ at_take (g.views.le view) g.log.line place below

  -- ---- the flush that is sent
  module _ (k : ControlState) where
    flush_says : (shard to : ℕ) → home_of to ≡ shard → FlushSays shape h.views h.log.line a.history to coming from (items_for shape shard from items)
    flush_says shard to home =
        let ids = ids_for shape shard from items in
        let first = agreed.views.started.some in
        let latest = agreed.views.started.latest in
        let after = t.after in
        let long = taken_length g.log.line from items t.held.short in
        let count = length-map items (λ (item : Item). item.id) in
        let behind : g.views.cur ≤ coming.view - 1 = omega arith in
        let end = le_from (coming.view - 1) behind in
        let flush : IsFlush h.views h.log.line coming.view from (ids_of items) = record {
          before = coming.view - 1;
          some = omega arith;
          is = omega arith;
          known = omega arith;
          starts = sym (cl_from (coming.view - 1) behind);
          ends = omega arith;
          piece = taken_piece g.log.line from items t.held.short;
        } in
        record {
          named = sym (cf_after g.views.cf g.views.cur coming coming.view t.after);
          flush = subst (λ (list : List Identity). IsFlush h.views h.log.line coming.view from list) (sym ids) flush;
          given = subst (λ (i : ℕ). EachFrom (ItemGiven shape a.history i) from (items_for shape shard from items)) (sym home) (items_given shape a.history shard from items t.whole);
        }

    pub flushes_said : (next : ControlState) → Each (Told shape h (with_control a next)) (flush_sends (record k { shape = shape }) taken)
    flushes_said next =
        each_numbered_at (Told shape h (with_control a next)) (flush_to (record k { shape = shape }) taken) 0 coming.shards
        (λ i nodes at. let zero : i ≡ 0 + i = omega arith in subst (λ (shard : ℕ). Each (Told shape h (with_control a next)) (flush_to (record k { shape = shape }) taken shard nodes)) zero (one_shard i nodes at))
      where
        listed : (i : ℕ) (nodes : List ℕ) → slice_get coming.shards i ≡ Some nodes → (to : ℕ) → In to (first_of nodes) → In to (replicas_at coming i)
        listed i nodes at to m = rw at (first_in nodes to (first_is nodes to m))

        one_shard : (i : ℕ) (nodes : List ℕ) → slice_get coming.shards i ≡ Some nodes → Each (Told shape h (with_control a next)) (flush_to (record k { shape = shape }) taken i nodes)
        one_shard i nodes at =
            each_map (λ (to : ℕ). (to, flush_msg (record k { shape = shape }) taken i)) (Told shape h (with_control a next)) (first_of nodes)
            (in_each (λ (to : ℕ). FlushSays shape h.views h.log.line a.history to coming from (items_for shape i from items)) (first_of nodes)
            (λ to m. flush_says i to (t.lists.homes i to (listed i nodes at to m))))

  -- ---- all of it
  module _ (next : ControlState) (phase_is : next.phase ≡ Flushing taken) (base_is : next.base ≡ g.views.bs g.views.lv) (window_is : next.window ≡ g.views.wn g.views.lv)
      (spares : Distinct next.spares) (unnamed : (n : ℕ) → In n next.spares → ¬ In n coming.seq)
      (lift : (n to : ℕ) (msg : Msg) → Said shape g a n to msg → Said shape h (with_control a next) n to msg) where
    control_now : ControlFacts h.views next
    control_now = record {
      phase = subst (λ (phase : Phase). PhaseFacts h.views phase) (sym phase_is) (record {
        unstarted = let one = agreed.views.started.latest in let two = t.after in omega arith;
        config = sym (cf_after g.views.cf g.views.cur coming coming.view t.after);
      });
      base = base_is;
      window = window_is;
      spares = spares;
      unnamed = λ n m named. unnamed n m (subst (λ (phase : Phase). In n (newest (record next { phase = phase })).seq) phase_is named);
    }

    pub agreed_now : Agreed shape h (with_control a next)
    agreed_now = record {
      views = record { configs = configs_now; started = started_now; bounds = bounds_now; control = control_now };
      history = agreed.history;
      line = line_now next.phase phase_is;
      seqs = seq_turned shape g h a next moment.formed agreed grows_now lift (λ view le. refl);
      among_seqs = among_turned shape g h a next moment.formed agreed grows_now lift (λ view lt. refl) closed_now kept_now;
      shards = record {
        stores = agreed.shards.stores;
        ranks = λ d some. rank_still g.views h.views from closes_now d (a.shards d) (agreed.shards.ranks d some);
        jobs = λ d some. jobs_still g.views h.views from closes_now (a.shards d) (shards_known d) (agreed.shards.jobs d some);
        awaited = λ d. awaited_still shape g.views h.views from closes_now a.shards shards_known late (a.shards d) (shards_known d);
      };
      places = record {
        orders = λ d some. order_still g.views h.views from closes_now g.log.line h.log.line (at_front g.log.line from items t.held.short) flushed_at (λ view least lt. closed_low view lt) (a.shards d) some (shards_known d) (agreed.places.orders d some);
        finals = λ d some. final_still g.views h.views from closes_now g.log.high t.most g.log.low from t.least t.least (a.shards d) (shards_known d) (agreed.places.finals d some);
        among = among_still shape g.views h.views from closes_now a.shards shards_known late g.log.high t.most (let one = agreed.views.started.some in let two = agreed.views.started.latest in omega arith) agreed.places.among;
      };
      bytes = agreed.bytes;
      given = given_still shape g.views h.views from closes_now a.shards shards_known late g.log.given agreed.given;
      clients = clients_turned shape g h a next moment.formed agreed grows_now lift;
      flushed = subst (λ (phase : Phase). ControlNotes h.views a.shards phase) (sym phase_is) tt;
      told = record {
        of_data = told_still shape g.views h.views from closes_now a.shards shards_known late g.log h.log refl t.most t.least t.least (at_front g.log.line from items t.held.short) agreed.views.started.latest refl a.history agreed.told.of_data;
        of_reads = reads_turned shape g h a next moment.formed agreed grows_now lift;
      };
    }

    pub good_taken : (k : ControlState) → k.shape ≡ shape → GoodControl shape g a (sends_all next (flush_sends k taken))
    good_taken k shaped = record {
      ghost = h;
      agreed = agreed_now;
      lifts = lift;
      said = subst (λ (s : Dimensions). Each (Told shape h (with_control a next)) (flush_sends (record k { shape = s }) taken)) (sym shaped) (flushes_said k next);
    }
