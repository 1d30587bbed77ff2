-- Sealed and SealedEmpty: what a member of the sealed view had is taken, or what the view began with where it never took
-- it.
use Rattle.std.proofs.Common.{◌≡◌, ℕ, ◌<◌, ◌≤◌, List, [], ◌++◌, length, take, true, inl, inr, refl, sym, ap, ◌∙◌, subst, arith}
use Rattle.std.specs.Prelude.{◌==◌}
use Rattle.std.proofs.lemmas.Bool.{eqb-true}
use Rattle.std.proofs.lemmas.List.{append-nil, take_all}
use Rattle.list_facts.specs.Lists.{In, Each}
use Rattle.list_facts.proofs.Cases.{either}
use Rattle.list_facts.proofs.Precedence.{precedes_first}
use Rattle.rec_id.specs.Identity.{Identity}
use Rattle.rec_id.specs.declared.event.Event.TheVariants.{Begin}
use Rattle.rec_id.specs.declared.item.Item.{Item}
use Rattle.rec_id.specs.declared.marks.Marks.{Marks}
use Rattle.view_config.specs.Shape.{Dimensions}
use Rattle.view_config.specs.declared.config.Config.{Config}
use Rattle.lazy_rules.specs.ControlRules.{at_phase, new_taken, on_sealed, on_sealed_empty, takes_state}
use Rattle.lazy_rules.specs.ControlState.{Change, ControlState, Phase, Flushing, Running, Sealing}
use Rattle.lazy_rules.specs.Ids.{ids_of}
use Rattle.lazy_rules.specs.Roles.{is_first}
use Rattle.lazy_rules.specs.Rows.{stays}
use Rattle.log_facts.proofs.growth.SaidControl.{said_control}
use Rattle.log_facts.specs.Finality.{IsShut, line_ids}
use Rattle.log_facts.specs.Ghosts.{Ghost}
use Rattle.log_facts.specs.Good.{GoodControl, Moment}
use Rattle.log_facts.specs.Growth.{ViewCloses}
use Rattle.log_facts.specs.Parts.{Parts}
use Rattle.log_facts.specs.Past.{Covers, HasBegun}
use Rattle.log_facts.specs.Says.{LeaderlessSays, SealedEmptySays, SealedSays}
use Rattle.log_facts.specs.facts.OfLine.{BaseFacts, Held, IsWhole, LiveFacts}
use Rattle.log_facts.specs.facts.OfViews.{ControlFacts, IsLater}
use Rattle.control_rows.proofs.Beginning.{since_from}
use Rattle.control_rows.proofs.Held.{facts_in, formed_in, lv_number, lv_started, stays_in}
use Rattle.control_rows.proofs.Lists.{first_in}
use Rattle.control_rows.proofs.Taking.{Takes, closed_ghost, front_less, good_taken, grows_now, taken_length, taken_line}

-- what a member had by which its view is closed: no less than what is bound for good
pub record Survives (shape : Dimensions) (g : Ghost) (a : Parts) (from : ℕ) (window : List Marks) (items : List Item) (node : ℕ) : Type 0 where
  pub member : In node (g.views.cf g.views.lv).seq
  pub shut : IsShut (a.seqs node) g.views.lv
  pub held : Held shape a.history g.log.line from window items
  pub whole : Each (IsWhole shape a.history) items
  pub least : g.log.low ≤ from
  pub most : from ≤ g.log.high
  pub line_is : g.views.cur ≤ (a.seqs node).view → line_ids g.log.line (a.seqs node) ≡ taken_line g.log.line from items
  pub bound : g.views.cur ≤ (a.seqs node).view → (a.seqs node).bound ≤ from

module _ (shape : Dimensions) (g : Ghost) (a : Parts) (moment : Moment shape g a) (from : ℕ) (window : List Marks) (items : List Item) (node : ℕ) where
  -- where the leader hasn't taken the view, nothing is bound but what it began with, and that has all that ended
  module _ (coming : Config) (live : g.views.cur ≡ g.views.lv) (s : Survives shape g a from window items node) where
    abbrev h : Ghost
    h = closed_ghost g coming from items node

    lives : LiveFacts shape g.views g.log a.history a.seqs a.shards
    lives = moment.agreed.line.live (sym live)

    base_now : g.views.bs g.views.cur ≡ g.views.bs g.views.lv
    base_now = ap g.views.bs live

    closed_from : h.views.cl g.views.cur ≡ from
    closed_from = since_from g.views.cl g.views.cur from g.views.cur (omega arith)

    closer_is : h.views.cx g.views.cur ≡ node
    closer_is = since_from g.views.cx g.views.cur node g.views.cur (omega arith)

    base_covers : BaseFacts shape g.views g.log a.history → (client read : ℕ) → HasBegun a.history client read → Covers a.history client read (take (g.views.bs g.views.cur) h.log.line) (g.views.bs g.views.cur)
    base_covers base client read began =
        let least = s.least in
        let low = base.low in
        let began_with = base_now in
        let within : g.views.bs g.views.cur ≤ from = omega arith in
        let same = front_less g.log.line from items s.held.short (g.views.bs g.views.cur) within in
        record {
          ended = λ id e.
              let stands = base.held.past.ended id (record { event = e.event; ends = e.ends; stands = precedes_first e.event (Begin client read e.ask) a.history e.before }) in
              let there : In id (take (g.views.bs g.views.lv) g.log.line) = subst (λ (ids : List Identity). In id ids) (append-nil (take (g.views.bs g.views.lv) g.log.line)) stands in
              subst (λ (ids : List Identity). In id ids) (sym same) (subst (λ (n : ℕ). In id (take n g.log.line)) (sym base_now) there);
          reached = λ reach e.
              let one = moment.agreed.line.reached e.event reach e.reaches (precedes_first e.event (Begin client read e.ask) a.history e.before) in
              omega arith;
        }

    leaderless : (leader : ℕ) → is_first (g.views.cf g.views.cur).seq leader ≡ true → (a.seqs leader).view < g.views.cur → LeaderlessSays h.views h.log a.history a.seqs g.views.cur
    leaderless leader first lt =
        let base = lives.absent leader (first_in (g.views.cf g.views.cur).seq leader first) lt in
        let long = (lives.leader leader first).absent lt in
        let short = s.held.short in
        let began_with = base_now in
        let closed = closed_from in
        record {
          unbound = omega arith;
          covers = λ client read began. inr (base_covers base client read began);
        }

    closes_now : ViewCloses g.views h.views g.log h.log a
    closes_now = record {
      low = let least = s.least in let closed = closed_from in omega arith;
      has = λ id at m.
          let own = subst (λ (n : ℕ). g.views.cur ≤ (a.seqs n).view) closer_is at in
          let stands = subst (λ (ids : List Identity). In id ids) (s.line_is own) (subst (λ (n : ℕ). In id (line_ids g.log.line (a.seqs n))) closer_is m) in
          let end = since_from g.views.le g.views.cur (length h.log.line) g.views.cur (omega arith) in
          subst (λ (ids : List Identity). In id ids) (sym (take_all (h.views.le g.views.cur) h.log.line (omega arith))) stands;
      bound = λ at. subst (λ (n : ℕ). (a.seqs n).bound ≤ h.views.cl g.views.cur) (sym closer_is)
          (let one = s.bound (subst (λ (n : ℕ). g.views.cur ≤ (a.seqs n).view) closer_is at) in let two = closed_from in omega arith);
      leaderless = leaderless;
    }

  -- of the view that is being sealed
  module _ (change : Change) (is : a.control.phase ≡ Sealing change) (s : Survives shape g a from window items node) where
    abbrev k : ControlState
    k = record a.control { phase = Sealing change }

    facts : ControlFacts g.views k
    facts = facts_in shape g a moment (Sealing change) is

    takes : Takes shape g a change.coming from window items node
    takes =
        let f = facts.phase in
        let live = f.live in
        let after = f.after in
        let lives_now = moment.agreed.line.live (sym live) in
        let low = lives_now.based in
        let least = s.least in
        let short = s.held.short in
        let long = taken_length g.log.line from items short in
        record {
          after = omega arith;
          named = (formed_in shape g a moment (Sealing change) is).phase.1;
          lists = f.lists;
          later = subst (λ (view : ℕ). IsLater (g.views.cf view) change.coming) (sym live) f.later;
          member = s.member;
          shut = s.shut;
          held = s.held;
          whole = s.whole;
          least = s.least;
          most = s.most;
          based = omega arith;
          ends = λ w lt. let one = moment.agreed.views.bounds.based w g.views.lv (omega arith) (lv_started shape g a moment) in omega arith;
          flushed = λ w lt.
              let one = moment.agreed.views.bounds.based w g.views.lv (omega arith) (lv_started shape g a moment) in
              front_less g.log.line from items short (g.views.le w) (omega arith);
          closing = λ w le lt. absurd (omega arith);
          closes = λ started. closes_now change.coming live s;
        }

    pub taken_in : GoodControl shape g a (takes_state k (new_taken change.coming from items window))
    taken_in =
        good_taken shape g a moment change.coming from window items node takes
        (at_phase k (Flushing (new_taken change.coming from items window))) refl facts.base facts.window facts.spares facts.unnamed
        (said_control shape g (closed_ghost g change.coming from items node) a (at_phase k (Flushing (new_taken change.coming from items window))) moment.agreed
        (grows_now shape g a moment change.coming from window items node takes))
        k (formed_in shape g a moment (Sealing change) is).shaped

  module _ (view : ℕ) (survives : (change : Change) → a.control.phase ≡ Sealing change → view ≡ g.views.lv → Survives shape g a from window items node) where
    by_phase : (phase : Phase) → a.control.phase ≡ phase → GoodControl shape g a (on_sealed (record a.control { phase = phase }) view from window items)
    by_phase (Running reign) is = stays_in shape g a moment (Running reign) is
    by_phase (Sealing change) is =
        either (GoodControl shape g a) (view == change.old.view) (takes_state (record a.control { phase = Sealing change }) (new_taken change.coming from items window)) (stays (record a.control { phase = Sealing change }))
        (λ e. taken_in change is (survives change is (eqb-true view change.old.view e ∙ lv_number shape g a moment change.old (facts_in shape g a moment (Sealing change) is).phase.old)))
        (λ e. stays_in shape g a moment (Sealing change) is)
    by_phase (Flushing taken) is = stays_in shape g a moment (Flushing taken) is

    pub good_sealed_by : GoodControl shape g a (on_sealed a.control view from window items)
    good_sealed_by = by_phase a.control.phase refl

module _ (shape : Dimensions) (g : Ghost) (a : Parts) (moment : Moment shape g a) (view node : ℕ) where
  live_now : (change : Change) → a.control.phase ≡ Sealing change → g.views.cur ≡ g.views.lv
  live_now change is = (facts_in shape g a moment (Sealing change) is).phase.live

  -- a sealed member
  module _ (from : ℕ) (window : List Marks) (items : List Item) (said : SealedSays g.views (a.seqs node) node view from window items) where
    survives_sealed : (change : Change) → a.control.phase ≡ Sealing change → view ≡ g.views.lv → Survives shape g a from window items node
    survives_sealed change is same =
        let live = live_now change is in
        let known = (moment.agreed.seqs node).known in
        let own = said.own in
        let at : (a.seqs node).view ≡ view = omega arith in
        let sealed = said.has at in
        let now : (a.seqs node).view ≡ g.views.cur = omega arith in
        let latest : (a.seqs node).view ≡ g.views.lv = omega arith in
        let m = moment.agreed.line.members node now in
        let bound_is = sealed.bound_is in
        let least = m.least in
        let most = m.most in
        record {
          member = subst (λ (w : ℕ). In node (g.views.cf w).seq) same said.member;
          shut = inr (inl (latest, sealed.sealed));
          held = subst (λ (n : ℕ). Held shape a.history g.log.line n window items) bound_is
              (subst (λ (marks : List Marks). Held shape a.history g.log.line (a.seqs node).bound marks items) sealed.window_is
              (subst (λ (list : List Item). Held shape a.history g.log.line (a.seqs node).bound (a.seqs node).window list) sealed.items_are m.held));
          whole = subst (λ (list : List Item). Each (IsWhole shape a.history) list) sealed.items_are (moment.agreed.seqs node).items;
          least = omega arith;
          most = omega arith;
          line_is = λ le. ap (λ (n : ℕ). take n g.log.line ++ ids_of (a.seqs node).pending) bound_is ∙ ap (λ (list : List Item). take from g.log.line ++ ids_of list) sealed.items_are;
          bound = λ le. omega arith;
        }

    pub good_sealed : GoodControl shape g a (on_sealed a.control view from window items)
    good_sealed = good_sealed_by shape g a moment from window items node view survives_sealed

  -- a member that never took the view
  module _ (said : SealedEmptySays g.views (a.seqs node) node view) where
    survives_empty : (change : Change) → a.control.phase ≡ Sealing change → view ≡ g.views.lv → Survives shape g a a.control.base a.control.window [] node
    survives_empty change is same =
        let live = live_now change is in
        let known = (moment.agreed.seqs node).known in
        let apart = said.apart in
        let below : (a.seqs node).view < view = omega arith in
        let barred = said.barred below in
        let before : (a.seqs node).view < g.views.cur = omega arith in
        let earlier : (a.seqs node).view < g.views.lv = omega arith in
        let bars : g.views.lv ≤ (a.seqs node).barred = omega arith in
        let member = subst (λ (w : ℕ). In node (g.views.cf w).seq) same said.member in
        let base = (moment.agreed.line.live (sym live)).absent node (subst (λ (w : ℕ). In node (g.views.cf w).seq) (sym live) member) before in
        let control = moment.agreed.views.control in
        let base_is = control.base in
        let low = base.low in
        let rises = moment.agreed.line.low in
        record {
          member = member;
          shut = inr (inr (earlier, bars));
          held = subst (λ (n : ℕ). Held shape a.history g.log.line n a.control.window []) (sym base_is)
              (subst (λ (marks : List Marks). Held shape a.history g.log.line (g.views.bs g.views.lv) marks []) (sym control.window) base.held);
          whole = tt;
          least = omega arith;
          most = omega arith;
          line_is = λ le. absurd (omega arith);
          bound = λ le. absurd (omega arith);
        }

    pub good_sealed_empty : GoodControl shape g a (on_sealed_empty a.control view)
    good_sealed_empty = good_sealed_by shape g a moment a.control.base a.control.window [] node view survives_empty
