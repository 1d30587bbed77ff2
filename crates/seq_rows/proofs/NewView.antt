-- NewView at a sequencing replica: it takes a view that names it, current or closed, with what that began with; one
-- that it has taken it says to have started again.
use Rattle.std.proofs.Common.{◌≡◌, ℕ, ◌<◌, ◌≤◌, List, [], ◌∷◌, take, true, ◌&&◌, nat_lt, inl, inr, refl, sym, ap, ◌∙◌, subst, arith, append-nil}
use Rattle.std.specs.Prelude.{◌==◌, if◌then◌else◌}
use Rattle.std.proofs.lemmas.Bool.{and_parts, cases_lt, eqb-true, ltb-true}
use Rattle.list_facts.specs.Lists.{Each, In, put}
use Rattle.list_facts.proofs.Cases.{either}
use Rattle.list_facts.proofs.Members.{each_map, in_each, in_passes}
use Rattle.rec_id.specs.Identity.{Identity}
use Rattle.rec_id.specs.declared.marks.Marks.{Marks}
use Rattle.view_config.specs.Shape.{Dimensions}
use Rattle.view_config.specs.declared.config.Config.{Config}
use Rattle.lazy_msgs.specs.declared.msg.Msg.{Msg}
use Rattle.lazy_msgs.specs.declared.msg.Msg.TheVariants.{NewView, Stable, Started}
use Rattle.lazy_rules.specs.Leading.{stable_sends}
use Rattle.lazy_rules.specs.Roles.{is_first, replicas_of}
use Rattle.lazy_rules.specs.Rows.{answers, has_node, sends_all, stays}
use Rattle.lazy_rules.specs.SeqRules.{in_view, is_leader, on_new_view, starts}
use Rattle.lazy_rules.specs.SeqState.{SeqState}
use Rattle.log_facts.specs.Finality.{BarredOrCovered, line_ids}
use Rattle.log_facts.specs.Ghosts.{Ghost, IsStarted, Views}
use Rattle.log_facts.specs.Good.{GoodSeq, Heard, Moment}
use Rattle.log_facts.specs.Growth.{SeqGrows}
use Rattle.log_facts.specs.Parts.{Parts, with_seq}
use Rattle.log_facts.specs.Past.{Covers, HasBegun}
use Rattle.log_facts.specs.Said.{Said}
use Rattle.log_facts.specs.Says.{LeaderlessSays, NewViewSays, StableSays, StartedSays}
use Rattle.log_facts.specs.facts.OfLine.{BaseFacts, Held, LeaderFacts, MemberFacts}
use Rattle.log_facts.specs.facts.OfSeqs.{LeaderReads, SeqFacts}
use Rattle.list_facts.proofs.Precedence.{precedes_first}
use Rattle.rec_id.specs.declared.event.Event.TheVariants.{Begin}
use Rattle.seq_rows.proofs.Lifting.{Grown, cover_on}
use Rattle.seq_rows.proofs.Longer.{take_shorter, take_whole}
use Rattle.seq_rows.proofs.Stepping.{Keeps, Steps, answers_good, at_me, keeps_goes_on, keeps_grown, stays_good, steps_good}

-- a node that a list has is in it
pub node_in : (nodes : List ℕ) (node : ℕ) → has_node nodes node ≡ true → In node nodes
node_in nodes node h =
    let found = in_passes (λ other. other == node) nodes h in
    subst (λ (n : ℕ). In n nodes) (eqb-true found.0 node found.2) found.1

module _ (shape : Dimensions) (g : Ghost) (a : Parts) (sender me : ℕ) (config : Config) (base : ℕ) (window : List Marks) (moment : Moment shape g a) (heard : Heard shape g a sender me (NewView config base window)) where
  abbrev s : SeqState
  s = a.seqs me

  abbrev t : SeqState
  t = in_view s config base window

  abbrev v : Views
  v = g.views

  abbrev says : NewViewSays v g.log a.history a.seqs config base window
  says = heard.said

  started : IsStarted v config.view
  started = says.reign.started

  known : config.view ≤ v.lv
  known = elim (cases_lt v.lv config.view) [
    | inl later ↦ let last : v.sv config.view ≡ v.lv = moment.agreed.views.started.last config.view (omega arith) in let is = says.reign.started.is in absurd (omega arith)
    | inr within ↦ within
  ]

  live : config.view ≡ v.cur → v.lv ≡ v.cur
  live now = let known = known in let latest = moment.agreed.views.started.latest in omega arith

  -- what it begins with was bound for good
  base_closed : config.view < v.cur → base ≤ v.cl config.view
  base_closed before = let is = says.base_is in let closed = moment.agreed.views.bounds.closed config.view before in omega arith

  base_low : base ≤ g.log.low
  base_low = elim (cases_lt config.view v.cur) [
    | inl before ↦ let one = base_closed before in let two = moment.agreed.line.closed config.view before in omega arith
    | inr not ↦
        let within = known in
        let latest = moment.agreed.views.started.latest in
        let now : config.view ≡ v.cur = omega arith in
        let based = (moment.agreed.line.live (live now)).based in
        let is : base ≡ v.bs v.lv = says.base_is ∙ ap v.bs (now ∙ sym (live now)) in
        omega arith
  ]

  stable_says : StableSays v g.log.low config.view base
  stable_says = record { started = started; below = base_low; closed = base_closed }

  module _ (below : s.view < config.view) (unbarred : s.barred < config.view) (named : has_node config.seq s.node ≡ true) where
    member : In me (v.cf config.view).seq
    member = subst (λ (c : Config). In me c.seq) says.reign.named (subst (λ (n : ℕ). In n config.seq) (moment.formed.seqs me).numbered (node_in config.seq s.node named))

    first : is_leader t ≡ true → is_first (v.cf config.view).seq me ≡ true
    first leads = subst (λ (c : Config). is_first c.seq me ≡ true) says.reign.named (subst (λ (n : ℕ). is_first config.seq n ≡ true) (moment.formed.seqs me).numbered leads)

    -- in the current view it was absent
    base_now : config.view ≡ v.cur → BaseFacts shape v g.log a.history
    base_now now = (moment.agreed.line.live (live now)).absent me (subst (λ (w : ℕ). In me (v.cf w).seq) now member) (omega arith)

    base_of : config.view ≡ v.cur → base ≡ v.bs v.lv
    base_of now = says.base_is ∙ ap v.bs (now ∙ sym (live now))

    held_now : config.view ≡ v.cur → Held shape a.history g.log.line base window []
    held_now now =
        let marks : window ≡ v.wn v.lv = says.window_is ∙ ap v.wn (now ∙ sym (live now)) in
        subst (λ (list : List Marks). Held shape a.history g.log.line base list []) (sym marks) (subst (λ (n : ℕ). Held shape a.history g.log.line n (v.wn v.lv) []) (sym (base_of now)) (base_now now).held)

    grows : SeqGrows s t
    grows = record {
      view = omega arith;
      barred = omega arith;
      unbarred = λ rose. unbarred;
      bound = λ same. absurd (omega arith);
      sealed = λ same sealed. absurd (omega arith);
    }

    facts : SeqFacts shape v a.history me t
    facts = record {
      known = known;
      joined = λ some. record { started = started; member = member; config = says.reign.named };
      items = tt;
      based = let is = says.base_is in omega arith;
      leads = λ leads. record { follow = tt; sorted = tt; placed = tt; waiting = tt };
      unled = λ follows. refl;
      unasked = λ follows. refl;
      closed = λ leads before. base_closed before;
    }

    keeps : Keeps shape g a me moment t g.log.probed
    keeps = record {
      grows = grows;
      has = λ id current i. let within = known in let latest = moment.agreed.views.started.latest in absurd (omega arith);
      more = λ one i. i;
      silent = λ one i. inl i;
      probed_begun = moment.agreed.among_seqs.probed;
    }

    member_facts : t.view ≡ v.cur → MemberFacts shape v g.log a.history t
    member_facts now =
        let low = (base_now now).low in
        let is = base_of now in
        let within = moment.agreed.line.low in
        record { held = held_now now; least = omega arith; most = omega arith }

    leader_facts : v.lv ≡ v.cur → is_first (v.cf v.cur).seq me ≡ true → LeaderFacts v g.log t
    leader_facts lives own =
        let l = (moment.agreed.line.live lives).leader me own in
        record {
          taken = λ now.
              let is = base_of now in
              let absent = l.absent (omega arith) in
              append-nil (take base g.log.line) ∙ take_whole base g.log.line (omega arith);
          low = λ now. (base_now now).low ∙ sym (base_of now);
          absent = λ later. l.absent (omega arith);
        }

    -- ---- what it knows of reads
    covered_now : config.view ≡ v.cur → (client read : ℕ) → Covers a.history client read (line_ids g.log.line t) base
    covered_now now client read = record {
      ended = λ id e. (held_now now).past.ended id (record { event = e.event; ends = e.ends; stands = precedes_first e.event (Begin client read e.ask) a.history e.before });
      reached = λ reach e.
          let reached = moment.agreed.line.reached e.event reach e.reaches (precedes_first e.event (Begin client read e.ask) a.history e.before) in
          let low = (base_now now).low in
          let is = base_of now in
          omega arith;
    }

    leaderless : is_leader t ≡ true → config.view < v.cur → LeaderlessSays v g.log a.history a.seqs config.view
    leaderless leads before = says.leaderless before me (first leads) below

    ids_are : line_ids g.log.line t ≡ take (v.bs config.view) g.log.line
    ids_are = append-nil (take base g.log.line) ∙ ap (λ (n : ℕ). take n g.log.line) says.base_is

    module _ (grown : Grown g a me t g.log) (leads : is_leader t ≡ true) where
      cover : (client read : ℕ) → HasBegun a.history client read → BarredOrCovered v g.log.probed a.history (put a.seqs me t) config.view client read (line_ids g.log.line t) base
      cover client read begun = elim (cases_lt config.view v.cur) [
        | inl before ↦
            cover_on shape g a me moment.agreed t g.log grown config.view client read begun (take (v.bs config.view) g.log.line) (line_ids g.log.line t) (v.bs config.view) base
            (λ id i. subst (λ (list : List Identity). In id list) (sym ids_are) i) (let is = says.base_is in omega arith) ((leaderless leads before).covers client read begun)
        | inr not ↦
            let within = known in
            let latest = moment.agreed.views.started.latest in
            inr (covered_now (omega arith) client read)
      ]

      reads : LeaderReads v g.log a.history (put a.seqs me t) t
      reads = record {
        cover = cover;
        waiting = tt;
        old = λ before.
            let unbound = (leaderless leads before).unbound in
            ap (take (v.cl config.view)) ids_are ∙ take_shorter (v.cl config.view) (v.bs config.view) g.log.line unbound;
      }

    steps : Steps shape g a me moment t g.log
    steps =
        let grown : Grown g a me t g.log = keeps_grown shape g a me moment t g.log.probed keeps in
        record {
          grown = grown;
          goes_on = keeps_goes_on shape g a me moment t g.log.probed keeps member_facts leader_facts;
          facts = facts;
          noted = tt;
          reads = λ some leads. reads grown leads;
          probed = moment.agreed.among_seqs.probed;
        }

    started_says : StartedSays (put a.seqs me t me) config.view
    started_says = at_me (λ (x : SeqState). StartedSays x config.view) a me t (omega arith)

    stables_said : Each (λ (send : ℕ × Msg). Said shape g (with_seq a me t) me send.0 send.1) (stable_sends t base)
    stables_said = each_map (λ (node : ℕ). (node, Stable config.view base)) (λ (send : ℕ × Msg). Said shape g (with_seq a me t) me send.0 send.1) (replicas_of config)
        (in_each (λ (node : ℕ). StableSays v g.log.low config.view base) (replicas_of config) (λ node i. stable_says))

    taken_good : GoodSeq shape g a me (starts t sender)
    taken_good = either (GoodSeq shape g a me) (is_leader t) (sends_all t ((sender, Started t.view) ∷ stable_sends t t.bound)) (answers t sender (Started t.view))
        (λ leads. steps_good shape g a me moment t g.log steps ((sender, Started t.view) ∷ stable_sends t t.bound) (started_says, stables_said))
        (λ follows. steps_good shape g a me moment t g.log steps ((sender, Started t.view) ∷ []) (started_says, tt))

  pub new_view_good : GoodSeq shape g a me (on_new_view s sender config base window)
  new_view_good = either (GoodSeq shape g a me) (nat_lt s.view config.view && nat_lt s.barred config.view && has_node config.seq s.node) (starts t sender) (if s.view == config.view then answers s sender (Started config.view) else stays s)
      (λ e.
      let outer = and_parts (nat_lt s.view config.view && nat_lt s.barred config.view) (has_node config.seq s.node) e in
      let inner = and_parts (nat_lt s.view config.view) (nat_lt s.barred config.view) outer.0 in
      taken_good (ltb-true s.view config.view inner.0) (ltb-true s.barred config.view inner.1) outer.1)
      (λ e. either (GoodSeq shape g a me) (s.view == config.view) (answers s sender (Started config.view)) (stays s)
      (λ f. let own = eqb-true s.view config.view f in answers_good shape g a me moment sender (Started config.view) (omega arith)) (λ f. stays_good shape g a me moment))
