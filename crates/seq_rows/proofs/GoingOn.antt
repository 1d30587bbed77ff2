-- How the log may go on at a step of one sequencing replica: the line grows at its end, and more is bound. What is to
-- be shown of that, and that all facts of the line and of what shard replicas have of it hold then.
use Rattle.std.proofs.Common.{◌≡◌, ◌≢◌, ◌⊎◌, ℕ, ◌<◌, ◌≤◌, List, [], ◌∷◌, ◌++◌, length, take, true, false, inl, inr, refl, sym, ap, ◌∙◌, subst, arith}
use Rattle.std.proofs.lemmas.Bool.{cases_Bool, cases_eq, eq-eqb, eqb-true}
use Rattle.list_facts.specs.Lists.{Distinct, Front, In, put}
use Rattle.list_facts.proofs.Puts.{put_cases}
use Rattle.rec_id.specs.Identity.{Identity}
use Rattle.rec_id.specs.declared.item.Item.{Item}
use Rattle.rec_id.specs.declared.marks.Marks.{Marks}
use Rattle.view_config.specs.Shape.{Dimensions}
use Rattle.lazy_rules.specs.ControlState.{Flushing, Taken}
use Rattle.lazy_rules.specs.Ids.{ids_of}
use Rattle.lazy_rules.specs.Pushing.{length_of}
use Rattle.lazy_rules.specs.Roles.{is_first, replicas_at}
use Rattle.lazy_rules.specs.SeqState.{SeqState}
use Rattle.lazy_rules.specs.ShardState.{ShardState}
use Rattle.log_facts.specs.Agreed.{Agreed, PlacesAgree}
use Rattle.log_facts.specs.Finality.{AllSettledIn, HasSettled, IsFinal, line_ids}
use Rattle.log_facts.specs.Ghosts.{Ghost, Log, Views}
use Rattle.log_facts.specs.Growth.{SeqGrows}
use Rattle.log_facts.specs.Parts.{Parts, home_of}
use Rattle.log_facts.specs.Past.{IsBegun}
use Rattle.log_facts.specs.Signs.{sign_at}
use Rattle.log_facts.specs.facts.OfLine.{BaseFacts, BehindReached, ClosingFacts, Held, LeaderFacts, LineFacts, LiveFacts, MemberFacts, TakenHeld}
use Rattle.log_facts.specs.facts.OfViews.{PhaseFacts}
use Rattle.log_facts.specs.facts.OfShards.{AgreeOnFinal, FinalFacts, OrderedAs, OrderFacts}
use Rattle.log_facts.proofs.growth.SaidNodes.{front_at}
use Rattle.seq_rows.proofs.Longer.{length_front, take_front}

-- the line and what is bound of it are the same
pub record SameLine (log later : Log) : Type 0 where
  pub line : later.line ≡ log.line
  pub low : later.low ≡ log.low
  pub high : later.high ≡ log.high

pub same_line : (log : Log) → SameLine log log
same_line log = record { line = refl; low = refl; high = refl }

-- two lists have one first at most
pub first_once : (nodes : List ℕ) (m n : ℕ) → is_first nodes m ≡ true → is_first nodes n ≡ true → m ≡ n
first_once [] m n p q = let wrong : false ≡ true = p in cc
first_once (z ∷ zs) m n p q = sym (eqb-true z m p) ∙ eqb-true z n q

pub some_first : (nodes : List ℕ) (m : ℕ) → In m nodes → (n : ℕ) × (is_first nodes n ≡ true) × In n nodes
some_first [] m i = absurd i
some_first (z ∷ zs) m i = (z, eq-eqb z z refl, inl refl)

first_among : (nodes : List ℕ) (n : ℕ) → is_first nodes n ≡ true → In n nodes
first_among [] n p = let wrong : false ≡ true = p in cc
first_among (z ∷ zs) n p = inl (eqb-true z n p)

module _ (shape : Dimensions) (g : Ghost) (a : Parts) (me : ℕ) (agreed : Agreed shape g a) where
  abbrev v : Views
  v = g.views

  abbrev log : Log
  log = g.log

  -- what is to be shown of the log and of the replica's new state
  pub record GoesOn (t : SeqState) (later : Log) : Type 0 where
    -- while no view lives nothing of it changes
    pub asleep : v.lv < v.cur → SameLine log later
    pub front : Front log.line later.line
    pub distinct : Distinct later.line
    pub begun : (id : Identity) → In id later.line → IsBegun a.history id
    pub low : log.low ≤ later.low
    pub high : log.high ≤ later.high
    pub within : later.low ≤ later.high
    pub most : later.high ≤ length later.line
    pub behind : BehindReached a.history later.line
    -- what is bound for good rises only where all members took the view, and know so much to be bound
    pub least : (node : ℕ) → node ≢ me → (a.seqs node).view ≡ v.cur → later.low ≤ (a.seqs node).bound
    pub absent : (node : ℕ) → In node (v.cf v.cur).seq → (a.seqs node).view < v.cur → node ≢ me ⊎ (t.view < v.cur) → later.low ≡ log.low
    -- what is bound in this view was settled
    pub settled : v.lv ≡ v.cur → (shard : ℕ) → AllSettledIn v a.shards v.cur shard later.high
    -- only the leader makes the line grow, or binds for good
    pub unled : is_first (v.cf v.cur).seq me ≡ false → (later.line ≡ log.line) × (later.low ≡ log.low)
    pub member : t.view ≡ v.cur → MemberFacts shape v later a.history t
    pub leader : v.lv ≡ v.cur → is_first (v.cf v.cur).seq me ≡ true → LeaderFacts v later t

  inside : log.low ≤ length log.line
  inside = let one = agreed.line.low in let two = agreed.line.high in omega arith

  module _ (t : SeqState) (later : Log) (grows : SeqGrows (a.seqs me) t) (on : GoesOn t later) where
    abbrev next : ℕ → SeqState
    next = put a.seqs me t

    held_on : (bound : ℕ) (window : List Marks) (items : List Item) → Held shape a.history log.line bound window items → Held shape a.history later.line bound window items
    held_on bound window items h =
        let same : take bound log.line ≡ take bound later.line = sym (take_front bound log.line later.line on.front h.short) in
        let longer = length_front log.line later.line on.front in
        let short = h.short in
        record {
          short = omega arith;
          distinct = subst (λ (ids : List Identity). Distinct (ids ++ ids_of items)) same h.distinct;
          window_formed = h.window_formed;
          sees = rw same at h.sees;
          past = rw same at h.past;
        }

    member_on : (node : ℕ) → node ≢ me → (a.seqs node).view ≡ v.cur → MemberFacts shape v later a.history (a.seqs node)
    member_on node other now =
        let m = agreed.line.members node now in
        let most = m.most in
        let high = on.high in
        record { held = held_on (a.seqs node).bound (a.seqs node).window (a.seqs node).pending m.held; least = on.least node other now; most = omega arith }

    was_below : (node : ℕ) → (next node).view < v.cur → ((a.seqs node).view < v.cur) × (node ≢ me ⊎ (t.view < v.cur))
    was_below = put_cases (λ (node : ℕ) (s : SeqState). s.view < v.cur → ((a.seqs node).view < v.cur) × (node ≢ me ⊎ (t.view < v.cur))) a.seqs me t
        (λ below. let rises = grows.view in (omega arith, inr below)) (λ node other below. (below, inl other))

    base_on : v.lv ≡ v.cur → (node : ℕ) → In node (v.cf v.cur).seq → (next node).view < v.cur → BaseFacts shape v later a.history
    base_on live node member below =
        let was = was_below node below in
        let base = (agreed.line.live live).absent node member was.0 in
        let low = base.low in
        let stays = on.absent node member was.0 was.1 in
        record { held = held_on (v.bs v.lv) (v.wn v.lv) [] base.held; low = omega arith }

    leader_on : v.lv ≡ v.cur → (node : ℕ) → node ≢ me → is_first (v.cf v.cur).seq node ≡ true → LeaderFacts v later (a.seqs node)
    leader_on live node other first =
        let l = (agreed.line.live live).leader node first in
        let unled : is_first (v.cf v.cur).seq me ≡ false = elim (cases_Bool (is_first (v.cf v.cur).seq me)) [ inl both ↦ absurd (other (first_once (v.cf v.cur).seq node me first both)) | inr none ↦ none ] in
        let same = on.unled unled in
        record {
          taken = λ now. subst (λ (line : List Identity). line_ids line (a.seqs node) ≡ line) (sym same.0) (l.taken now);
          low = λ now. same.1 ∙ l.low now;
          absent = λ below. ap length same.0 ∙ l.absent below;
        }

    live_on : v.lv ≡ v.cur → LiveFacts shape v later a.history next a.shards
    live_on live =
        let l = agreed.line.live live in
        record {
          based = let based = l.based in let low = on.low in omega arith;
          absent = base_on live;
          leader = put_cases (λ (node : ℕ) (s : SeqState). is_first (v.cf v.cur).seq node ≡ true → LeaderFacts v later s) a.seqs me t (on.leader live) (leader_on live);
          settled = on.settled live;
        }

    closing_on : v.lv < v.cur → ClosingFacts v later
    closing_on asleep =
        let same = on.asleep asleep in
        let low = same.low in
        let high = same.high in
        let long : length later.line ≡ length log.line = ap length same.line in
        let c = agreed.line.closing asleep in
        record {
          one = let one = c.one in omega arith;
          closed = λ w since. let closed = c.closed w since in omega arith;
          ended = λ w since. let ended = c.ended w since in omega arith;
        }

    taken_on : (taken : Taken) → a.control.phase ≡ Flushing taken → TakenHeld shape later a.history taken
    taken_on taken is =
        let same = on.asleep (subst (PhaseFacts v) is agreed.views.control.phase).unstarted in
        let had = agreed.line.taken taken is in
        record {
          held = held_on taken.from taken.window taken.items had.held;
          whole = had.whole;
          low = same.low ∙ had.low;
          line = subst (λ (line : List Identity). take taken.from line ++ ids_of taken.items ≡ line) (sym same.line) had.line;
        }

    pub line_on : LineFacts shape v later a.history a.control.phase next a.shards
    line_on = record {
      distinct = on.distinct;
      begun = on.begun;
      low = on.within;
      high = on.most;
      closed = λ w below. let closed = agreed.line.closed w below in let low = on.low in omega arith;
      reached = λ event reach is stands. let reached = agreed.line.reached event reach is stands in let low = on.low in omega arith;
      behind = on.behind;
      members = put_cases (λ (node : ℕ) (s : SeqState). s.view ≡ v.cur → MemberFacts shape v later a.history s) a.seqs me t on.member member_on;
      live = live_on;
      closing = closing_on;
      taken = taken_on;
    }

    -- ---- what shard replicas have of the line
    ordered_on : (s : ShardState) (place : ℕ) → OrderedAs log.line s place → OrderedAs later.line s place
    ordered_on s place h id at = front_at log.line later.line on.front place id (h id at)

    order_on : (d : ℕ) → 1 ≤ (a.shards d).view → OrderFacts v later.line (a.shards d)
    order_on d some =
        let o = agreed.places.orders d some in
        record {
          live = λ now place. ordered_on (a.shards d) place (o.live now place);
          closed = λ below place within. ordered_on (a.shards d) place (o.closed below place within);
          flushed = λ before least is.
              let f = o.flushed before least is in
              record { has = f.has; placed = f.placed; ordered = λ place within. ordered_on (a.shards d) place (f.ordered place within) };
          unstarted = λ now asleep. o.unstarted now asleep ∙ sym (ap length (on.asleep asleep).line);
        }

    -- a replica of the current view is listed in it, and while that lives it has settled what is bound
    listed : (d : ℕ) → 1 ≤ (a.shards d).view → (a.shards d).view ≡ v.cur → In d (replicas_at (v.cf v.cur) (home_of d))
    listed d some now = subst (λ (w : ℕ). In d (replicas_at (v.cf w) (home_of d))) now (agreed.shards.ranks d some).listed

    settled_on : v.lv ≡ v.cur → (d : ℕ) → 1 ≤ (a.shards d).view → (a.shards d).view ≡ v.cur → HasSettled (a.shards d) later.high
    settled_on live d some now = (on.settled live (home_of d) d (listed d some now)).settled now

    -- what is final now was, or it lies below what the replica has settled
    final_cases : (d place : ℕ) → 1 ≤ (a.shards d).view → IsFinal v later.high (a.shards d).view place → IsFinal v log.high (a.shards d).view place ⊎ (HasSettled (a.shards d) later.high × (place < later.high))
    final_cases d place some (inr closed) = inl (inr closed)
    final_cases d place some (inl now) = elim (cases_eq v.lv v.cur) [
      | inl live ↦ inr (settled_on live d some now.0, now.1)
      | inr asleep ↦
          let latest = agreed.views.started.latest in
          let high = (on.asleep (omega arith)).high in
          let below = now.1 in
          inl (inl (now.0, omega arith))
    ]

    final_on : (d : ℕ) → 1 ≤ (a.shards d).view → FinalFacts v later.low later.high (a.shards d)
    final_on d some =
        let f = agreed.places.finals d some in
        record {
          has = λ place final. elim (final_cases d place some final) [ inl old ↦ f.has place old | inr new ↦ let has = new.0.has in let lt = new.1 in omega arith ];
          placed = λ place final. elim (final_cases d place some final) [ inl old ↦ f.placed place old | inr new ↦ let placed = new.0.placed in let lt = new.1 in omega arith ];
          decided = λ place sign final at. elim (final_cases d place some final) [ inl old ↦ f.decided place sign old at | inr new ↦ new.0.whole place sign new.1 at ];
          stable = let stable = f.stable in let low = on.low in omega arith;
          closed = f.closed;
        }

    -- ---- what several have of each other
    -- in the current view a replica has what its primary has
    as_primary : (d p place : ℕ) → 1 ≤ (a.shards d).view → (a.shards d).view ≡ v.cur → is_first (replicas_at (v.cf v.cur) (home_of d)) p ≡ true → place < length_of (a.shards d) → sign_at (a.shards d) place ≡ sign_at (a.shards p) place
    as_primary d p place some now first within = by (cases_Bool (a.shards d).primary)
      where
        above : (a.shards d).view ≤ (a.shards p).view
        above = agreed.places.among.ahead d p some (subst (λ (w : ℕ). is_first (replicas_at (v.cf w) (home_of d)) p ≡ true) (sym now) first)

        there : 1 ≤ (a.shards p).view
        there = let up = above in omega arith

        same : v.cur ≡ (a.shards p).view
        same = let up = above in let known = (agreed.shards.ranks p there).known in omega arith

        home : home_of p ≡ home_of d
        home = (agreed.views.configs.lists v.cur).homes (home_of d) p (first_among (replicas_at (v.cf v.cur) (home_of d)) p first)

        leads : (a.shards p).primary ≡ true
        leads = (agreed.shards.ranks p there).first ∙ subst (λ (w : ℕ). is_first (replicas_at (v.cf w) (home_of p)) p ≡ true) same (subst (λ (i : ℕ). is_first (replicas_at (v.cf v.cur) i) p ≡ true) (sym home) first)

        by : (((a.shards d).primary ≡ true) ⊎ ((a.shards d).primary ≡ false)) → sign_at (a.shards d) place ≡ sign_at (a.shards p) place
        by (inl own) =
            let own_first : is_first (replicas_at (v.cf v.cur) (home_of d)) d ≡ true = subst (λ (w : ℕ). is_first (replicas_at (v.cf w) (home_of d)) d ≡ true) now (sym (agreed.shards.ranks d some).first ∙ own) in
            ap (λ (n : ℕ). sign_at (a.shards n) place) (first_once (replicas_at (v.cf v.cur) (home_of d)) d p own_first first)
        by (inr follows) = (agreed.places.among.copies d p (sym home) some (now ∙ same) follows leads).same place within

    agree_on : (d e : ℕ) → home_of d ≡ home_of e → 1 ≤ (a.shards d).view → 1 ≤ (a.shards e).view → AgreeOnFinal v later.high (a.shards d) (a.shards e)
    agree_on d e home some_d some_e place final_d final_e = by final_d final_e
      where
        before : IsFinal v log.high (a.shards d).view place → IsFinal v log.high (a.shards e).view place → sign_at (a.shards d) place ≡ sign_at (a.shards e) place
        before = agreed.places.among.agree d e home some_d some_e place

        -- what is final in a closed view was bound for good
        bound : (view : ℕ) → view < v.cur → place < v.cl view → place < log.high
        bound view below within = let closed = agreed.line.closed view below in let low = agreed.line.low in omega arith

        both : v.lv ≡ v.cur → (a.shards d).view ≡ v.cur → (a.shards e).view ≡ v.cur → place < later.high → sign_at (a.shards d) place ≡ sign_at (a.shards e) place
        both live now_d now_e within =
            let p = some_first (replicas_at (v.cf v.cur) (home_of d)) d (listed d some_d now_d) in
            let has_d = (settled_on live d some_d now_d).has in
            let has_e = (settled_on live e some_e now_e).has in
            as_primary d p.0 place some_d now_d p.1 (omega arith) ∙ sym (as_primary e p.0 place some_e now_e (subst (λ (i : ℕ). is_first (replicas_at (v.cf v.cur) i) p.0 ≡ true) home p.1) (omega arith))

        by : IsFinal v later.high (a.shards d).view place → IsFinal v later.high (a.shards e).view place → sign_at (a.shards d) place ≡ sign_at (a.shards e) place
        by (inl x) (inl y) = elim (cases_eq v.lv v.cur) [
          | inl live ↦ both live x.0 y.0 x.1
          | inr asleep ↦
              let latest = agreed.views.started.latest in
              let high = (on.asleep (omega arith)).high in
              let within = x.1 in
              before (inl (x.0, omega arith)) (inl (y.0, omega arith))
        ]
        by (inl x) (inr y) = before (inl (x.0, bound (a.shards e).view y.0 y.1)) (inr y)
        by (inr x) (inl y) = before (inr x) (inl (y.0, bound (a.shards d).view x.0 x.1))
        by (inr x) (inr y) = before (inr x) (inr y)

    pub places_on : PlacesAgree shape v later.line later.low later.high a.shards
    places_on =
        let m = agreed.places.among in
        record {
          orders = order_on;
          finals = final_on;
          among = record { there = m.there; agree = agree_on; copies = m.copies; noted = m.noted; ahead = m.ahead; present = m.present };
        }
