-- Append at a sequencing replica: what it knows it acknowledges again, and what is new it takes where it has room. At
-- the leader of the current view the line grows by it.
use Rattle.std.proofs.Common.{◌≡◌, ◌⊎◌, ℕ, ◌+◌, ◌<◌, ◌≤◌, List, [], ◌∷◌, ◌++◌, length, take, Option, Some, true, false, not, inl, inr, refl, sym, ap, ◌∙◌, subst, arith, append-nil}
use Rattle.std.specs.Prelude.{if◌then◌else◌, slice_get}
use Rattle.std.proofs.lemmas.Bool.{cases_Bool, cases_eq, not-false}
use Rattle.std.proofs.lemmas.List.{length-append}
use Rattle.list_facts.specs.Lists.{Each, Front, In, put}
use Rattle.list_facts.proofs.Cases.{either}
use Rattle.list_facts.proofs.Distinctness.{distinct_more}
use Rattle.list_facts.proofs.Fronts.{front_append}
use Rattle.list_facts.proofs.Members.{each_in, each_weaker, in_each, in_last, in_left, in_more}
use Rattle.list_facts.proofs.Precedence.{precedes_first}
use Rattle.rec_id.specs.Identity.{Identity}
use Rattle.rec_id.specs.declared.event.Event.TheVariants.{Invoke}
use Rattle.view_config.specs.Shape.{Dimensions}
use Rattle.lazy_msgs.specs.declared.msg.Msg.TheVariants.{Append, AppendAck}
use Rattle.lazy_rules.specs.Flight.{Probe}
use Rattle.lazy_rules.specs.Roles.{is_first}
use Rattle.lazy_rules.specs.Rows.{answers, stays}
use Rattle.lazy_rules.specs.SeqRules.{has_room, is_active, is_leader, on_append, with_item}
use Rattle.lazy_rules.specs.SeqState.{SeqState}
use Rattle.lazy_rules.specs.Windows.{has_seen}
use Rattle.log_facts.specs.Finality.{BarredOrCovered, line_ids}
use Rattle.log_facts.specs.Ghosts.{Ghost, Log, Views}
use Rattle.log_facts.specs.Good.{GoodSeq, Heard, Moment}
use Rattle.log_facts.specs.Parts.{Parts}
use Rattle.log_facts.specs.Past.{IsBegun}
use Rattle.log_facts.specs.Says.{AckSays}
use Rattle.log_facts.specs.facts.OfLine.{BehindReached, LeaderFacts, MemberFacts}
use Rattle.log_facts.specs.facts.OfSeqs.{BatchNoted, LeaderReads, WaitsFor}
use Rattle.log_facts.proofs.Places.{IsBehind, at_append}
use Rattle.log_facts.proofs.growth.SaidNodes.{front_take}
use Rattle.seq_rows.proofs.Active.{IsActive, active, live, no_closer}
use Rattle.seq_rows.proofs.Appending.{begun, begun_client, begun_number, held_more, ids_more, item_facts, item_grows, unknown}
use Rattle.seq_rows.proofs.GoingOn.{GoesOn}
use Rattle.seq_rows.proofs.Lifting.{Grown, bound_short, closed_short, cover_on, flight_on, line_more}
use Rattle.seq_rows.proofs.Longer.{begins_long, line_same, take_more}
use Rattle.seq_rows.proofs.Stepping.{Keeps, Steps, answers_good, at_me, keeps_goes_on, keeps_grown, stays_good, steps_good}

module _ (shape : Dimensions) (g : Ghost) (a : Parts) (sender me : ℕ) (view : ℕ) (id : Identity) (bytes : Option (List ℕ)) (moment : Moment shape g a) (heard : Heard shape g a sender me (Append view id bytes)) where
  abbrev s : SeqState
  s = a.seqs me

  abbrev t : SeqState
  t = with_item s id bytes

  abbrev v : Views
  v = g.views

  module _ (act : IsActive s view) where
    -- ---- it is known
    known_says : has_seen s.window id ≡ true → AckSays v g.log.line s me view id
    known_says seen = record {
      own = let own = act.own in omega arith;
      live = λ now.
          let m = moment.agreed.line.members me (act.own ∙ now) in
          let started = begun shape g a me moment view id bytes act heard.said in
          m.held.sees.seen id (begun_client shape g a me moment id started) (begun_number shape g a me moment id started) seen;
      closed = λ below closer. absurd (no_closer shape g a me moment view act below closer);
    }

    -- ---- it is new: what goes for any log that goes on
    module _ (later : Log) (grown : Grown g a me t later) where
      noted_more : Each (BatchNoted v (put a.seqs me t) a.shards t) s.flight
      noted_more = each_weaker (BatchNoted v (put a.seqs me t) a.shards s) (BatchNoted v (put a.seqs me t) a.shards t) (λ batch n. record { placed = n.placed; ordered = n.ordered }) s.flight
          (flight_on shape g a me moment.agreed t later grown s s.flight (moment.agreed.among_seqs.noted me))

      reads_more : (s.view < v.cur → later.line ≡ g.log.line) → 1 ≤ s.view → is_leader s ≡ true → LeaderReads v later a.history (put a.seqs me t) t
      reads_more old some leads =
          let r = moment.agreed.among_seqs.reads me some leads in
          let flying = (moment.agreed.seqs me).leads leads in
          let ids : List Identity = line_ids g.log.line s in
          let is : line_ids later.line t ≡ ids ++ id ∷ [] = ids_more shape g a me moment view id bytes act heard.said later.line
          ∙ ap (λ (list : List Identity). list ++ id ∷ []) (line_same g.log.line later.line s grown.logs.line (bound_short shape g a me moment.agreed t later grown me leads)) in
          record {
            cover = λ client read begun_read. cover_on shape g a me moment.agreed t later grown s.view client read begun_read (line_ids g.log.line s) (line_ids later.line t) s.bound s.bound
                (λ x i. subst (λ (list : List Identity). In x list) (sym is) (in_left x (line_ids g.log.line s) (id ∷ []) i)) (omega arith) (r.cover client read begun_read);
            waiting = in_each (λ (probe : Probe). BarredOrCovered v later.probed a.history (put a.seqs me t) s.view probe.client probe.read (take probe.target (line_ids later.line t)) probe.target) s.probes
                (λ probe i. cover_on shape g a me moment.agreed t later grown s.view probe.client probe.read (each_in (WaitsFor a.history s) s.probes flying.waiting probe i).begun
                (take probe.target (line_ids g.log.line s)) (take probe.target (line_ids later.line t)) probe.target probe.target
                (front_take probe.target (line_ids g.log.line s) (line_ids later.line t) (record { rest = id ∷ []; is = is })) (omega arith)
                (each_in (λ (probe : Probe). BarredOrCovered v g.log.probed a.history a.seqs s.view probe.client probe.read (take probe.target (line_ids g.log.line s)) probe.target) s.probes r.waiting probe i));
            old = λ below.
                let long = begins_long (v.cl s.view) (line_ids g.log.line s) g.log.line (r.old below) (closed_short shape g a me moment.agreed t later grown s.view below) in
                ap (take (v.cl s.view)) is ∙ take_more (v.cl s.view) (line_ids g.log.line s) (id ∷ []) long ∙ r.old below ∙ ap (take (v.cl s.view)) (sym (old below));
          }

      -- its acknowledgement
      new_says : AckSays v later.line t me view id
      new_says = record {
        own = let own = act.own in omega arith;
        live = λ now. subst (λ (list : List Identity). In id list) (sym (ids_more shape g a me moment view id bytes act heard.said later.line)) (in_last id (line_ids later.line s));
        closed = λ below closer. absurd (no_closer shape g a me moment view act below closer);
      }

      new_good : Steps shape g a me moment t later → GoodSeq shape g a me (answers t id.client (AppendAck view id))
      new_good step = steps_good shape g a me moment t later step ((id.client, AppendAck view id) ∷ []) (at_me (λ (x : SeqState). AckSays v later.line x me view id) a me t new_says, tt)

    more_has : (later : List Identity) → Front g.log.line later → (x : Identity) → In x (line_ids g.log.line s) → In x (line_ids later t)
    more_has later front x i = subst (λ (list : List Identity). In x list) (sym (ids_more shape g a me moment view id bytes act heard.said later))
        (in_left x (line_ids later s) (id ∷ []) (line_more g.log.line later s front x i))

    module _ (new : has_seen s.window id ≡ false) where
      -- ---- at a follower, and in a closed view, the log stays
      module _ (led : s.view ≡ v.cur → is_first (v.cf v.cur).seq me ≡ true → ⊥) where
        keeps : Keeps shape g a me moment t g.log.probed
        keeps = record {
          grows = item_grows shape g a me moment view id bytes act heard.said;
          has = λ x current i. more_has g.log.line (record { rest = []; is = sym (append-nil g.log.line) }) x i;
          more = λ one i. i;
          silent = λ one i. inl i;
          probed_begun = moment.agreed.among_seqs.probed;
        }

        member_kept : t.view ≡ v.cur → MemberFacts shape v g.log a.history t
        member_kept now =
            let m = moment.agreed.line.members me now in
            record { held = held_more shape g a me moment view id bytes act heard.said new m.held g.log.line refl m.held.short; least = m.least; most = m.most }

        leader_kept : v.lv ≡ v.cur → is_first (v.cf v.cur).seq me ≡ true → LeaderFacts v g.log t
        leader_kept live_now first =
            let l = (moment.agreed.line.live live_now).leader me first in
            record { taken = λ now. absurd (led now first); low = λ now. absurd (led now first); absent = l.absent }

        kept_good : GoodSeq shape g a me (answers t id.client (AppendAck view id))
        kept_good =
            let grown : Grown g a me t g.log = keeps_grown shape g a me moment t g.log.probed keeps in
            new_good g.log grown (record {
              grown = grown;
              goes_on = keeps_goes_on shape g a me moment t g.log.probed keeps member_kept leader_kept;
              facts = item_facts shape g a me moment view id bytes act heard.said;
              noted = noted_more g.log grown;
              reads = reads_more g.log grown (λ below. refl);
              probed = moment.agreed.among_seqs.probed;
            })

      -- ---- at the leader of the current view the line grows
      module _ (now : s.view ≡ v.cur) (first : is_first (v.cf v.cur).seq me ≡ true) where
        abbrev later : Log
        later = record g.log { line = g.log.line ++ id ∷ [] }

        live_now : v.lv ≡ v.cur
        live_now = live shape g a me moment view act (sym act.own ∙ now)

        leader_before : LeaderFacts v g.log s
        leader_before = (moment.agreed.line.live live_now).leader me first

        member_before : MemberFacts shape v g.log a.history s
        member_before = moment.agreed.line.members me now

        grown : Grown g a me t later
        grown = record {
          grows = item_grows shape g a me moment view id bytes act heard.said;
          logs = record { line = front_append g.log.line (id ∷ []); low = omega arith; given = λ one i. i; probed = λ one i. i; silent = λ one i. inl i };
          given = refl;
          has = λ x current i. more_has later.line (front_append g.log.line (id ∷ [])) x i;
        }

        not_there : ¬ In id g.log.line
        not_there i = unknown shape g a me moment view id bytes act heard.said new member_before.held (subst (λ (list : List Identity). In id list) (sym (leader_before.taken now)) i)

        longer : length later.line ≡ length g.log.line + 1
        longer = length-append g.log.line (id ∷ [])

        behind_more : BehindReached a.history later.line
        behind_more x own event reach place reaches before at = by (at_append g.log.line (id ∷ []) place x at)
          where
            within : reach ≤ length g.log.line
            within =
                let reached = moment.agreed.line.reached event reach reaches (precedes_first event (Invoke x own) a.history before) in
                let low = moment.agreed.line.low in
                let high = moment.agreed.line.high in
                omega arith

            by : ((place < length g.log.line) × (slice_get g.log.line place ≡ Some x)) ⊎ IsBehind g.log.line (id ∷ []) place x → reach ≤ place
            by (inl there) = moment.agreed.line.behind x own event reach place reaches before there.1
            by (inr new_place) = let is = new_place.is in let least = within in omega arith

        member_grown : MemberFacts shape v later a.history t
        member_grown =
            let m = member_before in
            let short = m.held.short in
            let more = longer in
            record {
              held = held_more shape g a me moment view id bytes act heard.said new m.held later.line (take_more s.bound g.log.line (id ∷ []) m.held.short) (omega arith);
              least = m.least;
              most = m.most;
            }

        leader_grown : LeaderFacts v later t
        leader_grown = record {
          taken = λ same. ids_more shape g a me moment view id bytes act heard.said later.line
              ∙ ap (λ (list : List Identity). list ++ id ∷ []) (line_same g.log.line later.line s (front_append g.log.line (id ∷ [])) member_before.held.short ∙ leader_before.taken now);
          low = λ same. leader_before.low now;
          absent = λ below. absurd (omega arith);
        }

        goes_on : GoesOn shape g a me moment.agreed t later
        goes_on =
            let lives = live_now in
            let line = moment.agreed.line in
            record {
              asleep = λ asleep. absurd (omega arith);
              front = front_append g.log.line (id ∷ []);
              distinct = distinct_more id g.log.line moment.agreed.line.distinct not_there;
              begun = λ x i. elim (in_more x id g.log.line i) [
                | inl old ↦ moment.agreed.line.begun x old
                | inr is ↦ subst (IsBegun a.history) is (begun shape g a me moment view id bytes act heard.said)
              ];
              low = omega arith;
              high = omega arith;
              within = moment.agreed.line.low;
              most = let most = moment.agreed.line.high in let more = longer in omega arith;
              behind = behind_more;
              least = λ node other taken. (moment.agreed.line.members node taken).least;
              absent = λ node listed below who. refl;
              settled = λ live. (moment.agreed.line.live live).settled;
              unled = λ follows. let wrong : true ≡ false = sym first ∙ follows in cc;
              member = λ same. member_grown;
              leader = λ live own. leader_grown;
            }

        grown_good : GoodSeq shape g a me (answers t id.client (AppendAck view id))
        grown_good = new_good later grown (record {
          grown = grown;
          goes_on = goes_on;
          facts = item_facts shape g a me moment view id bytes act heard.said;
          noted = noted_more later grown;
          reads = reads_more later grown (λ below. absurd (omega arith));
          probed = moment.agreed.among_seqs.probed;
        })

      taken_good : GoodSeq shape g a me (answers t id.client (AppendAck view id))
      taken_good = elim (cases_eq s.view v.cur) [
        | inr apart ↦ kept_good (λ now. absurd (apart now))
        | inl now ↦ elim (cases_Bool (is_first (v.cf v.cur).seq me)) [
          | inl first ↦ grown_good now first
          | inr follows ↦ kept_good (λ same first. let wrong : true ≡ false = sym first ∙ follows in cc)
        ]
      ]

  pub append_good : GoodSeq shape g a me (on_append s view id bytes)
  append_good =
      let stayed : GoodSeq shape g a me (stays s) = stays_good shape g a me moment in
      either (GoodSeq shape g a me) (not (is_active s view)) (stays s) (if has_seen s.window id then answers s id.client (AppendAck view id) else (if has_room s then answers t id.client (AppendAck view id) else stays s))
      (λ e. stayed)
      (λ e. either (GoodSeq shape g a me) (has_seen s.window id) (answers s id.client (AppendAck view id)) (if has_room s then answers t id.client (AppendAck view id) else stays s)
      (λ seen. answers_good shape g a me moment id.client (AppendAck view id) (known_says (active s view (not-false (is_active s view) e)) seen))
      (λ new. either (GoodSeq shape g a me) (has_room s) (answers t id.client (AppendAck view id)) (stays s)
      (λ f. taken_good (active s view (not-false (is_active s view) e)) new) (λ f. stayed)))
