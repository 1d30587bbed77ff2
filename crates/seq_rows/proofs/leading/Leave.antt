-- The first batch leaves a leader's flight: more is bound, all shard replicas are told, and the reads that waited for no
-- more. In a closed view nothing more becomes bound by it.
use Rattle.std.proofs.Common.{◌≡◌, ◌≢◌, ℕ, ◌+◌, ◌<◌, ◌≤◌, List, ◌∷◌, ◌++◌, length, take, true, false, not, inl, inr, refl, sym, ap, ◌∙◌, subst, arith}
use Rattle.std.specs.Prelude.{max}
use Rattle.std.proofs.lemmas.Bool.{cases_lt, leb-true}
use Rattle.list_facts.specs.Lists.{Distinct, Each, In}
use Rattle.list_facts.proofs.Fronts.{front_same}
use Rattle.list_facts.proofs.Members.{each_append, each_in, each_map, in_each, in_filter}
use Rattle.rec_id.specs.Identity.{Identity}
use Rattle.view_config.specs.Shape.{Dimensions}
use Rattle.lazy_msgs.specs.declared.msg.Msg.{Msg}
use Rattle.lazy_msgs.specs.declared.msg.Msg.TheVariants.{Stable, TailReady}
use Rattle.lazy_rules.specs.Flight.{Batch, Probe, is_finished, is_ready, ready_probes}
use Rattle.lazy_rules.specs.Leading.{leaves, ready_sends, stable_sends, without_first}
use Rattle.lazy_rules.specs.Roles.{followers_of, is_first, replicas_of}
use Rattle.lazy_rules.specs.SeqState.{SeqState}
use Rattle.world_facts.proofs.goes.Sends.{each_filter}
use Rattle.log_facts.specs.Finality.{AllSettledIn, BarredOrCovered, line_ids}
use Rattle.log_facts.specs.Ghosts.{Ghost, Log, Views}
use Rattle.log_facts.specs.Good.{GoodSeq, Moment}
use Rattle.log_facts.specs.Parts.{Parts, with_seq}
use Rattle.log_facts.specs.Said.{Said}
use Rattle.log_facts.specs.Says.{StableSays}
use Rattle.log_facts.specs.facts.OfLine.{EndedFacts, LeaderFacts, MemberFacts, SeesFacts}
use Rattle.log_facts.specs.facts.OfSeqs.{WaitsFor}
use Rattle.seq_rows.proofs.GoingOn.{GoesOn}
use Rattle.seq_rows.proofs.Lifting.{Grown, closed_short, cover_on, flight_on, reads_on}
use Rattle.seq_rows.proofs.Longer.{take_shorter}
use Rattle.seq_rows.proofs.Stepping.{Keeps, Steps, keeps_goes_on, steps_good}
use Rattle.seq_rows.proofs.leading.Leading.{Leading, first, flying, joined, known, reads}
use Rattle.seq_rows.proofs.leading.Led.{Led}
use Rattle.seq_rows.proofs.leading.OrderedByAll.{more_short, said, same_more, settled_more, within_closed}
use Rattle.seq_rows.proofs.leading.Left.{IsLeft, is_left}

module _ (shape : Dimensions) (me : ℕ) (g : Ghost) (a : Parts) (moment : Moment shape g a) (leading : Leading (a.seqs me)) (batch : Batch) (others : List Batch)
    (is : (a.seqs me).flight ≡ batch ∷ others) (done : is_finished (length (followers_of (a.seqs me).config)) batch ≡ true) where
  abbrev s : SeqState
  s = a.seqs me

  abbrev v : Views
  v = g.views

  abbrev log : Log
  log = g.log

  abbrev bound : ℕ
  bound = s.bound + batch.count

  abbrev t : SeqState
  t = without_first s batch others

  left : IsLeft shape me g a moment leading batch others is done
  left = is_left shape me g a moment leading batch others is done

  -- with what is bound for good then
  module _ (low high : ℕ) (rises : log.low ≤ low) (has : bound ≤ low) where
    abbrev later : Log
    later = record log { low = low; high = high }

    module _ (on : GoesOn shape g a me moment.agreed t later) where
      grown : Grown g a me t later
      grown = record {
        grows = left.grown_from;
        logs = record { line = front_same log.line; low = rises; given = λ one i. i; probed = λ one i. i; silent = λ one i. inl i };
        given = refl;
        has = λ id live i. subst (λ (ids : List Identity). In id ids) (sym left.same_line) i;
      }

      steps : Steps shape g a me moment t later
      steps = record {
        grown = grown;
        goes_on = on;
        facts = left.own_facts;
        noted = flight_on shape g a me moment.agreed t later grown t others left.own_notes;
        reads = λ some leads. reads_on shape g a me moment.agreed t later grown t left.own_flight left.own_reads (more_short shape me g a moment leading batch others is done) (closed_short shape g a me moment.agreed t later grown s.view);
        probed = moment.agreed.among_seqs.probed;
      }

      abbrev Says : ℕ × Msg → Type 0
      Says send = Said shape (record { views = v; log = later }) (with_seq a me t) me send.0 send.1

      stable_said : (upto : ℕ) → upto ≤ bound → StableSays v low s.view upto
      stable_said upto le = record {
        started = (joined shape g a me moment leading).started;
        below = omega arith;
        closed = λ below. let within = within_closed shape me g a moment leading batch others is done below in omega arith;
      }

      stables_said : Each Says (stable_sends s bound)
      stables_said = each_map (λ (node : ℕ). (node, Stable s.view bound)) Says (replicas_of s.config)
          (in_each (λ (node : ℕ). Says (node, Stable s.view bound)) (replicas_of s.config) (λ node i. stable_said bound (omega arith)))

      -- a read that waited for no more
      ready_said : (probe : Probe) → In probe (ready_probes bound s.probes) → Says (probe.client, TailReady s.view probe.read probe.target)
      ready_said probe i =
          let kept = in_filter (is_ready bound) s.probes probe i in
          let reached = leb-true probe.target bound kept.1 in
          let w = each_in (WaitsFor a.history s) s.probes (flying shape g a me moment leading).waiting probe kept.0 in
          let told = each_in (λ (p : Probe). BarredOrCovered v log.probed a.history a.seqs s.view p.client p.read (take p.target (line_ids log.line s)) p.target) s.probes (reads shape g a me moment leading).waiting probe kept.0 in
          let there : take probe.target (line_ids log.line s) ≡ take probe.target log.line =
          sym (take_shorter probe.target bound (line_ids log.line s) reached) ∙ ap (take probe.target) (same_more shape me g a moment leading batch others is done) ∙ take_shorter probe.target bound log.line reached in
          record {
            begun = w.begun;
            stable = stable_said probe.target reached;
            covers = cover_on shape g a me moment.agreed t later grown s.view probe.client probe.read w.begun (take probe.target (line_ids log.line s)) (take probe.target log.line) probe.target probe.target
                (λ id j. subst (λ (ids : List Identity). In id ids) there j) (omega arith) told;
          }

      readies_said : Each Says (ready_sends s (ready_probes bound s.probes))
      readies_said = each_map (λ (probe : Probe). (probe.client, TailReady s.view probe.read probe.target)) Says (ready_probes bound s.probes)
          (in_each (λ (probe : Probe). Says (probe.client, TailReady s.view probe.read probe.target)) (ready_probes bound s.probes) ready_said)

      good : GoodSeq shape g a me (leaves s batch others)
      good = steps_good shape g a me moment t later steps (stable_sends s bound ++ ready_sends s (ready_probes bound s.probes))
          (each_append Says (stable_sends s bound) (ready_sends s (ready_probes bound s.probes)) stables_said readies_said)

  -- ---- in a closed view
  module _ (below : s.view < v.cur) where
    keeps : Keeps shape g a me moment t log.probed
    keeps = record {
      grows = left.grown_from;
      has = λ id live i. subst (λ (ids : List Identity). In id ids) (sym left.same_line) i;
      more = λ one i. i;
      silent = λ one i. inl i;
      probed_begun = moment.agreed.among_seqs.probed;
    }

    closed_good : GoodSeq shape g a me (leaves s batch others)
    closed_good =
        let within = within_closed shape me g a moment leading batch others is done below in
        let closed = moment.agreed.line.closed s.view below in
        good log.low log.high (omega arith) (omega arith)
        (keeps_goes_on shape g a me moment t log.probed keeps
        (λ now. absurd (omega arith))
        (λ live is_first_now. record {
          taken = λ now. absurd (omega arith);
          low = λ now. absurd (omega arith);
          absent = ((moment.agreed.line.live live).leader me is_first_now).absent;
        }))

  -- ---- in the current view
  module _ (now : s.view ≡ v.cur) where
    awake : v.lv ≡ v.cur
    awake = let own = (moment.agreed.seqs me).known in let latest = moment.agreed.views.started.latest in omega arith

    leads_now : is_first (v.cf v.cur).seq me ≡ true
    leads_now = subst (λ (w : ℕ). is_first (v.cf w).seq me ≡ true) now (first shape g a me moment leading)

    had_lead : LeaderFacts v log s
    had_lead = (moment.agreed.line.live awake).leader me leads_now

    had_part : MemberFacts shape v log a.history s
    had_part = moment.agreed.line.members me now

    whole : line_ids log.line t ≡ log.line
    whole = left.same_line ∙ had_lead.taken now

    abbrev bounded : Log
    bounded = record log { low = bound; high = max log.high bound }

    part_then : MemberFacts shape v bounded a.history t
    part_then = record {
      held = record {
        short = more_short shape me g a moment leading batch others is done;
        distinct = subst Distinct (sym left.same_line) had_part.held.distinct;
        window_formed = had_part.held.window_formed;
        sees = subst (SeesFacts shape a.history s.window) (sym left.same_line) had_part.held.sees;
        past = subst (EndedFacts a.history) (sym left.same_line) had_part.held.past;
      };
      least = omega arith;
      most = omega arith;
    }

    settled_then : (shard : ℕ) → AllSettledIn v a.shards v.cur shard (max log.high bound)
    settled_then shard = elim (cases_lt log.high bound) [
      | inl rose ↦
          let is_bound : bound ≡ max log.high bound = omega arith in
          subst (AllSettledIn v a.shards v.cur shard) is_bound (subst (λ (w : ℕ). AllSettledIn v a.shards w shard bound) now (settled_more shape me g a moment leading batch others is done shard))
      | inr stayed ↦
          let is_high : log.high ≡ max log.high bound = omega arith in
          subst (AllSettledIn v a.shards v.cur shard) is_high ((moment.agreed.line.live awake).settled shard)
    ]

    -- every other member of the view has it
    others_said : (node : ℕ) → In node (v.cf v.cur).seq → node ≢ me → (s.view ≤ (a.seqs node).view) × ((a.seqs node).view ≡ s.view → bound ≤ (a.seqs node).bound)
    others_said node member other =
        let told = said shape me g a moment leading batch others is done node (subst (λ (w : ℕ). In node (v.cf w).seq) (sym now) member) other in
        (told.own, told.has)

    risen : log.low ≤ bound
    risen = let low = had_lead.low now in omega arith

    on : GoesOn shape g a me moment.agreed t bounded
    on =
        let short = more_short shape me g a moment leading batch others is done in
        let high = moment.agreed.line.high in
        record {
          asleep = λ asleep. let awake = awake in absurd (omega arith);
          front = front_same log.line;
          distinct = moment.agreed.line.distinct;
          begun = moment.agreed.line.begun;
          low = risen;
          high = omega arith;
          within = omega arith;
          most = omega arith;
          behind = moment.agreed.line.behind;
          least = λ node other current.
              let some = leading.some in
              let member : In node (v.cf v.cur).seq = subst (λ (w : ℕ). In node (v.cf w).seq) current ((moment.agreed.seqs node).joined (omega arith)).member in
              (others_said node member other).1 (current ∙ sym now);
          absent = λ node member past who. elim who [
            | inl other ↦ let told = (others_said node member other).0 in absurd (omega arith)
            | inr own ↦ absurd (omega arith)
          ];
          settled = λ live. settled_then;
          unled = λ follows. let wrong : true ≡ false = sym leads_now ∙ follows in absurd cc;
          member = λ current. part_then;
          leader = λ live is_first_now. record { taken = λ current. whole; low = λ current. refl; absent = λ past. absurd (omega arith) };
        }

    current_good : GoodSeq shape g a me (leaves s batch others)
    current_good = good bound (max log.high bound) risen (omega arith) on

  pub leaves_good : GoodSeq shape g a me (leaves s batch others)
  leaves_good = elim (cases_lt s.view v.cur) [
    | inl below ↦ closed_good below
    | inr not_below ↦ let known = known shape g a me moment leading in current_good (omega arith)
  ]

  pub leaves_led : Led shape me g a (leaves s batch others)
  leaves_led =
      let formed = moment.formed.seqs me in
      record {
        good = leaves_good;
        formed = record {
          shaped = formed.shaped;
          numbered = formed.numbered;
          config = formed.config;
          probes = each_filter (λ (probe : Probe). probe.client < shape.clients) (λ (p : Probe). not (is_ready bound p)) s.probes formed.probes;
        };
        leading = record { some = leading.some; unsealed = leading.unsealed; leads = leading.leads };
      }
