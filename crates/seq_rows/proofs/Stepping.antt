-- A step of a sequencing replica: what of it has to be shown, and that it is good then. Most steps keep the log, but
-- for the acknowledgements of probes; others let the line grow, or bind more.
use Rattle.std.proofs.Common.{◌≡◌, ◌⊎◌, ℕ, ◌≤◌, List, [], ◌∷◌, true, inl, refl, sym, subst, arith}
use Rattle.list_facts.specs.Lists.{Each, In, put}
use Rattle.list_facts.proofs.Fronts.{front_same}
use Rattle.list_facts.proofs.Members.{each_weaker}
use Rattle.list_facts.proofs.Puts.{put_cases, put_own}
use Rattle.rec_id.specs.Identity.{Identity}
use Rattle.view_config.specs.Shape.{Dimensions}
use Rattle.lazy_msgs.specs.declared.msg.Msg.{Msg}
use Rattle.lazy_rules.specs.Roles.{is_first}
use Rattle.lazy_rules.specs.Rows.{answers, sends_all, stays}
use Rattle.lazy_rules.specs.SeqRules.{is_leader}
use Rattle.lazy_rules.specs.SeqState.{SeqState}
use Rattle.log_facts.specs.Agreed.{Agreed}
use Rattle.log_facts.specs.Finality.{IsShut, line_ids}
use Rattle.log_facts.specs.Ghosts.{Ghost, Log, Probed, Views}
use Rattle.log_facts.specs.Good.{Good, GoodSeq, Moment}
use Rattle.log_facts.specs.Growth.{SeqGrows}
use Rattle.log_facts.specs.Parts.{Parts, with_seq}
use Rattle.log_facts.specs.Past.{HasBegun}
use Rattle.log_facts.specs.Said.{Said}
use Rattle.log_facts.specs.facts.OfLine.{LeaderFacts, MemberFacts}
use Rattle.log_facts.specs.facts.OfSeqs.{AmongSeqs, BatchNoted, LeaderReads, SeqFacts}
use Rattle.log_facts.proofs.telling.Stands.{seq_same}
use Rattle.seq_rows.proofs.GoingOn.{GoesOn, line_on, places_on}
use Rattle.seq_rows.proofs.Lifting.{Grown, clients_on, closers_on, flight_on, given_on, lift, reads_other, told_on}

module _ (shape : Dimensions) (g : Ghost) (a : Parts) (me : ℕ) (moment : Moment shape g a) where
  abbrev v : Views
  v = g.views

  abbrev log : Log
  log = g.log

  abbrev agreed : Agreed shape g a
  agreed = moment.agreed

  -- ---- any step
  -- the replica's new state and the log then, and what the replica has of others
  pub record Steps (t : SeqState) (later : Log) : Type 0 where
    pub grown : Grown g a me t later
    pub goes_on : GoesOn shape g a me agreed t later
    pub facts : SeqFacts shape v a.history me t
    pub noted : Each (BatchNoted v (put a.seqs me t) a.shards t) t.flight
    pub reads : 1 ≤ t.view → is_leader t ≡ true → LeaderReads v later a.history (put a.seqs me t) t
    pub probed : Each (λ (one : Probed). HasBegun a.history one.client one.read) later.probed

  module _ (t : SeqState) (later : Log) (step : Steps t later) where
    abbrev pub then : Ghost
    then = record { views = g.views; log = later }

    abbrev next : ℕ → SeqState
    next = put a.seqs me t

    among : AmongSeqs v later a.history next a.shards
    among = record {
      closers = closers_on shape g a me agreed t later step.grown;
      noted = put_cases (λ (node : ℕ) (s : SeqState). Each (BatchNoted v next a.shards s) s.flight) a.seqs me t step.noted
          (λ node other. flight_on shape g a me agreed t later step.grown (a.seqs node) (a.seqs node).flight (agreed.among_seqs.noted node));
      reads = put_cases (λ (node : ℕ) (s : SeqState). 1 ≤ s.view → is_leader s ≡ true → LeaderReads v later a.history next s) a.seqs me t step.reads
          (λ node other. reads_other shape g a me agreed t later step.grown node);
      probed = step.probed;
    }

    pub steps_agreed : Agreed shape then (with_seq a me t)
    steps_agreed = record {
      views = agreed.views;
      history = agreed.history;
      line = line_on shape g a me agreed t later step.grown.grows step.goes_on;
      seqs = put_cases (λ (node : ℕ) (s : SeqState). SeqFacts shape v a.history node s) a.seqs me t step.facts (λ node other. agreed.seqs node);
      among_seqs = among;
      shards = agreed.shards;
      places = places_on shape g a me agreed t later step.grown.grows step.goes_on;
      bytes = agreed.bytes;
      given = given_on shape g a me agreed t later step.grown;
      clients = clients_on shape g a me agreed t later step.grown;
      flushed = agreed.flushed;
      told = told_on shape g a me agreed t later step.grown;
    }

    pub steps_good : (sends : List (ℕ × Msg)) → Each (λ (send : ℕ × Msg). Said shape then (with_seq a me t) me send.0 send.1) sends → Good shape g a me (with_seq a me t) sends
    steps_good sends said = record {
      ghost = then;
      agreed = steps_agreed;
      lifts = lift shape g a me agreed t later step.grown;
      said = said;
    }

  -- ---- a step that keeps the log, but for the acknowledgements of probes
  abbrev pub with_probed : List Probed → Log
  with_probed probed = record log { probed = probed }

  pub record Keeps (t : SeqState) (probed : List Probed) : Type 0 where
    pub grows : SeqGrows (a.seqs me) t
    pub has : (id : Identity) → v.cur ≤ (a.seqs me).view → In id (line_ids log.line (a.seqs me)) → In id (line_ids log.line t)
    pub more : (one : Probed) → In one log.probed → In one probed
    pub silent : (one : Probed) → In one probed → In one log.probed ⊎ (¬ IsShut (a.seqs one.node) one.view)
    pub probed_begun : Each (λ (one : Probed). HasBegun a.history one.client one.read) probed

  module _ (t : SeqState) (probed : List Probed) (keeps : Keeps t probed) where
    pub keeps_grown : Grown g a me t (with_probed probed)
    keeps_grown = record {
      grows = keeps.grows;
      logs = record { line = front_same log.line; low = omega arith; given = λ one i. i; probed = keeps.more; silent = keeps.silent };
      given = refl;
      has = keeps.has;
    }

    pub keeps_goes_on :
        (t.view ≡ v.cur → MemberFacts shape v (with_probed probed) a.history t) → (v.lv ≡ v.cur → is_first (v.cf v.cur).seq me ≡ true → LeaderFacts v (with_probed probed) t) →
        GoesOn shape g a me agreed t (with_probed probed)
    keeps_goes_on member leader = record {
      asleep = λ asleep. record { line = refl; low = refl; high = refl };
      front = front_same log.line;
      distinct = agreed.line.distinct;
      begun = agreed.line.begun;
      low = omega arith;
      high = omega arith;
      within = agreed.line.low;
      most = agreed.line.high;
      behind = agreed.line.behind;
      least = λ node other now. (agreed.line.members node now).least;
      absent = λ node listed below who. refl;
      settled = λ live. (agreed.line.live live).settled;
      unled = λ follows. (refl, refl);
      member = member;
      leader = leader;
    }

  -- what a replica has that stays as it is
  pub member_same : (probed : List Probed) → (a.seqs me).view ≡ v.cur → MemberFacts shape v (with_probed probed) a.history (a.seqs me)
  member_same probed now = let m = agreed.line.members me now in record { held = m.held; least = m.least; most = m.most }

  pub leader_same : (probed : List Probed) → v.lv ≡ v.cur → is_first (v.cf v.cur).seq me ≡ true → LeaderFacts v (with_probed probed) (a.seqs me)
  leader_same probed live first = let l = (agreed.line.live live).leader me first in record { taken = l.taken; low = l.low; absent = l.absent }

  -- ---- a step that keeps the replica
  pub same_steps : (probed : List Probed) → Keeps (a.seqs me) probed → Steps (a.seqs me) (with_probed probed)
  same_steps probed keeps =
      let grown : Grown g a me (a.seqs me) (with_probed probed) = keeps_grown (a.seqs me) probed keeps in
      record {
        grown = grown;
        goes_on = keeps_goes_on (a.seqs me) probed keeps (member_same probed) (leader_same probed);
        facts = agreed.seqs me;
        noted = flight_on shape g a me agreed (a.seqs me) (with_probed probed) grown (a.seqs me) (a.seqs me).flight (agreed.among_seqs.noted me);
        reads = reads_other shape g a me agreed (a.seqs me) (with_probed probed) grown me;
        probed = keeps.probed_begun;
      }

  unchanged_keeps : Keeps (a.seqs me) log.probed
  unchanged_keeps = record { grows = seq_same (a.seqs me); has = λ id live i. i; more = λ one i. i; silent = λ one i. inl i; probed_begun = agreed.among_seqs.probed }

  -- what it sends is said already
  pub unchanged_good : (sends : List (ℕ × Msg)) → Each (λ (send : ℕ × Msg). Said shape g a me send.0 send.1) sends → GoodSeq shape g a me (sends_all (a.seqs me) sends)
  unchanged_good sends said = steps_good (a.seqs me) log (same_steps log.probed unchanged_keeps) sends
      (each_weaker (λ (send : ℕ × Msg). Said shape g a me send.0 send.1) (λ (send : ℕ × Msg). Said shape g (with_seq a me (a.seqs me)) me send.0 send.1)
      (λ send. lift shape g a me agreed (a.seqs me) log (keeps_grown (a.seqs me) log.probed unchanged_keeps) me send.0 send.1) sends said)

  pub stays_good : GoodSeq shape g a me (stays (a.seqs me))
  stays_good = unchanged_good [] tt

  pub answers_good : (to : ℕ) (msg : Msg) → Said shape g a me to msg → GoodSeq shape g a me (answers (a.seqs me) to msg)
  answers_good to msg said = unchanged_good ((to, msg) ∷ []) (said, tt)

-- what holds of the new state holds of the replica then
pub at_me : (P : SeqState → Type 0) (a : Parts) (me : ℕ) (t : SeqState) → P t → P (put a.seqs me t me)
at_me P a me t p = subst P (sym (put_own a.seqs me t)) p
