-- Seal at a sequencing replica: its own view is sealed, and a higher one is barred.
use Rattle.std.proofs.Common.{◌≡◌, ℕ, ◌<◌, max, true, Bool, nat_lt, refl, arith, inl}
use Rattle.std.specs.Prelude.{◌==◌, if◌then◌else◌}
use Rattle.std.proofs.lemmas.Bool.{eqb-true, ltb-true}
use Rattle.list_facts.specs.Lists.{put}
use Rattle.list_facts.proofs.Cases.{either}
use Rattle.list_facts.proofs.Members.{each_weaker}
use Rattle.view_config.specs.Shape.{Dimensions}
use Rattle.lazy_msgs.specs.declared.msg.Msg.TheVariants.{Seal, Sealed, SealedEmpty}
use Rattle.lazy_rules.specs.Rows.{answers, stays}
use Rattle.lazy_rules.specs.SeqRules.{on_seal}
use Rattle.lazy_rules.specs.SeqState.{SeqState}
use Rattle.log_facts.specs.Ghosts.{Ghost}
use Rattle.log_facts.specs.Good.{GoodSeq, Heard, Moment}
use Rattle.log_facts.specs.Growth.{SeqGrows}
use Rattle.log_facts.specs.Parts.{Parts}
use Rattle.log_facts.specs.Says.{SealedEmptySays, SealedSays}
use Rattle.log_facts.specs.facts.OfSeqs.{BatchNoted, FlightFacts, SeqFacts, WaitsFor}
use Rattle.seq_rows.proofs.Lifting.{flight_on, reads_other}
use Rattle.seq_rows.proofs.Stepping.{Keeps, Steps, at_me, keeps_goes_on, keeps_grown, leader_same, member_same, stays_good, steps_good}

-- the replica where it is sealed or not, and has barred so much
abbrev shut_by : SeqState → Bool → ℕ → SeqState
shut_by s sealed barred = record s { sealed = sealed; barred = barred }

module _ (shape : Dimensions) (g : Ghost) (a : Parts) (me : ℕ) (moment : Moment shape g a) where
  abbrev s : SeqState
  s = a.seqs me

  -- neither is spoken of in what it has of itself
  flight_shut : (sealed : Bool) (barred : ℕ) → FlightFacts a.history s → FlightFacts a.history (shut_by s sealed barred)
  flight_shut sealed barred f = record {
    follow = f.follow;
    sorted = f.sorted;
    placed = f.placed;
    waiting = each_weaker (WaitsFor a.history s) (WaitsFor a.history (shut_by s sealed barred)) (λ probe w. record { begun = w.begun; above = w.above; within = w.within }) s.probes f.waiting;
  }

  facts_shut : (sealed : Bool) (barred : ℕ) → SeqFacts shape g.views a.history me (shut_by s sealed barred)
  facts_shut sealed barred =
      let f = moment.agreed.seqs me in
      record {
        known = f.known;
        joined = λ some. let j = f.joined some in record { started = j.started; member = j.member; config = j.config };
        items = f.items;
        based = f.based;
        leads = λ leads. flight_shut sealed barred (f.leads leads);
        unled = f.unled;
        unasked = f.unasked;
        closed = f.closed;
      }

  module _ (sealed : Bool) (barred : ℕ) (grows : SeqGrows s (shut_by s sealed barred)) where
    abbrev t : SeqState
    t = shut_by s sealed barred

    keeps : Keeps shape g a me moment t g.log.probed
    keeps = record { grows = grows; has = λ id live i. i; more = λ one i. i; silent = λ one i. inl i; probed_begun = moment.agreed.among_seqs.probed }

    shut_steps : Steps shape g a me moment t g.log
    shut_steps =
        let grown = keeps_grown shape g a me moment t g.log.probed keeps in
        record {
          grown = grown;
          goes_on = keeps_goes_on shape g a me moment t g.log.probed keeps
              (λ now. let m = member_same shape g a me moment g.log.probed now in record { held = m.held; least = m.least; most = m.most })
              (λ live first. let l = leader_same shape g a me moment g.log.probed live first in record { taken = l.taken; low = l.low; absent = l.absent });
          facts = facts_shut sealed barred;
          noted = each_weaker (BatchNoted g.views (put a.seqs me t) a.shards s) (BatchNoted g.views (put a.seqs me t) a.shards t) (λ batch n. record { placed = n.placed; ordered = n.ordered }) s.flight
              (flight_on shape g a me moment.agreed t g.log grown s s.flight (moment.agreed.among_seqs.noted me));
          reads = λ some leads. let r = reads_other shape g a me moment.agreed t g.log grown me some leads in record { cover = r.cover; waiting = r.waiting; old = r.old };
          probed = moment.agreed.among_seqs.probed;
        }

  module _ (sender view : ℕ) (heard : Heard shape g a sender me (Seal view)) where
    sealed_good : s.view ≡ view → GoodSeq shape g a me (answers (record s { sealed = true }) sender (Sealed view s.bound s.window s.pending))
    sealed_good own =
        let grows : SeqGrows s (record s { sealed = true }) = record {
          view = omega arith;
          barred = omega arith;
          unbarred = λ below. absurd (omega arith);
          bound = λ same. omega arith;
          sealed = λ same already. record { sealed = refl; bound = refl; window = refl; pending = refl };
        } in
        let says : SealedSays g.views (record s { sealed = true }) me view s.bound s.window s.pending = record {
          started = heard.said.started;
          member = heard.said.member;
          own = omega arith;
          has = λ is. record { sealed = refl; bound_is = refl; window_is = refl; items_are = refl };
        } in
        steps_good shape g a me moment (record s { sealed = true }) g.log (shut_steps true s.barred grows) _
        (at_me (λ (t : SeqState). SealedSays g.views t me view s.bound s.window s.pending) a me (record s { sealed = true }) says, tt)

    barred_good : s.view < view → GoodSeq shape g a me (answers (record s { barred = max s.barred view }) sender (SealedEmpty view))
    barred_good below =
        let t : SeqState = record s { barred = max s.barred view } in
        let grows : SeqGrows s (record s { barred = max s.barred view }) = record {
          view = omega arith;
          barred = omega arith;
          unbarred = λ rose. absurd (omega arith);
          bound = λ same. omega arith;
          sealed = λ same already. record { sealed = already; bound = refl; window = refl; pending = refl };
        } in
        let says : SealedEmptySays g.views (record s { barred = max s.barred view }) me view = record {
          started = heard.said.started;
          member = heard.said.member;
          apart = λ is. omega arith;
          barred = λ more. omega arith;
        } in
        steps_good shape g a me moment (record s { barred = max s.barred view }) g.log (shut_steps s.sealed (max s.barred view) grows) _
        (at_me (λ (t : SeqState). SealedEmptySays g.views t me view) a me (record s { barred = max s.barred view }) says, tt)

    pub seal_good : GoodSeq shape g a me (on_seal s sender view)
    seal_good = either (GoodSeq shape g a me) (s.view == view) (answers (record s { sealed = true }) sender (Sealed view s.bound s.window s.pending))
        (if nat_lt s.view view then answers (record s { barred = max s.barred view }) sender (SealedEmpty view) else stays s) (λ e. sealed_good (eqb-true s.view view e))
        (λ e. either (GoodSeq shape g a me) (nat_lt s.view view) (answers (record s { barred = max s.barred view }) sender (SealedEmpty view)) (stays s)
        (λ e. barred_good (ltb-true s.view view e)) (λ e. stays_good shape g a me moment))
