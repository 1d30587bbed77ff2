-- A step of a leader after which only its flight is another.
use Rattle.std.proofs.Common.{◌≡◌, ℕ, ◌+◌, List, length, true, false, inl, refl, sym, ◌∙◌, arith}
use Rattle.list_facts.specs.Lists.{Each}
use Rattle.list_facts.proofs.Members.{each_weaker}
use Rattle.view_config.specs.Shape.{Dimensions}
use Rattle.lazy_msgs.specs.declared.msg.Msg.{Msg}
use Rattle.lazy_rules.specs.Flight.{Batch}
use Rattle.lazy_rules.specs.Rows.{sends_all}
use Rattle.lazy_rules.specs.SeqState.{SeqState}
use Rattle.world_facts.specs.SizesOf.{AreFlying}
use Rattle.log_facts.specs.Ghosts.{Ghost, Log, Views}
use Rattle.log_facts.specs.Good.{GoodSeq, Moment}
use Rattle.log_facts.specs.Growth.{SeqGrows}
use Rattle.log_facts.specs.Parts.{Parts, with_seq}
use Rattle.log_facts.specs.Said.{Said}
use Rattle.log_facts.specs.facts.OfSeqs.{BatchNoted, FlightFacts, IsPlacedByAll, LeaderReads, OrderingFirst, SeqFacts, WaitsFor}
use Rattle.seq_rows.proofs.Lifting.{Grown, bound_short, closed_short, flight_on, lift, reads_on}
use Rattle.seq_rows.proofs.Stepping.{Keeps, Steps, keeps_goes_on, keeps_grown, leader_same, member_same, steps_good}
use Rattle.seq_rows.proofs.leading.Leading.{Leading, flying, reads}

module _ (shape : Dimensions) (g : Ghost) (a : Parts) (me : ℕ) (moment : Moment shape g a) (leading : Leading (a.seqs me)) where
  abbrev s : SeqState
  s = a.seqs me

  abbrev v : Views
  v = g.views

  abbrev log : Log
  log = g.log

  -- what is to be shown of the flight
  pub record Flies (flight : List Batch) : Type 0 where
    pub follow : AreFlying s.bound (s.bound + length s.pending) flight
    pub sorted : OrderingFirst flight
    pub placed : Each (IsPlacedByAll s) flight
    pub noted : Each (BatchNoted v a.seqs a.shards s) flight

  module _ (flight : List Batch) (flies : Flies flight) where
    abbrev t : SeqState
    t = record s { flight = flight }

    grows : SeqGrows s t
    grows = record {
      view = omega arith;
      barred = omega arith;
      unbarred = λ below. absurd (omega arith);
      bound = λ same. omega arith;
      sealed = λ same sealed. record { sealed = sealed; bound = refl; window = refl; pending = refl };
    }

    keeps : Keeps shape g a me moment t log.probed
    keeps = record { grows = grows; has = λ id live i. i; more = λ one i. i; silent = λ one i. inl i; probed_begun = moment.agreed.among_seqs.probed }

    grown : Grown g a me t log
    grown = keeps_grown shape g a me moment t log.probed keeps

    flying_then : FlightFacts a.history t
    flying_then =
        let old = flying shape g a me moment leading in
        record {
          follow = flies.follow;
          sorted = flies.sorted;
          placed = flies.placed;
          waiting = each_weaker (WaitsFor a.history s) (WaitsFor a.history t) (λ probe w. record { begun = w.begun; above = w.above; within = w.within }) s.probes old.waiting;
        }

    facts_then : SeqFacts shape v a.history me t
    facts_then =
        let old = moment.agreed.seqs me in
        record {
          known = old.known;
          joined = λ some. let j = old.joined some in record { started = j.started; member = j.member; config = j.config };
          items = old.items;
          based = old.based;
          leads = λ leads. flying_then;
          unled = λ follows. let wrong : true ≡ false = sym leading.leads ∙ follows in absurd cc;
          unasked = old.unasked;
          closed = old.closed;
        }

    noted_now : Each (BatchNoted v a.seqs a.shards t) flight
    noted_now = each_weaker (BatchNoted v a.seqs a.shards s) (BatchNoted v a.seqs a.shards t) (λ batch n. record { placed = n.placed; ordered = n.ordered }) flight flies.noted

    reads_now : LeaderReads v log a.history a.seqs t
    reads_now = let old = reads shape g a me moment leading in record { cover = old.cover; waiting = old.waiting; old = old.old }

    steps : Steps shape g a me moment t log
    steps = record {
      grown = grown;
      goes_on = keeps_goes_on shape g a me moment t log.probed keeps
          (λ now. let m = member_same shape g a me moment log.probed now in record { held = m.held; least = m.least; most = m.most })
          (λ live first. let l = leader_same shape g a me moment log.probed live first in record { taken = l.taken; low = l.low; absent = l.absent });
      facts = facts_then;
      noted = flight_on shape g a me moment.agreed t log grown t flight noted_now;
      reads = λ some leads. reads_on shape g a me moment.agreed t log grown t flying_then reads_now (bound_short shape g a me moment.agreed t log grown me leading.leads) (closed_short shape g a me moment.agreed t log grown s.view);
      probed = moment.agreed.among_seqs.probed;
    }

    -- what it sends is said as soon as it was before
    pub flown_good : (sends : List (ℕ × Msg)) → Each (λ (send : ℕ × Msg). Said shape g a me send.0 send.1) sends → GoodSeq shape g a me (sends_all t sends)
    flown_good sends said = steps_good shape g a me moment t log steps sends
        (each_weaker (λ (send : ℕ × Msg). Said shape g a me send.0 send.1) (λ (send : ℕ × Msg). Said shape g (with_seq a me t) me send.0 send.1)
        (λ send. lift shape g a me moment.agreed t log grown me send.0 send.1) sends said)
