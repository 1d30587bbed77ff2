-- What a leader has once its first batch left the flight: the same line, of which more is bound, and the reads that wait
-- for more.
use Rattle.std.proofs.Common.{◌≡◌, ℕ, ◌+◌, List, ◌∷◌, length, take, drop, true, false, not, inl, inr, sym, ap, ◌∙◌, subst, arith}
use Rattle.std.proofs.lemmas.Bool.{leb-false, not-true}
use Rattle.std.proofs.lemmas.List.{length-drop}
use Rattle.list_facts.specs.Lists.{Each, In}
use Rattle.list_facts.proofs.Members.{each_in, each_weaker, in_each, in_filter}
use Rattle.rec_id.specs.Identity.{Identity}
use Rattle.view_config.specs.Shape.{Dimensions}
use Rattle.lazy_rules.specs.Flight.{Batch, Probe, is_finished, is_ready, waiting_probes}
use Rattle.lazy_rules.specs.Leading.{without_first}
use Rattle.lazy_rules.specs.Roles.{followers_of}
use Rattle.lazy_rules.specs.SeqState.{SeqState}
use Rattle.world_facts.specs.SizesOf.{AreFlying}
use Rattle.world_facts.proofs.goes.Sends.{each_filter}
use Rattle.world_facts.proofs.sizes.Flight.{each_drop}
use Rattle.log_facts.specs.Finality.{BarredOrCovered, line_ids}
use Rattle.log_facts.specs.Ghosts.{Ghost, Log, Views}
use Rattle.log_facts.specs.Good.{Moment}
use Rattle.log_facts.specs.Growth.{SeqGrows}
use Rattle.log_facts.specs.Parts.{Parts}
use Rattle.log_facts.specs.facts.OfLine.{IsWhole}
use Rattle.log_facts.specs.facts.OfSeqs.{BatchNoted, FlightFacts, LeaderReads, SeqFacts, WaitsFor}
use Rattle.seq_rows.proofs.leading.Leading.{Leading, flying, reads}
use Rattle.seq_rows.proofs.leading.OrderedByAll.{fits, follow, line_then, noted_all, placed, sorted, within_closed}

module _ (shape : Dimensions) (me : ℕ) (g : Ghost) (a : Parts) (moment : Moment shape g a) (leading : Leading (a.seqs me)) (batch : Batch) (others : List Batch)
    (is : (a.seqs me).flight ≡ batch ∷ others) (done : is_finished (length (followers_of (a.seqs me).config)) batch ≡ true) where
  abbrev s : SeqState
  s = a.seqs me

  abbrev v : Views
  v = g.views

  abbrev log : Log
  log = g.log

  abbrev bound : ℕ
  bound = s.bound + batch.count

  abbrev t : SeqState
  t = without_first s batch others

  had : FlightFacts a.history s
  had = flying shape g a me moment leading

  same : line_ids log.line t ≡ line_ids log.line s
  same = line_then shape me g a moment leading batch others is done

  grows : SeqGrows s t
  grows = record {
    view = omega arith;
    barred = omega arith;
    unbarred = λ below. absurd (omega arith);
    bound = λ same_view. omega arith;
    sealed = λ same_view sealed. let wrong : true ≡ false = sym sealed ∙ leading.unsealed in absurd cc;
  }

  -- as much is there as before
  left : s.bound + length s.pending ≡ bound + length (drop batch.count s.pending)
  left = let fits = fits shape me g a moment leading batch others is done in let left = length-drop batch.count s.pending in omega arith

  flying_then : FlightFacts a.history t
  flying_then = record {
    follow = subst (λ (n : ℕ). AreFlying bound n others) left (follow shape me g a moment leading batch others is done).4;
    sorted = (sorted shape me g a moment leading batch others is done).1;
    placed = (placed shape me g a moment leading batch others is done).1;
    waiting = in_each (WaitsFor a.history t) (waiting_probes bound s.probes) (λ probe i.
        let kept = in_filter (λ (p : Probe). not (is_ready bound p)) s.probes probe i in
        let w = each_in (WaitsFor a.history s) s.probes had.waiting probe kept.0 in
        let above = leb-false probe.target bound (not-true (is_ready bound probe) kept.1) in
        let within = w.within in
        let left = left in
        record { begun = w.begun; above = above; within = omega arith });
  }

  facts_then : SeqFacts shape v a.history me t
  facts_then =
      let old = moment.agreed.seqs me in
      let based = old.based in
      record {
        known = old.known;
        joined = λ some. let j = old.joined some in record { started = j.started; member = j.member; config = j.config };
        items = each_drop (IsWhole shape a.history) batch.count s.pending old.items;
        based = omega arith;
        leads = λ leads. flying_then;
        unled = λ follows. let wrong : true ≡ false = sym leading.leads ∙ follows in absurd cc;
        unasked = λ follows. let wrong : true ≡ false = sym leading.leads ∙ follows in absurd cc;
        closed = λ leads below. within_closed shape me g a moment leading batch others is done below;
      }

  noted_now : Each (BatchNoted v a.seqs a.shards t) others
  noted_now = each_weaker (BatchNoted v a.seqs a.shards s) (BatchNoted v a.seqs a.shards t) (λ other n. record { placed = n.placed; ordered = n.ordered }) others
      (noted_all shape me g a moment leading batch others is done).1

  -- what a read must see is still there
  more_covered : (client read : ℕ) → BarredOrCovered v log.probed a.history a.seqs s.view client read (line_ids log.line s) s.bound → BarredOrCovered v log.probed a.history a.seqs s.view client read (line_ids log.line t) bound
  more_covered client read (inl barred) = inl barred
  more_covered client read (inr covers) = inr (record {
    ended = λ id e. subst (λ (ids : List Identity). In id ids) (sym same) (covers.ended id e);
    reached = λ reach r. let reached = covers.reached reach r in omega arith;
  })

  reads_now : LeaderReads v log a.history a.seqs t
  reads_now =
      let old = reads shape g a me moment leading in
      record {
        cover = λ client read begun. more_covered client read (old.cover client read begun);
        waiting = subst (λ (ids : List Identity). Each (λ (probe : Probe). BarredOrCovered v log.probed a.history a.seqs s.view probe.client probe.read (take probe.target ids) probe.target) (waiting_probes bound s.probes)) (sym same)
            (each_filter (λ (probe : Probe). BarredOrCovered v log.probed a.history a.seqs s.view probe.client probe.read (take probe.target (line_ids log.line s)) probe.target) (λ (p : Probe). not (is_ready bound p)) s.probes old.waiting);
        old = λ below. ap (take (v.cl s.view)) same ∙ old.old below;
      }

  -- all of it
  pub record IsLeft : Type 0 where
    pub same_line : line_ids log.line t ≡ line_ids log.line s
    pub grown_from : SeqGrows s t
    pub own_flight : FlightFacts a.history t
    pub own_facts : SeqFacts shape v a.history me t
    pub own_notes : Each (BatchNoted v a.seqs a.shards t) others
    pub own_reads : LeaderReads v log a.history a.seqs t

  pub is_left : IsLeft
  is_left = record {
    same_line = same;
    grown_from = grows;
    own_flight = flying_then;
    own_facts = facts_then;
    own_notes = noted_now;
    own_reads = reads_now;
  }
