-- A leader keeps a read's probe until all that is pending now is bound, and batches begin for it.
use Rattle.std.proofs.Common.{◌≡◌, ℕ, zero, suc, ◌+◌, ◌<◌, ◌≤◌, List, [], ◌∷◌, ◌++◌, length, take, true, false, inl, refl, sym, ◌∙◌, subst, arith}
use Rattle.std.specs.Prelude.{◌==◌, if◌then◌else◌, map}
use Rattle.std.proofs.lemmas.List.{length-append, length-map}
use Rattle.list_facts.specs.Lists.{Each, In, put}
use Rattle.list_facts.proofs.Cases.{either}
use Rattle.list_facts.proofs.Members.{each_append, each_map, each_weaker}
use Rattle.rec_id.specs.Identity.{Identity}
use Rattle.rec_id.specs.declared.item.Item.{Item}
use Rattle.view_config.specs.Shape.{Dimensions}
use Rattle.lazy_rules.specs.Flight.{Probe, has_later_probe, has_probe_of, with_probe}
use Rattle.lazy_rules.specs.Ids.{ids_of}
use Rattle.lazy_rules.specs.Leading.{forces}
use Rattle.lazy_rules.specs.Rows.{sends_all, stays}
use Rattle.lazy_rules.specs.SeqRules.{waits, with_waiting}
use Rattle.lazy_rules.specs.SeqState.{SeqState}
use Rattle.log_facts.specs.Finality.{BarredOrCovered, line_ids}
use Rattle.log_facts.specs.Ghosts.{Ghost, Views}
use Rattle.log_facts.specs.Good.{Moment}
use Rattle.log_facts.specs.Parts.{Parts}
use Rattle.log_facts.specs.Past.{HasBegun}
use Rattle.log_facts.specs.facts.OfSeqs.{BatchNoted, FlightFacts, LeaderReads, SeqFacts, WaitsFor}
use Rattle.seq_rows.proofs.Lifting.{Grown, cover_on, flight_on, reads_other}
use Rattle.seq_rows.proofs.Longer.{take_whole}
use Rattle.seq_rows.proofs.Stepping.{Keeps, Steps, keeps_goes_on, keeps_grown, leader_same, member_same, steps_good}
use Rattle.seq_rows.proofs.leading.Force.{forces_led}
use Rattle.seq_rows.proofs.leading.Leading.{Leading, reads}
use Rattle.seq_rows.proofs.leading.Led.{Led, led_followed, led_stays}

-- what holds of all probes and of a new one holds of all then
each_probe : (P : Probe → Type 0) (probes : List Probe) (probe : Probe) → Each P probes → P probe → Each P (with_probe probes probe)
each_probe P probes probe each own =
    let placed : (other : Probe) → P other → P (if other.client == probe.client then probe else other) = λ other p. either P (other.client == probe.client) probe other (λ e. own) (λ e. p) in
    either (Each P) (has_probe_of probes probe.client) (map (λ (other : Probe). if other.client == probe.client then probe else other) probes) (probes ++ probe ∷ [])
    (λ e. each_map (λ (other : Probe). if other.client == probe.client then probe else other) P probes (each_weaker P (λ (other : Probe). P (if other.client == probe.client then probe else other)) placed probes each))
    (λ e. each_append P probes (probe ∷ []) each (own, tt))

length_front : {A : Type 0} (n : ℕ) (xs : List A) → length (take n xs) ≤ n
length_front zero xs = omega arith
length_front (suc n) [] = omega arith
length_front (suc n) (x ∷ xs) = let less = length_front n xs in omega arith

module _ (shape : Dimensions) (g : Ghost) (a : Parts) (me : ℕ) (moment : Moment shape g a) (leading : Leading (a.seqs me))
    (client read : ℕ) (some : 1 ≤ length (a.seqs me).pending) (begun : HasBegun a.history client read) (inside : client < shape.clients) where
  abbrev s : SeqState
  s = a.seqs me

  abbrev t : SeqState
  t = with_waiting s client read

  abbrev probe : Probe
  probe = record { client = client; read = read; target = s.bound + length s.pending }

  abbrev v : Views
  v = g.views

  keeps : Keeps shape g a me moment t g.log.probed
  keeps = record {
    grows = record {
      view = omega arith;
      barred = omega arith;
      unbarred = λ below. absurd (omega arith);
      bound = λ same. omega arith;
      sealed = λ same sealed. record { sealed = sealed; bound = refl; window = refl; pending = refl };
    };
    has = λ id live i. i;
    more = λ one i. i;
    silent = λ one i. inl i;
    probed_begun = moment.agreed.among_seqs.probed;
  }

  flight_waiting : FlightFacts a.history s → FlightFacts a.history t
  flight_waiting f = record {
    follow = f.follow;
    sorted = f.sorted;
    placed = f.placed;
    waiting = each_probe (WaitsFor a.history t) s.probes probe (each_weaker (WaitsFor a.history s) (WaitsFor a.history t) (λ other w. record { begun = w.begun; above = w.above; within = w.within }) s.probes f.waiting)
        (record { begun = begun; above = omega arith; within = omega arith });
  }

  facts_waiting : SeqFacts shape v a.history me t
  facts_waiting =
      let f = moment.agreed.seqs me in
      record {
        known = f.known;
        joined = λ some. let j = f.joined some in record { started = j.started; member = j.member; config = j.config };
        items = f.items;
        based = f.based;
        leads = λ leads. flight_waiting (f.leads leads);
        unled = f.unled;
        unasked = λ follows. let wrong : true ≡ false = sym leading.leads ∙ follows in cc;
        closed = f.closed;
      }

  -- its line is no longer than what it waits for
  line_within : length (line_ids g.log.line s) ≤ s.bound + length s.pending
  line_within =
      let one = length-append (take s.bound g.log.line) (ids_of s.pending) in
      let two = length_front s.bound g.log.line in
      let three = length-map s.pending (λ (item : Item). item.id) in
      omega arith

  reads_waiting : Grown g a me t g.log → LeaderReads v g.log a.history (put a.seqs me t) t
  reads_waiting grown =
      let r = reads_other shape g a me moment.agreed t g.log grown me leading.some leading.leads in
      let whole : take (s.bound + length s.pending) (line_ids g.log.line s) ≡ line_ids g.log.line s = take_whole (s.bound + length s.pending) (line_ids g.log.line s) line_within in
      record {
        cover = r.cover;
        waiting = each_probe (λ (other : Probe). BarredOrCovered v g.log.probed a.history (put a.seqs me t) s.view other.client other.read (take other.target (line_ids g.log.line s)) other.target) s.probes probe r.waiting
            (cover_on shape g a me moment.agreed t g.log grown s.view client read begun (line_ids g.log.line s) (take (s.bound + length s.pending) (line_ids g.log.line s)) s.bound (s.bound + length s.pending)
            (λ id i. subst (λ (list : List Identity). In id list) (sym whole) i) (omega arith) ((reads shape g a me moment leading).cover client read begun));
        old = r.old;
      }

  waiting_steps : Steps shape g a me moment t g.log
  waiting_steps =
      let grown : Grown g a me t g.log = keeps_grown shape g a me moment t g.log.probed keeps in
      record {
        grown = grown;
        goes_on = keeps_goes_on shape g a me moment t g.log.probed keeps
            (λ now. let m = member_same shape g a me moment g.log.probed now in record { held = m.held; least = m.least; most = m.most })
            (λ live first. let l = leader_same shape g a me moment g.log.probed live first in record { taken = l.taken; low = l.low; absent = l.absent });
        facts = facts_waiting;
        noted = each_weaker (BatchNoted v (put a.seqs me t) a.shards s) (BatchNoted v (put a.seqs me t) a.shards t) (λ batch n. record { placed = n.placed; ordered = n.ordered }) s.flight
            (flight_on shape g a me moment.agreed t g.log grown s s.flight (moment.agreed.among_seqs.noted me));
        reads = λ some leads. reads_waiting grown;
        probed = moment.agreed.among_seqs.probed;
      }

  waiting_led : Led shape me g a (sends_all t [])
  waiting_led =
      let formed = moment.formed.seqs me in
      record {
        good = steps_good shape g a me moment t g.log waiting_steps [] tt;
        formed = record { shaped = formed.shaped; numbered = formed.numbered; config = formed.config; probes = each_probe (λ (other : Probe). other.client < shape.clients) s.probes probe formed.probes inside };
        leading = record { some = leading.some; unsealed = leading.unsealed; leads = leading.leads };
      }

  pub waits_led : Led shape me g a (waits s client read)
  waits_led = either (Led shape me g a) (has_later_probe s.probes client read) (stays s) (forces t)
      (λ e. led_stays shape me g a moment leading)
      (λ e. led_followed shape me g a moment (sends_all t []) forces waiting_led (λ h b next leads is. forces_led shape me h b next leads))
