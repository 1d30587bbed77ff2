-- PASS: the batches that every primary answered for, in turn, are ordered.
use Rattle.std.proofs.Common.{◌≡◌, ℕ, ◌+◌, length, true}
use Rattle.std.specs.Prelude.{flat_map}
use Rattle.list_facts.specs.Lists.{Each}
use Rattle.view_config.specs.Shape.{Dimensions}
use Rattle.lazy_msgs.specs.declared.msg.Msg.{Msg}
use Rattle.lazy_rules.specs.Flight.{Batch, has_all, passed, passing}
use Rattle.lazy_rules.specs.Leading.{order_sends, passes}
use Rattle.lazy_rules.specs.SeqState.{SeqState}
use Rattle.world_facts.proofs.goes.Sends.{each_flat_map}
use Rattle.world_facts.proofs.sizes.Flight.{IsBatch, flight_each, flight_passed}
use Rattle.log_facts.specs.Ghosts.{Ghost, Views}
use Rattle.log_facts.specs.Good.{Moment}
use Rattle.log_facts.specs.Parts.{Parts}
use Rattle.log_facts.specs.Said.{Said}
use Rattle.log_facts.specs.facts.OfSeqs.{BatchNoted, FlightFacts, IsPlacedByAll}
use Rattle.seq_rows.proofs.leading.Batches.{each_both, passed_each, passing_each, sorted_passed}
use Rattle.seq_rows.proofs.leading.Batching.{orders_said}
use Rattle.seq_rows.proofs.leading.Flown.{Flies}
use Rattle.seq_rows.proofs.leading.Leading.{Leading, flying, noted}
use Rattle.seq_rows.proofs.leading.Led.{Led, led_flown}

module _ (shape : Dimensions) (me : ℕ) (g : Ghost) (a : Parts) (moment : Moment shape g a) (leading : Leading (a.seqs me)) where
  abbrev s : SeqState
  s = a.seqs me

  abbrev v : Views
  v = g.views

  abbrev shards : ℕ
  shards = length s.config.shards

  abbrev limit : ℕ
  limit = s.bound + length s.pending

  abbrev Says : ℕ × Msg → Type 0
  Says send = Said shape g a me send.0 send.1

  had : FlightFacts a.history s
  had = flying shape g a me moment leading

  passed_flies : Flies shape g a me moment leading (passed shards s.flight)
  passed_flies = record {
    follow = flight_passed shards s.bound limit s.flight had.follow;
    sorted = sorted_passed shards s.flight had.sorted;
    placed = passed_each (IsPlacedByAll s) (IsPlacedByAll s) shards (λ b h all ordering. all) (λ b h. h) s.flight had.placed;
    noted = passed_each (BatchNoted v a.seqs a.shards s) (BatchNoted v a.seqs a.shards s) shards (λ b h all. record { placed = h.placed; ordered = tt }) (λ b h. h) s.flight (noted shape g a me moment leading);
  }

  -- a batch that passes
  record Passes (batch : Batch) : Type 0 where
    pub among : IsBatch s.bound limit batch
    pub noted : BatchNoted v a.seqs a.shards s batch
    pub all : has_all shards batch.placed ≡ true

  passing_all : Each Passes (passing shards s.flight)
  passing_all = passing_each (λ (b : Batch). IsBatch s.bound limit b × BatchNoted v a.seqs a.shards s b) Passes shards
      (λ b h all. record {
        among = record { least = h.0.least; some = h.0.some; few = h.0.few; end = h.0.end };
        noted = record { placed = h.1.placed; ordered = tt };
        all = all;
      })
      s.flight (each_both (IsBatch s.bound limit) (BatchNoted v a.seqs a.shards s) s.flight (flight_each s.bound limit s.flight had.follow) (noted shape g a me moment leading))

  pub passes_led : Led shape me g a (passes s)
  passes_led = led_flown shape me g a moment leading (passed shards s.flight) passed_flies (flat_map (order_sends s) (passing shards s.flight))
      (each_flat_map Says (order_sends s) Passes (λ batch p. orders_said shape g a me moment leading batch p.among p.noted p.all) (passing shards s.flight) passing_all)
