-- Tick at a leader: it sends again what isn't answered, batch by batch, and begins the next batch.
use Rattle.std.proofs.Common.{ℕ, ◌+◌, length}
use Rattle.std.specs.Prelude.{flat_map}
use Rattle.list_facts.specs.Lists.{Each}
use Rattle.list_facts.proofs.Cases.{either}
use Rattle.view_config.specs.Shape.{Dimensions}
use Rattle.lazy_msgs.specs.declared.msg.Msg.{Msg}
use Rattle.lazy_rules.specs.Flight.{Batch}
use Rattle.lazy_rules.specs.Leading.{begins, resends}
use Rattle.lazy_rules.specs.Rows.{followed, sends_all, stays}
use Rattle.lazy_rules.specs.SeqRules.{is_leading, on_tick}
use Rattle.lazy_rules.specs.SeqState.{SeqState}
use Rattle.world_facts.proofs.goes.Sends.{each_flat_map}
use Rattle.world_facts.proofs.sizes.Flight.{IsBatch, flight_each}
use Rattle.log_facts.specs.Ghosts.{Ghost}
use Rattle.log_facts.specs.Good.{GoodSeq, Moment}
use Rattle.log_facts.specs.Parts.{Parts}
use Rattle.log_facts.specs.Said.{Said}
use Rattle.log_facts.specs.facts.OfSeqs.{BatchNoted, IsPlacedByAll}
use Rattle.seq_rows.proofs.Stepping.{stays_good}
use Rattle.seq_rows.proofs.leading.Batches.{each_both}
use Rattle.seq_rows.proofs.leading.Batching.{resends_said}
use Rattle.seq_rows.proofs.leading.Begin.{begins_led}
use Rattle.seq_rows.proofs.leading.Leading.{Leading, flying, leading_of, noted}
use Rattle.seq_rows.proofs.leading.Led.{Led, led_followed, led_sends}

module _ (shape : Dimensions) (g : Ghost) (a : Parts) (me : ℕ) (moment : Moment shape g a) where
  abbrev s : SeqState
  s = a.seqs me

  module _ (leading : Leading s) where
    abbrev Among : Batch → Type 0
    Among = IsBatch s.bound (s.bound + length s.pending)

    abbrev Known : Batch → Type 0
    Known b = BatchNoted g.views a.seqs a.shards s b × IsPlacedByAll s b

    abbrev Says : ℕ × Msg → Type 0
    Says send = Said shape g a me send.0 send.1

    again_said : Each Says (flat_map (resends s) s.flight)
    again_said =
        let had = flying shape g a me moment leading in
        let known = each_both (BatchNoted g.views a.seqs a.shards s) (IsPlacedByAll s) s.flight (noted shape g a me moment leading) had.placed in
        let all = each_both Among Known s.flight (flight_each s.bound (s.bound + length s.pending) s.flight had.follow) known in
        each_flat_map Says (resends s) (λ (b : Batch). Among b × Known b) (λ b h. resends_said shape g a me moment leading b h.0 h.1.0 h.1.1) s.flight all

    ticks_led : Led shape me g a (followed (sends_all s (flat_map (resends s) s.flight)) begins)
    ticks_led = led_followed shape me g a moment (sends_all s (flat_map (resends s) s.flight)) begins (led_sends shape me g a moment leading (flat_map (resends s) s.flight) again_said)
        (λ h b then leads is. begins_led shape me h b then leads)

  pub tick_good : GoodSeq shape g a me (on_tick s)
  tick_good = either (GoodSeq shape g a me) (is_leading s s.view) (followed (sends_all s (flat_map (resends s) s.flight)) begins) (stays s)
      (λ leads. (ticks_led (leading_of s s.view leads).0).good)
      (λ other. stays_good shape g a me moment)
