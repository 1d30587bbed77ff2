-- BEGIN: the next items are a new batch, which all primaries are given.
use Rattle.std.proofs.Common.{◌≡◌, ℕ, ◌+◌, ◌-◌, ◌<◌, [], ◌∷◌, ◌++◌, length, true, false, refl, arith, ◌&&◌}
use Rattle.std.specs.Prelude.{min, nat_lt}
use Rattle.std.proofs.lemmas.Bool.{and_parts, ltb-true}
use Rattle.std.proofs.lemmas.List.{length-drop}
use Rattle.list_facts.proofs.Cases.{either}
use Rattle.list_facts.proofs.Members.{each_append}
use Rattle.view_config.specs.Shape.{Dimensions}
use Rattle.lazy_msgs.specs.declared.limits.TheConstants.{BATCH_LIMIT}
use Rattle.lazy_rules.specs.declared.limits.TheConstants.{FLIGHT_LIMIT}
use Rattle.lazy_rules.specs.Flight.{flight_end}
use Rattle.lazy_rules.specs.Leading.{begins, behind, next_batch, place_sends, with_next}
use Rattle.lazy_rules.specs.Rows.{sends_all, stays}
use Rattle.lazy_rules.specs.SeqState.{SeqState}
use Rattle.world_facts.proofs.sizes.Flight.{IsBatch, flight_ends, flight_snoc}
use Rattle.log_facts.specs.Ghosts.{Ghost, Views}
use Rattle.log_facts.specs.Good.{Moment}
use Rattle.log_facts.specs.Parts.{Parts}
use Rattle.log_facts.specs.facts.OfSeqs.{BatchNoted, FlightFacts, IsPlacedByAll}
use Rattle.seq_rows.proofs.leading.Batches.{sorted_more}
use Rattle.seq_rows.proofs.leading.Batching.{places_said}
use Rattle.seq_rows.proofs.leading.Flown.{Flies}
use Rattle.seq_rows.proofs.leading.Leading.{Leading, flying, noted}
use Rattle.seq_rows.proofs.leading.Led.{Led, led_flown, led_stays}

module _ (shape : Dimensions) (me : ℕ) (g : Ghost) (a : Parts) (moment : Moment shape g a) (leading : Leading (a.seqs me)) where
  abbrev s : SeqState
  s = a.seqs me

  abbrev v : Views
  v = g.views

  had : FlightFacts a.history s
  had = flying shape g a me moment leading

  module _ (there : 0 < length (behind s)) where
    -- where it begins there are items, and it ends among them
    begun_among : IsBatch s.bound (s.bound + length s.pending) (next_batch s)
    begun_among =
        let ends = flight_ends s.bound (s.bound + length s.pending) s.flight (omega arith) had.follow in
        let least = ends.0 in
        let most = ends.1 in
        let left = length-drop (flight_end s.bound s.flight - s.bound) s.pending in
        record { least = least; some = omega arith; few = omega arith; end = omega arith }

    begun_flies : Flies shape g a me moment leading (s.flight ++ next_batch s ∷ [])
    begun_flies =
        let end = begun_among.end in
        record {
          follow = flight_snoc s.bound (s.bound + length s.pending) s.flight (min BATCH_LIMIT (length (behind s))) had.follow begun_among.some begun_among.few end;
          sorted = sorted_more s.flight (next_batch s) refl had.sorted;
          placed = each_append (IsPlacedByAll s) s.flight (next_batch s ∷ []) had.placed (λ ordering. let wrong : false ≡ true = ordering in absurd cc, tt);
          noted = each_append (BatchNoted v a.seqs a.shards s) s.flight (next_batch s ∷ []) (noted shape g a me moment leading) (record { placed = tt; ordered = tt }, tt);
        }

    begun_led : Led shape me g a (sends_all (with_next s) (place_sends s (next_batch s)))
    begun_led = led_flown shape me g a moment leading (s.flight ++ next_batch s ∷ []) begun_flies (place_sends s (next_batch s)) (places_said shape g a me moment leading (next_batch s) begun_among)

  pub begins_led : Led shape me g a (begins s)
  begins_led = either (Led shape me g a) (nat_lt (length s.flight) FLIGHT_LIMIT && nat_lt 0 (length (behind s))) (sends_all (with_next s) (place_sends s (next_batch s))) (stays s)
      (λ room. begun_led (ltb-true 0 (length (behind s)) (and_parts (nat_lt (length s.flight) FLIGHT_LIMIT) (nat_lt 0 (length (behind s))) room).1))
      (λ full. led_stays shape me g a moment leading)
