-- An answer is noted at the batch that ends where it says: that of a shard's primary, and that of a follower.
use Rattle.std.proofs.Common.{◌≡◌, ℕ, ◌+◌, List, [], length, Some, slice_get, true, not, sym, ap, ◌∙◌, subst}
use Rattle.std.specs.Prelude.{◌==◌, get_or}
use Rattle.std.proofs.lemmas.Bool.{and_parts, eqb-true}
use Rattle.std.proofs.lemmas.List.Quantifiers.{position-Some}
use Rattle.std.proofs.lemmas.Option.{get_or_from_slice_get, unwrap_or-slice_get}
use Rattle.list_facts.specs.Lists.{In}
use Rattle.list_facts.proofs.Cases.{either}
use Rattle.list_facts.proofs.Members.{each_map, each_weaker}
use Rattle.view_config.specs.Shape.{Dimensions}
use Rattle.view_config.specs.declared.config.Config.{Config}
use Rattle.lazy_rules.specs.Flight.{Batch, answered_by, batch_end, is_ordering_to, is_placing_to, order_noted, place_noted, with_order, with_place}
use Rattle.lazy_rules.specs.Roles.{follower_of, followers_of, is_first, replicas_at, shard_led_by}
use Rattle.lazy_rules.specs.Rows.{stays}
use Rattle.lazy_rules.specs.SeqState.{SeqState}
use Rattle.world_facts.proofs.sizes.Flight.{flight_mapped, order_counts, order_starts, place_counts, place_starts}
use Rattle.log_facts.specs.Finality.{AllSettledIn}
use Rattle.log_facts.specs.Ghosts.{Ghost, Views}
use Rattle.log_facts.specs.Good.{Moment}
use Rattle.log_facts.specs.Parts.{Parts, home_of}
use Rattle.log_facts.specs.Says.{OrderedSays, PlacedSays}
use Rattle.log_facts.specs.facts.OfSeqs.{BatchNoted, FlightFacts, IsPlacedByAll}
use Rattle.seq_rows.proofs.leading.Batches.{answered_each, order_stays, place_stays, sorted_mapped}
use Rattle.seq_rows.proofs.leading.Flown.{Flies}
use Rattle.seq_rows.proofs.leading.Leading.{Leading, first_member, flying, joined, noted}
use Rattle.seq_rows.proofs.leading.Led.{Led, led_flown}

-- the follower at this place
follower_at : (config : Config) (sender i node : ℕ) → follower_of config sender ≡ Some i → slice_get (followers_of config) i ≡ Some node → node ≡ sender
follower_at config sender i node found there =
    let k = position-Some (λ (other : ℕ). other == sender) (followers_of config) i 0 found in
    let at : get_or (followers_of config) i 0 ≡ node = get_or_from_slice_get (followers_of config) i node 0 there in
    sym at ∙ eqb-true (get_or (followers_of config) i 0) sender k.1

-- the first of this shard
shard_first : (config : Config) (sender shard : ℕ) → shard_led_by config sender ≡ Some shard → is_first (replicas_at config shard) sender ≡ true
shard_first config sender shard found =
    let k = position-Some (λ (nodes : List ℕ). is_first nodes sender) config.shards shard [] found in
    ap (λ (nodes : List ℕ). is_first nodes sender) (unwrap_or-slice_get config.shards shard []) ∙ k.1

module _ (shape : Dimensions) (me : ℕ) (g : Ghost) (a : Parts) (moment : Moment shape g a) (leading : Leading (a.seqs me)) where
  abbrev s : SeqState
  s = a.seqs me

  abbrev v : Views
  v = g.views

  had : FlightFacts a.history s
  had = flying shape g a me moment leading

  -- who leads a shard in the leader's configuration stores it
  home_led : (sender shard : ℕ) → shard_led_by s.config sender ≡ Some shard → home_of sender ≡ shard
  home_led sender shard found =
      let is = (joined shape g a me moment leading).config in
      let among = first_member (replicas_at s.config shard) sender (shard_first s.config sender shard found) in
      (moment.agreed.views.configs.lists s.view).homes shard sender (subst (λ (config : Config). In sender (replicas_at config shard)) is among)

  -- ---- the answer of a primary
  module _ (sender upto shard : ℕ) (found : shard_led_by s.config sender ≡ Some shard) (says : PlacedSays v a.shards sender s.view upto) where
    placed_still : (b : Batch) → IsPlacedByAll s b → IsPlacedByAll s (place_noted upto shard b)
    placed_still b h = either (IsPlacedByAll s) (is_placing_to upto b) (record b { placed = answered_by b.placed shard }) b
        (λ placing ordering.
        let parts = and_parts (not b.ordering) (batch_end b == upto) placing in
        let wrong : not true ≡ true = ap not (sym ordering) ∙ parts.0 in
        absurd cc)
        (λ other. h)

    place_told : (b : Batch) → BatchNoted v a.seqs a.shards s b → BatchNoted v a.seqs a.shards s (place_noted upto shard b)
    place_told b h = either (BatchNoted v a.seqs a.shards s) (is_placing_to upto b) (record b { placed = answered_by b.placed shard }) b
        (λ placing.
        let ends : batch_end b ≡ upto = eqb-true (batch_end b) upto (and_parts (not b.ordering) (batch_end b == upto) placing).1 in
        let settled : AllSettledIn v a.shards s.view shard upto = subst (λ (i : ℕ). AllSettledIn v a.shards s.view i upto) (home_led sender shard found) says.settled in
        record {
          placed = answered_each (λ (i : ℕ). AllSettledIn v a.shards s.view i (batch_end b)) b.placed shard (subst (AllSettledIn v a.shards s.view shard) (sym ends) settled) h.placed;
          ordered = h.ordered;
        })
        (λ other. h)

    place_flies : Flies shape g a me moment leading (with_place s.flight shard upto)
    place_flies = record {
      follow = flight_mapped (place_noted upto shard) (place_starts upto shard) (place_counts upto shard) s.bound (s.bound + length s.pending) s.flight had.follow;
      sorted = sorted_mapped (place_noted upto shard) (place_stays upto shard) s.flight had.sorted;
      placed = each_map (place_noted upto shard) (IsPlacedByAll s) s.flight (each_weaker (IsPlacedByAll s) (λ (b : Batch). IsPlacedByAll s (place_noted upto shard b)) placed_still s.flight had.placed);
      noted = each_map (place_noted upto shard) (BatchNoted v a.seqs a.shards s) s.flight
          (each_weaker (BatchNoted v a.seqs a.shards s) (λ (b : Batch). BatchNoted v a.seqs a.shards s (place_noted upto shard b)) place_told s.flight (noted shape g a me moment leading));
    }

    pub place_led : Led shape me g a (stays (record s { flight = with_place s.flight shard upto }))
    place_led = led_flown shape me g a moment leading (with_place s.flight shard upto) place_flies [] tt

  -- ---- the answer of a follower
  module _ (sender upto follower : ℕ) (found : follower_of s.config sender ≡ Some follower) (says : OrderedSays v (a.seqs sender) sender s.view upto) where
    abbrev Told : ℕ → ℕ → Type 0
    Told end i = (node : ℕ) → slice_get (followers_of s.config) i ≡ Some node → OrderedSays v (a.seqs node) node s.view end

    ordered_still : (b : Batch) → IsPlacedByAll s b → IsPlacedByAll s (order_noted upto follower b)
    ordered_still b h = either (IsPlacedByAll s) (is_ordering_to upto b) (record b { ordered = answered_by b.ordered follower }) b (λ ordering. h) (λ other. h)

    told_by : Told upto follower
    told_by node there = subst (λ (n : ℕ). OrderedSays v (a.seqs n) n s.view upto) (sym (follower_at s.config sender follower node found there)) says

    order_told : (b : Batch) → BatchNoted v a.seqs a.shards s b → BatchNoted v a.seqs a.shards s (order_noted upto follower b)
    order_told b h = either (BatchNoted v a.seqs a.shards s) (is_ordering_to upto b) (record b { ordered = answered_by b.ordered follower }) b
        (λ ordering.
        let ends : batch_end b ≡ upto = eqb-true (batch_end b) upto (and_parts b.ordering (batch_end b == upto) ordering).1 in
        record {
          placed = h.placed;
          ordered = answered_each (Told (batch_end b)) b.ordered follower (subst (λ (end : ℕ). Told end follower) (sym ends) told_by) h.ordered;
        })
        (λ other. h)

    order_flies : Flies shape g a me moment leading (with_order s.flight follower upto)
    order_flies = record {
      follow = flight_mapped (order_noted upto follower) (order_starts upto follower) (order_counts upto follower) s.bound (s.bound + length s.pending) s.flight had.follow;
      sorted = sorted_mapped (order_noted upto follower) (order_stays upto follower) s.flight had.sorted;
      placed = each_map (order_noted upto follower) (IsPlacedByAll s) s.flight (each_weaker (IsPlacedByAll s) (λ (b : Batch). IsPlacedByAll s (order_noted upto follower b)) ordered_still s.flight had.placed);
      noted = each_map (order_noted upto follower) (BatchNoted v a.seqs a.shards s) s.flight
          (each_weaker (BatchNoted v a.seqs a.shards s) (λ (b : Batch). BatchNoted v a.seqs a.shards s (order_noted upto follower b)) order_told s.flight (noted shape g a me moment leading));
    }

    pub order_led : Led shape me g a (stays (record s { flight = with_order s.flight follower upto }))
    order_led = led_flown shape me g a moment leading (with_order s.flight follower upto) order_flies [] tt
