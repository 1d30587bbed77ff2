-- The sizes of what a leader has and sends as batches go on their way.
use Rattle.world_facts.specs.Sizes.{Sized, IsPending, IsOwn, line_limit}
use Rattle.lazy_msgs.specs.declared.msg.Msg.TheVariants.{Place, Order, Stable, TailReady}
use Rattle.lazy_rules.specs.Flight.{Batch, Probe, answered_by, flight_end, has_all, is_finished, is_ordering_to, is_placing_to, is_ready, lacks_order, lacks_place, new_batch, now_ordering, order_noted, place_noted, ready_probes, waits_above, passed, passing}
use Rattle.world_facts.specs.SizesOf.{AreFlying, IsWaiting, LeaderSized, SeqSized}
use Rattle.world_facts.proofs.sizes.Sends.{AreSized, numbered_all, to_all, two_lists}
use Rattle.lazy_msgs.specs.declared.limits.TheConstants.{BATCH_LIMIT}
use Rattle.view_config.specs.Shape.{Dimensions}
use Rattle.list_facts.specs.Lists.{Each}
use Rattle.lazy_rules.specs.declared.limits.TheConstants.{FLIGHT_LIMIT, POSITION_LIMIT}
use Rattle.lazy_msgs.specs.FrameLimits.{IsCounted}
use Rattle.rec_id.specs.declared.item.Item.{Item}
use Rattle.world_facts.proofs.Claims.{Keeps}
use Rattle.lazy_msgs.specs.declared.msg.Msg.{Msg}
use Rattle.lazy_msgs.specs.Step.{Row}
use Rattle.lazy_rules.specs.SeqState.{SeqState}
use Rattle.std.proofs.lemmas.Bool.{and_parts, ltb-true}
use Rattle.world_facts.proofs.goes.Sends.{each_filter, each_flat_map}
use Rattle.list_facts.proofs.Members.{each_map, each_weaker}
use Rattle.world_facts.proofs.goes.WithoutNamed.{each_take}
use Rattle.lazy_rules.specs.Leading.{finishes_from, items_in, next_batch, order_sends, order_to, place_sends, place_to, ready_sends, stable_sends, with_next, without_first, begins, behind, finishes, finishing, forces, forcing, leaves, passes, resends}
use Rattle.lazy_rules.specs.Roles.{first_of, followers_of, replicas_of}
use Rattle.std.specs.List.{flat_map}
use Rattle.lazy_rules.specs.Ids.{ids_of}
use Rattle.lazy_rules.specs.SeqRules.{is_leader}
use Rattle.lazy_rules.specs.Items.{items_for}
use Rattle.std.proofs.lemmas.List.{length-drop, length-map, length-take-le}
use Rattle.world_facts.proofs.sizes.Control.{length-items_for, handed}
use Rattle.std.specs.Prelude.{nat_lt, min, ◌&&◌, if◌then◌else◌}
use Rattle.lazy_rules.specs.Rows.{sends_all, to_each, followed, stays}
use Rattle.std.proofs.Common.{ap, arith, drop, length, map, not, refl, subst, sym, ◌≡◌, ◌+◌, ◌≤◌, ◌++◌, ◌∷◌, ◌-◌, ◌∙◌, [], true, zero, suc, ℕ, List, length-append}
use Rattle.list_facts.proofs.Cases.{either}

-- a batch is among what isn't bound
pub record IsBatch (from limit : ℕ) (batch : Batch) : Type 0 where
  pub least : from ≤ batch.from
  pub some : 1 ≤ batch.count
  pub few : batch.count ≤ BATCH_LIMIT
  pub end : batch.from + batch.count ≤ limit

-- ---- flights
pub flight_each : (from limit : ℕ) (flight : List Batch) → AreFlying from limit flight → Each (IsBatch from limit) flight
flight_each from limit [] h = tt
flight_each from limit (batch ∷ others) h =
    let first = h.0 in
    let end = h.3 in
    let later = flight_each (from + batch.count) limit others h.4 in (
      record { least = omega arith; some = h.1; few = h.2; end = omega arith },
      each_weaker (IsBatch (from + batch.count) limit) (IsBatch from limit) (λ b k. let least = k.least in record { least = omega arith; some = k.some; few = k.few; end = k.end }) others later,
    )

pub flight_more : (from limit more : ℕ) → limit ≤ more → (flight : List Batch) → AreFlying from limit flight → AreFlying from more flight
flight_more from limit more le [] h = tt
flight_more from limit more le (batch ∷ others) h = let end = h.3 in (h.0, h.1, h.2, omega arith, flight_more (from + batch.count) limit more le others h.4)

pub flight_ends : (from limit : ℕ) (flight : List Batch) → from ≤ limit → AreFlying from limit flight → (from ≤ flight_end from flight) × (flight_end from flight ≤ limit)
flight_ends from limit [] le h = (omega arith, le)
flight_ends from limit (batch ∷ others) le h =
    let first = h.0 in
    let rest = flight_ends (from + batch.count) limit others h.3 h.4 in
    let same : flight_end (batch.from + batch.count) others ≡ flight_end (from + batch.count) others = ap (λ (n : ℕ). flight_end (n + batch.count) others) first in
    let least = rest.0 in
    let most = rest.1 in
    (omega arith, omega arith)

pub flight_snoc : (from limit : ℕ) (flight : List Batch) (count : ℕ) → AreFlying from limit flight → 1 ≤ count → count ≤ BATCH_LIMIT → flight_end from flight + count ≤ limit
    → AreFlying from limit (flight ++ new_batch (flight_end from flight) count ∷ [])
flight_snoc from limit [] count h some few end = (refl, some, few, end, tt)
flight_snoc from limit (batch ∷ others) count h some few end =
    let same : flight_end (batch.from + batch.count) others ≡ flight_end (from + batch.count) others = ap (λ (n : ℕ). flight_end (n + batch.count) others) h.0 in
    let rest = flight_snoc (from + batch.count) limit others count h.4 some few (omega arith) in
    (h.0, h.1, h.2, h.3, subst (λ (n : ℕ). AreFlying (from + batch.count) limit (others ++ new_batch n count ∷ [])) (sym same) rest)

-- answers that are noted move no batch
pub flight_mapped : (note : Batch → Batch) → ((b : Batch) → (note b).from ≡ b.from) → ((b : Batch) → (note b).count ≡ b.count) → (from limit : ℕ) (flight : List Batch) → AreFlying from limit flight → AreFlying from limit (map note flight)
flight_mapped note starts counts from limit [] h = tt
flight_mapped note starts counts from limit (batch ∷ others) h =
    let same = counts batch in
    let some = h.1 in
    let few = h.2 in
    let end = h.3 in
    let rest = flight_mapped note starts counts (from + batch.count) limit others h.4 in
    (starts batch ∙ h.0, omega arith, omega arith, omega arith, subst (λ (n : ℕ). AreFlying (from + n) limit (map note others)) (sym same) rest)

pub place_starts : (upto shard : ℕ) (b : Batch) → (place_noted upto shard b).from ≡ b.from
place_starts upto shard b = either (λ (x : Batch). x.from ≡ b.from) (is_placing_to upto b) (record b { placed = answered_by b.placed shard }) b (λ h. refl) (λ h. refl)

pub place_counts : (upto shard : ℕ) (b : Batch) → (place_noted upto shard b).count ≡ b.count
place_counts upto shard b = either (λ (x : Batch). x.count ≡ b.count) (is_placing_to upto b) (record b { placed = answered_by b.placed shard }) b (λ h. refl) (λ h. refl)

pub order_starts : (upto follower : ℕ) (b : Batch) → (order_noted upto follower b).from ≡ b.from
order_starts upto follower b = either (λ (x : Batch). x.from ≡ b.from) (is_ordering_to upto b) (record b { ordered = answered_by b.ordered follower }) b (λ h. refl) (λ h. refl)

pub order_counts : (upto follower : ℕ) (b : Batch) → (order_noted upto follower b).count ≡ b.count
order_counts upto follower b = either (λ (x : Batch). x.count ≡ b.count) (is_ordering_to upto b) (record b { ordered = answered_by b.ordered follower }) b (λ h. refl) (λ h. refl)

pub flight_passed : (shards from limit : ℕ) (flight : List Batch) → AreFlying from limit flight → AreFlying from limit (passed shards flight)
flight_passed shards from limit [] h = tt
flight_passed shards from limit (batch ∷ others) h =
    let rest = flight_passed shards (from + batch.count) limit others h.4 in
    either (AreFlying from limit) batch.ordering (batch ∷ passed shards others) (if has_all shards batch.placed then now_ordering batch ∷ passed shards others else batch ∷ others)
    (λ k. (h.0, h.1, h.2, h.3, rest))
    (λ k. either (AreFlying from limit) (has_all shards batch.placed) (now_ordering batch ∷ passed shards others) (batch ∷ others) (λ m. (h.0, h.1, h.2, h.3, rest)) (λ m. h))

pub passed_few : (shards : ℕ) (flight : List Batch) → length (passed shards flight) ≡ length flight
passed_few shards [] = refl
passed_few shards (batch ∷ others) =
    let rest = passed_few shards others in
    either (λ (xs : List Batch). length xs ≡ suc (length others)) batch.ordering (batch ∷ passed shards others) (if has_all shards batch.placed then now_ordering batch ∷ passed shards others else batch ∷ others)
    (λ k. ap suc rest)
    (λ k. either (λ (xs : List Batch). length xs ≡ suc (length others)) (has_all shards batch.placed) (now_ordering batch ∷ passed shards others) (batch ∷ others) (λ m. ap suc rest) (λ m. refl))

pub passing_each : (P : Batch → Type 0) → ((b : Batch) → P b → P (now_ordering b)) → (shards : ℕ) (flight : List Batch) → Each P flight → Each P (passing shards flight)
passing_each P f shards [] h = tt
passing_each P f shards (batch ∷ others) h =
    let rest = passing_each P f shards others h.1 in
    either (Each P) batch.ordering (passing shards others) (if has_all shards batch.placed then now_ordering batch ∷ passing shards others else [])
    (λ k. rest)
    (λ k. either (Each P) (has_all shards batch.placed) (now_ordering batch ∷ passing shards others) [] (λ m. (f batch h.0, rest)) (λ m. tt))

-- ---- what a leader sends
pub each_drop : {A : Type 0} (P : A → Type 0) (n : ℕ) (xs : List A) → Each P xs → Each P (drop n xs)
each_drop P zero xs h = h
each_drop P (suc n) [] h = tt
each_drop P (suc n) (x ∷ xs) h = each_drop P n xs h.1

module _ (shape : Dimensions) where
  abbrev pub SizedSeq : Row SeqState → Type 0
  SizedSeq = Keeps (SeqSized shape) (λ (to : ℕ) (msg : Msg). Sized shape msg)

  -- a replica that leads, in a view that started
  pub record Leads (s : SeqState) : Type 0 where
    pub shaped : s.shape ≡ shape
    pub view : 1 ≤ s.view
    pub sized : SeqSized shape s
    pub leads : is_leader s ≡ true
    pub leader : LeaderSized s

  pub own_ids : (items : List Item) → Each (IsPending shape) items → Each (IsOwn shape) (ids_of items)
  own_ids items h = each_map (λ (item : Item). item.id) (IsOwn shape) items (each_weaker (IsPending shape) (λ (item : Item). IsOwn shape item.id) (λ item k. k.id) items h)

  module _ (s : SeqState) (own : Leads s) where
    abbrev limit : ℕ
    limit = s.bound + length s.pending

    view_counted : IsCounted s.view
    view_counted = record { least = own.view; word = own.sized.view }

    batches : Each (IsBatch s.bound limit) s.flight
    batches = flight_each s.bound limit s.flight own.leader.flight

    module _ (batch : Batch) (h : IsBatch s.bound limit batch) where
      taken_items : Each (IsPending shape) (items_in s batch)
      taken_items = each_take (IsPending shape) batch.count (drop (batch.from - s.bound) s.pending) (each_drop (IsPending shape) (batch.from - s.bound) s.pending own.sized.pending)

      taken_count : length (items_in s batch) ≡ batch.count
      taken_count =
          let least = h.least in
          let end = h.end in
          let left = length-drop (batch.from - s.bound) s.pending in
          length-take-le batch.count (drop (batch.from - s.bound) s.pending) (omega arith)

      within : batch.from + batch.count ≤ POSITION_LIMIT
      within =
          let least = h.least in
          let end = h.end in
          let some = h.some in
          let room = own.leader.room (omega arith) in
          omega arith

      place_says : (shard : ℕ) → Sized shape (Place s.view batch.from (items_for s.shape shard batch.from (items_in s batch)))
      place_says shard =
          subst (λ (d : Dimensions). Sized shape (Place s.view batch.from (items_for d shard batch.from (items_in s batch)))) (sym own.shaped)
          (let long = length-items_for shape shard batch.from (items_in s batch) in
          let count = taken_count in
          let some = h.some in
          let few = h.few in
          let end = within in (
            view_counted,
            record {
              some = omega arith;
              stretch = record { few = omega arith; end = omega arith };
              shard = shard;
              each = handed shape shard batch.from (items_in s batch) taken_items;
            },
          ))

      order_says : Sized shape (Order s.view batch.from (ids_of (items_in s batch)))
      order_says =
          let long = length-map (items_in s batch) (λ (item : Item). item.id) in
          let count = taken_count in
          let some = h.some in
          let few = h.few in
          let end = within in
          (view_counted, record { some = omega arith; stretch = record { few = omega arith; end = omega arith }; each = own_ids (items_in s batch) taken_items })

      places_to : (shard : ℕ) (nodes : List ℕ) → AreSized shape (place_to s batch shard nodes)
      places_to shard nodes =
          either (AreSized shape) (lacks_place batch shard) (to_each (first_of nodes) (Place s.view batch.from (items_for s.shape shard batch.from (items_in s batch)))) []
          (λ k. to_all shape (first_of nodes) (Place s.view batch.from (items_for s.shape shard batch.from (items_in s batch))) (place_says shard)) (λ k. tt)

      pub places_sized : AreSized shape (place_sends s batch)
      places_sized = numbered_all shape (place_to s batch) places_to 0 s.config.shards

      orders_to : (i follower : ℕ) → AreSized shape (order_to s batch i follower)
      orders_to i follower = either (AreSized shape) (lacks_order batch i) ((follower, Order s.view batch.from (ids_of (items_in s batch))) ∷ []) [] (λ k. (order_says, tt)) (λ k. tt)

      pub orders_sized : AreSized shape (order_sends s batch)
      orders_sized = numbered_all shape (order_to s batch) orders_to 0 (followers_of s.config)

      pub resent_sized : AreSized shape (resends s batch)
      resent_sized = either (AreSized shape) batch.ordering (order_sends s batch) (place_sends s batch) (λ k. orders_sized) (λ k. places_sized)

    pub resent_all_sized : AreSized shape (flat_map (resends s) s.flight)
    resent_all_sized = each_flat_map (λ (send : ℕ × Msg). Sized shape send.1) (resends s) (IsBatch s.bound limit) resent_sized s.flight batches

    pub stable_sized : (bound : ℕ) → bound ≤ line_limit → AreSized shape (stable_sends s bound)
    stable_sized bound h = to_all shape (replicas_of s.config) (Stable s.view bound) (view_counted, h)

    pub ready_sized : (probes : List Probe) → Each IsWaiting probes → AreSized shape (ready_sends s probes)
    ready_sized probes h =
        each_map (λ (probe : Probe). (probe.client, TailReady s.view probe.read probe.target)) (λ (send : ℕ × Msg). Sized shape send.1) probes
        (each_weaker IsWaiting (λ (probe : Probe). Sized shape (TailReady s.view probe.read probe.target)) (λ probe k. (view_counted, k.read, k.target)) probes h)

  -- ---- rows, each of which leaves a leader
  pub record Led (row : Row SeqState) : Type 0 where
    pub after : Leads row.next
    pub sends : AreSized shape row.sends

  pub led : (row : Row SeqState) → Led row → SizedSeq row
  led row h = record { next = h.after.sized; sends = h.sends }

  pub led_stays : (s : SeqState) → Leads s → Led (stays s)
  led_stays s own = record { after = own; sends = tt }

  pub led_followed : (first : Row SeqState) (more : SeqState → Row SeqState) → Led first → Led (more first.next) → Led (followed first more)
  led_followed first more h k = record { after = k.after; sends = two_lists shape first.sends (more first.next).sends h.sends k.sends }

  -- a leader whose flight alone is another
  pub with_flight : (s : SeqState) → Leads s → (flight : List Batch) → AreFlying s.bound (s.bound + length s.pending) flight → length flight ≤ FLIGHT_LIMIT → Leads (record s { flight = flight })
  with_flight s own flight h few =
      let leader : LeaderSized (record s { flight = flight }) = record { flight = h; few = few; room = own.leader.room } in
      record {
        shaped = own.shaped;
        view = own.view;
        leads = own.leads;
        leader = leader;
        sized = record {
          view = own.sized.view;
          few = own.sized.few;
          bound = own.sized.bound;
          room = own.sized.room;
          pending = own.sized.pending;
          window = own.sized.window;
          probes = own.sized.probes;
          leads = λ k. leader;
        };
      }

  pub begins_led : (s : SeqState) → Leads s → Led (begins s)
  begins_led s own =
      either Led (nat_lt (length s.flight) FLIGHT_LIMIT && nat_lt 0 (length (behind s))) (sends_all (with_next s) (place_sends s (next_batch s))) (stays s)
      (λ h.
      let both = and_parts (nat_lt (length s.flight) FLIGHT_LIMIT) (nat_lt 0 (length (behind s))) h in
      let few = ltb-true (length s.flight) FLIGHT_LIMIT both.0 in
      let some = ltb-true 0 (length (behind s)) both.1 in
      let ends = flight_ends s.bound (s.bound + length s.pending) s.flight (omega arith) own.leader.flight in
      let least = ends.0 in
      let most = ends.1 in
      let left = length-drop (flight_end s.bound s.flight - s.bound) s.pending in
      let long = length-append s.flight (next_batch s ∷ []) in
      let flying = flight_snoc s.bound (s.bound + length s.pending) s.flight (min BATCH_LIMIT (length (behind s))) own.leader.flight (omega arith) (omega arith) (omega arith) in
      record {
        after = with_flight s own (s.flight ++ next_batch s ∷ []) flying (omega arith);
        sends = places_sized s own (next_batch s) (record { least = least; some = omega arith; few = omega arith; end = omega arith });
      })
      (λ h. led_stays s own)

  pub passes_led : (s : SeqState) → Leads s → Led (passes s)
  passes_led s own =
      let limit = s.bound + length s.pending in
      let batches = passing_each (IsBatch s.bound limit) (λ b k. record { least = k.least; some = k.some; few = k.few; end = k.end }) (length s.config.shards) s.flight (flight_each s.bound limit s.flight own.leader.flight) in
      record {
        after = with_flight s own (passed (length s.config.shards) s.flight) (flight_passed (length s.config.shards) s.bound limit s.flight own.leader.flight)
            (let few = own.leader.few in let long = passed_few (length s.config.shards) s.flight in omega arith);
        sends = each_flat_map (λ (send : ℕ × Msg). Sized shape send.1) (order_sends s) (IsBatch s.bound limit) (orders_sized s own) (passing (length s.config.shards) s.flight) batches;
      }

  forcing_led : (room : ℕ) (s : SeqState) → Leads s → Led (forcing room s)
  forcing_led zero s own = led_stays s own
  forcing_led (suc room) s own =
      let first = begins_led s own in
      either Led (waits_above s.probes (flight_end s.bound s.flight)) (followed (begins s) (forcing room)) (stays s)
      (λ h. led_followed (begins s) (forcing room) first (forcing_led room (begins s).next first.after))
      (λ h. led_stays s own)

  pub forces_led : (s : SeqState) → Leads s → Led (forces s)
  forces_led s own = forcing_led (FLIGHT_LIMIT - length s.flight) s own

  leaves_led : (s : SeqState) → Leads s → (batch : Batch) (others : List Batch) → s.flight ≡ batch ∷ others → Led (leaves s batch others)
  leaves_led s own batch others is =
      let flying : AreFlying s.bound (s.bound + length s.pending) (batch ∷ others) = subst (AreFlying s.bound (s.bound + length s.pending)) is own.leader.flight in
      let start = flying.0 in
      let some = flying.1 in
      let end = flying.3 in
      let left = length-drop batch.count s.pending in
      let same : s.bound + length s.pending ≡ s.bound + batch.count + length (drop batch.count s.pending) = omega arith in
      let room = own.leader.room (omega arith) in
      let few : length (batch ∷ others) ≤ FLIGHT_LIMIT = subst (λ (bs : List Batch). length bs ≤ FLIGHT_LIMIT) is own.leader.few in
      let fewer = own.sized.few in
      let leader : LeaderSized (without_first s batch others) = record {
        flight = subst (λ (n : ℕ). AreFlying (s.bound + batch.count) n others) same flying.4;
        few = omega arith;
        room = λ k. omega arith;
      } in
      record {
        after = record {
          shaped = own.shaped;
          view = own.view;
          leads = own.leads;
          leader = leader;
          sized = record {
            view = own.sized.view;
            few = omega arith;
            bound = omega arith;
            room = λ k. omega arith;
            pending = each_drop (IsPending shape) batch.count s.pending own.sized.pending;
            window = own.sized.window;
            probes = each_filter IsWaiting (λ (probe : Probe). not (is_ready (s.bound + batch.count) probe)) s.probes own.sized.probes;
            leads = λ k. leader;
          };
        };
        sends = two_lists shape (stable_sends s (s.bound + batch.count)) (ready_sends s (ready_probes (s.bound + batch.count) s.probes))
            (stable_sized s own (s.bound + batch.count) (omega arith))
            (ready_sized s own (ready_probes (s.bound + batch.count) s.probes) (each_filter IsWaiting (is_ready (s.bound + batch.count)) s.probes own.sized.probes));
      }

  finishing_led : (batches : List Batch) (s : SeqState) → Leads s → s.flight ≡ batches → Led (finishing s batches)
  finishing_led [] s own is = led_stays s own
  finishing_led (batch ∷ others) s own is =
      let first = leaves_led s own batch others is in
      either Led (is_finished (length (followers_of s.config)) batch) (followed (leaves s batch others) (λ (after : SeqState). finishing after others)) (stays s)
      (λ h. led_followed (leaves s batch others) (λ (after : SeqState). finishing after others) first (finishing_led others (leaves s batch others).next first.after refl))
      (λ h. led_stays s own)

  finishes_from_led : (batches : List Batch) (s : SeqState) → Leads s → s.flight ≡ batches → Led (finishes_from s batches)
  finishes_from_led [] s own is = led_stays s own
  finishes_from_led (batch ∷ others) s own is =
      let first = finishing_led (batch ∷ others) s own is in
      either Led (is_finished (length (followers_of s.config)) batch) (followed (finishing s (batch ∷ others)) forces) (stays s)
      (λ h. led_followed (finishing s (batch ∷ others)) forces first (forces_led (finishing s (batch ∷ others)).next first.after))
      (λ h. led_stays s own)

  pub finishes_led : (s : SeqState) → Leads s → Led (finishes s)
  finishes_led s own = finishes_from_led s.flight s own refl
