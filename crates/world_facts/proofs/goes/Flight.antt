-- What a leader sends as batches go on their way, and to whom.
use Rattle.std.proofs.Common.{◌≡◌, ℕ, zero, suc, ◌+◌, ◌<◌, List, [], ◌∷◌, length, refl, sym, ◌∙◌, subst}
use Rattle.std.specs.Prelude.{◌-◌, ◌&&◌, nat_lt, not}
use Rattle.std.specs.List.{flat_map}
use Rattle.list_facts.specs.Lists.{Each}
use Rattle.list_facts.proofs.Cases.{either}
use Rattle.list_facts.proofs.Members.{each_append, each_map, each_weaker}
use Rattle.view_config.specs.Nodes.{seq_id}
use Rattle.view_config.specs.Shape.{Dimensions}
use Rattle.lazy_msgs.specs.declared.msg.Msg.{Msg}
use Rattle.lazy_msgs.specs.declared.msg.Msg.TheVariants.{Place, Order, Stable, TailReady}
use Rattle.lazy_msgs.specs.Step.{Row}
use Rattle.lazy_rules.specs.Flight.{Batch, Probe, flight_end, lacks_place, lacks_order, passing, is_finished, is_ready, ready_probes, waits_above}
use Rattle.lazy_rules.specs.Ids.{ids_of}
use Rattle.lazy_rules.specs.Items.{items_for}
use Rattle.lazy_rules.specs.Leading.{items_in, place_to, place_sends, order_to, order_sends, resends, behind, next_batch, with_next, begins, passes, forcing, forces, stable_sends, ready_sends, leaves, finishing, finishes_from, finishes}
use Rattle.lazy_rules.specs.Roles.{first_of, followers_of, replicas_of}
use Rattle.lazy_rules.specs.Rows.{stays, sends_all, followed, to_each}
use Rattle.lazy_rules.specs.SeqState.{SeqState}
use Rattle.lazy_rules.specs.declared.limits.TheConstants.{FLIGHT_LIMIT}
use Rattle.world_facts.specs.MembersOf.{SeqOf}
use Rattle.world_facts.specs.Members.{IsGroup, IsNamed, IsSeqNode, IsShardNode, Goes}
use Rattle.world_facts.proofs.Claims.{Keeps}
use Rattle.world_facts.proofs.Rows.{keeps_followed, sends_each}
use Rattle.world_facts.proofs.goes.Sends.{any, each_filter, each_first, each_flat_map, each_of_numbered, each_other, replicas_named}

module _ (shape : Dimensions) (i : ℕ) (few : i < shape.seq + shape.spares) where
  pub own_seq : IsSeqNode shape (seq_id i)
  own_seq = record { place = i; few = few; is = refl }

  abbrev pub KeptSeq : Row SeqState → Type 0
  KeptSeq = Keeps (SeqOf shape i) (Goes shape (seq_id i))

  abbrev pub SentBySeq : List (ℕ × Msg) → Type 0
  SentBySeq sends = Each (λ (send : ℕ × Msg). Goes shape (seq_id i) send.0 send.1) sends

  -- a replica that differs in its bookkeeping alone
  pub seq_like : (s : SeqState) → SeqOf shape i s → (row : Row SeqState) → row.next.shape ≡ s.shape → row.next.node ≡ s.node → row.next.config ≡ s.config → row.next.probes ≡ s.probes → SentBySeq row.sends → KeptSeq row
  seq_like s ok row a b e p sent = record {
    next = record {
      shaped = a ∙ ok.shaped;
      numbered = b ∙ ok.numbered;
      config = subst (IsNamed shape) (sym e) ok.config;
      probes = subst (Each (λ (probe : Probe). probe.client < shape.clients)) (sym p) ok.probes;
    };
    sends = sent;
  }

  pub seq_stays : (s : SeqState) → SeqOf shape i s → KeptSeq (stays s)
  seq_stays s ok = record { next = ok; sends = tt }

  module _ (s : SeqState) (ok : SeqOf shape i s) where
    places_to : (batch : Batch) (shard : ℕ) (nodes : List ℕ) → IsGroup shape nodes → SentBySeq (place_to s batch shard nodes)
    places_to batch shard nodes h =
        either SentBySeq (lacks_place batch shard) (to_each (first_of nodes) (Place s.view batch.from (items_for s.shape shard batch.from (items_in s batch)))) []
        (λ k. sends_each (Goes shape (seq_id i)) (first_of nodes) (Place s.view batch.from (items_for s.shape shard batch.from (items_in s batch)))
        (each_weaker (IsShardNode shape) (λ (node : ℕ). Goes shape (seq_id i) node (Place s.view batch.from (items_for s.shape shard batch.from (items_in s batch)))) (λ node m. (own_seq, m)) (first_of nodes) (each_first (IsShardNode shape) nodes h.each)))
        (λ k. tt)

    pub places_sent : (batch : Batch) → SentBySeq (place_sends s batch)
    places_sent batch = each_of_numbered (λ (send : ℕ × Msg). Goes shape (seq_id i) send.0 send.1) (place_to s batch) (IsGroup shape) (places_to batch) 0 s.config.shards ok.config.shards

    orders_to : (batch : Batch) (k follower : ℕ) → IsSeqNode shape follower → SentBySeq (order_to s batch k follower)
    orders_to batch k follower h = either SentBySeq (lacks_order batch k) ((follower, Order s.view batch.from (ids_of (items_in s batch))) ∷ []) [] (λ m. ((own_seq, h), tt)) (λ m. tt)

    pub orders_sent : (batch : Batch) → SentBySeq (order_sends s batch)
    orders_sent batch = each_of_numbered (λ (send : ℕ × Msg). Goes shape (seq_id i) send.0 send.1) (order_to s batch) (IsSeqNode shape) (orders_to batch) 0 (followers_of s.config) (each_other (IsSeqNode shape) s.config.seq ok.config.seq)

    pub resent : (batch : Batch) → SentBySeq (resends s batch)
    resent batch = either SentBySeq batch.ordering (order_sends s batch) (place_sends s batch) (λ h. orders_sent batch) (λ h. places_sent batch)

    pub resent_all : (batches : List Batch) → SentBySeq (flat_map (resends s) batches)
    resent_all batches = each_flat_map (λ (send : ℕ × Msg). Goes shape (seq_id i) send.0 send.1) (resends s) (λ (batch : Batch). Unit {0}) (λ batch h. resent batch) batches (any batches)

    pub stable_sent : (bound : ℕ) → SentBySeq (stable_sends s bound)
    stable_sent bound =
        sends_each (Goes shape (seq_id i)) (replicas_of s.config) (Stable s.view bound)
        (each_weaker (IsShardNode shape) (λ (node : ℕ). Goes shape (seq_id i) node (Stable s.view bound)) (λ node m. (own_seq, m)) (replicas_of s.config) (replicas_named shape s.config ok.config))

    pub ready_sent : (probes : List Probe) → Each (λ (probe : Probe). probe.client < shape.clients) probes → SentBySeq (ready_sends s probes)
    ready_sent probes h =
        each_map (λ (probe : Probe). (probe.client, TailReady s.view probe.read probe.target)) (λ (send : ℕ × Msg). Goes shape (seq_id i) send.0 send.1) probes
        (each_weaker (λ (probe : Probe). probe.client < shape.clients) (λ (probe : Probe). Goes shape (seq_id i) probe.client (TailReady s.view probe.read probe.target)) (λ probe m. (own_seq, m)) probes h)

  pub begins_kept : (s : SeqState) → SeqOf shape i s → KeptSeq (begins s)
  begins_kept s ok =
      either KeptSeq (nat_lt (length s.flight) FLIGHT_LIMIT && nat_lt 0 (length (behind s))) (sends_all (with_next s) (place_sends s (next_batch s))) (stays s)
      (λ h. seq_like s ok (sends_all (with_next s) (place_sends s (next_batch s))) refl refl refl refl (places_sent s ok (next_batch s)))
      (λ h. seq_stays s ok)

  pub passes_kept : (s : SeqState) → SeqOf shape i s → KeptSeq (passes s)
  passes_kept s ok =
      let batches = passing (length s.config.shards) s.flight in
      seq_like s ok (passes s) refl refl refl refl
      (each_flat_map (λ (send : ℕ × Msg). Goes shape (seq_id i) send.0 send.1) (order_sends s) (λ (batch : Batch). Unit {0}) (λ batch h. orders_sent s ok batch) batches (any batches))

  forcing_kept : (room : ℕ) (s : SeqState) → SeqOf shape i s → KeptSeq (forcing room s)
  forcing_kept zero s ok = seq_stays s ok
  forcing_kept (suc room) s ok =
      let first = begins_kept s ok in
      either KeptSeq (waits_above s.probes (flight_end s.bound s.flight)) (followed (begins s) (forcing room)) (stays s)
      (λ h. keeps_followed (SeqOf shape i) (Goes shape (seq_id i)) (begins s) (forcing room) first (forcing_kept room (begins s).next first.next))
      (λ h. seq_stays s ok)

  pub forces_kept : (s : SeqState) → SeqOf shape i s → KeptSeq (forces s)
  forces_kept s ok = forcing_kept (FLIGHT_LIMIT - length s.flight) s ok

  pub leaves_kept : (s : SeqState) → SeqOf shape i s → (batch : Batch) (others : List Batch) → KeptSeq (leaves s batch others)
  leaves_kept s ok batch others = record {
    next = record {
      shaped = ok.shaped;
      numbered = ok.numbered;
      config = ok.config;
      probes = each_filter (λ (probe : Probe). probe.client < shape.clients) (λ (probe : Probe). not (is_ready (s.bound + batch.count) probe)) s.probes ok.probes;
    };
    sends = each_append (λ (send : ℕ × Msg). Goes shape (seq_id i) send.0 send.1) (stable_sends s (s.bound + batch.count)) (ready_sends s (ready_probes (s.bound + batch.count) s.probes))
        (stable_sent s ok (s.bound + batch.count))
        (ready_sent s ok (ready_probes (s.bound + batch.count) s.probes) (each_filter (λ (probe : Probe). probe.client < shape.clients) (is_ready (s.bound + batch.count)) s.probes ok.probes));
  }

  finishing_kept : (batches : List Batch) (s : SeqState) → SeqOf shape i s → KeptSeq (finishing s batches)
  finishing_kept [] s ok = seq_stays s ok
  finishing_kept (batch ∷ others) s ok =
      let first = leaves_kept s ok batch others in
      either KeptSeq (is_finished (length (followers_of s.config)) batch) (followed (leaves s batch others) (λ (after : SeqState). finishing after others)) (stays s)
      (λ h. keeps_followed (SeqOf shape i) (Goes shape (seq_id i)) (leaves s batch others) (λ (after : SeqState). finishing after others) first (finishing_kept others (leaves s batch others).next first.next))
      (λ h. seq_stays s ok)

  finishes_from_kept : (batches : List Batch) (s : SeqState) → SeqOf shape i s → KeptSeq (finishes_from s batches)
  finishes_from_kept [] s ok = seq_stays s ok
  finishes_from_kept (batch ∷ others) s ok =
      let first = finishing_kept (batch ∷ others) s ok in
      either KeptSeq (is_finished (length (followers_of s.config)) batch) (followed (finishing s (batch ∷ others)) forces) (stays s)
      (λ h. keeps_followed (SeqOf shape i) (Goes shape (seq_id i)) (finishing s (batch ∷ others)) forces first (forces_kept (finishing s (batch ∷ others)).next first.next))
      (λ h. seq_stays s ok)

  pub finishes_kept : (s : SeqState) → SeqOf shape i s → KeptSeq (finishes s)
  finishes_kept s ok = finishes_from_kept s.flight s ok
