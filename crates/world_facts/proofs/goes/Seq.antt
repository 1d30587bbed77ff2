-- What a sequencing replica sends, and to whom.
use Rattle.std.proofs.Common.{◌≡◌, ℕ, ◌+◌, ◌<◌, List, [], ◌∷◌, ◌++◌, length, map, max, true, refl, sym, subst, Option}
use Rattle.std.specs.Prelude.{◌==◌, if◌then◌else◌}
use Rattle.std.specs.List.{flat_map}
use Rattle.list_facts.specs.Lists.{Each}
use Rattle.list_facts.proofs.Cases.{either, some_or_none}
use Rattle.list_facts.proofs.Members.{each_append}
use Rattle.rec_id.specs.Identity.{Identity}
use Rattle.rec_id.specs.declared.marks.Marks.{Marks}
use Rattle.view_config.specs.Nodes.{seq_id}
use Rattle.view_config.specs.Shape.{Dimensions}
use Rattle.view_config.specs.declared.config.Config.{Config}
use Rattle.lazy_msgs.specs.declared.input.Input.{Input}
use Rattle.lazy_msgs.specs.declared.input.Input.TheVariants.{Take, Tick}
use Rattle.lazy_msgs.specs.declared.msg.Msg.{Msg}
use Rattle.lazy_msgs.specs.declared.msg.Msg.TheVariants.{Append, AppendAck, Placed, Order, Ordered, Probe, ProbeAck, TailReady, Seal, Sealed, SealedEmpty, NewView, Started}
use Rattle.lazy_msgs.specs.Step.{Row}
use Rattle.lazy_rules.specs.Door.{is_turned_away}
use Rattle.lazy_rules.specs.Flight.{has_probe_of, with_probe, with_place, with_order, Probe as Waiting}
use Rattle.lazy_rules.specs.Leading.{begins, finishes, forces, passes, resends, stable_sends}
use Rattle.lazy_rules.specs.Rows.{stays, answers, sends_all, followed}
use Rattle.lazy_rules.specs.SeqRules.{in_view, notes_order, notes_place, on_append, on_new_view, on_order, on_ordered, on_placed, on_probe, on_seal, on_tick, seq_row, seq_step, seq_took, starts, tail_sends, waits, with_bound, with_item, with_waiting}
use Rattle.lazy_rules.specs.SeqState.{SeqState}
use Rattle.world_facts.specs.MembersOf.{SeqOf}
use Rattle.world_facts.specs.Members.{IsNamed, IsSeqNode, Goes}
use Rattle.world_facts.proofs.Rows.{keeps_followed}
use Rattle.world_facts.proofs.goes.Flight.{KeptSeq, SentBySeq, seq_like, seq_stays, own_seq, resent_all, stable_sent, begins_kept, passes_kept, forces_kept, finishes_kept}
use Rattle.world_facts.proofs.goes.Sends.{GivenTo}
use Rattle.view_config.specs.declared.nodes.TheConstants.{CONTROLLER}

-- the probes with one of a client of the shape
module _ (P : Waiting → Type 0) where
  put_probe : (probe : Waiting) → P probe → (probes : List Waiting) → Each P probes → Each P (map (λ (other : Waiting). if other.client == probe.client then probe else other) probes)
  put_probe probe own [] h = tt
  put_probe probe own (other ∷ probes) h = (either P (other.client == probe.client) probe other (λ k. own) (λ k. h.0), put_probe probe own probes h.1)

  pub with_probe_each : (probe : Waiting) → P probe → (probes : List Waiting) → Each P probes → Each P (with_probe probes probe)
  with_probe_each probe own probes h =
      either (Each P) (has_probe_of probes probe.client) (map (λ (other : Waiting). if other.client == probe.client then probe else other) probes) (probes ++ probe ∷ [])
      (λ k. put_probe probe own probes h) (λ k. each_append P probes (probe ∷ []) h (own, tt))

module _ (shape : Dimensions) (i : ℕ) (few : i < shape.seq + shape.spares) where
  abbrev Kept : Row SeqState → Type 0
  Kept = KeptSeq shape i few

  abbrev Sent : List (ℕ × Msg) → Type 0
  Sent = SentBySeq shape i few

  module _ (s : SeqState) (ok : SeqOf shape i s) where
    like : (row : Row SeqState) → row.next.shape ≡ s.shape → row.next.node ≡ s.node → row.next.config ≡ s.config → row.next.probes ≡ s.probes → Sent row.sends → Kept row
    like = seq_like shape i few s ok

    stay : Kept (stays s)
    stay = seq_stays shape i few s ok

    own : IsSeqNode shape (seq_id i)
    own = own_seq shape i few

    appends : (view : ℕ) (id : Identity) (bytes : Option (List ℕ)) → id.client < shape.clients → Kept (on_append s view id bytes)
    appends view id bytes there =
        let again : Kept (answers s id.client (AppendAck view id)) = like (answers s id.client (AppendAck view id)) refl refl refl refl ((own, there, refl), tt) in
        let new : Kept (answers (with_item s id bytes) id.client (AppendAck view id)) = like (answers (with_item s id bytes) id.client (AppendAck view id)) refl refl refl refl ((own, there, refl), tt) in
        search (either Kept, again, new, stay) depth 12

    orders : (sender view from : ℕ) (ids : List Identity) → IsSeqNode shape sender → Kept (on_order s sender view from ids)
    orders sender view from ids asks =
        let next : Kept (answers (with_bound s ids) sender (Ordered view (s.bound + length ids))) = like (answers (with_bound s ids) sender (Ordered view (s.bound + length ids))) refl refl refl refl ((own, asks), tt) in
        let again : Kept (answers s sender (Ordered view (from + length ids))) = like (answers s sender (Ordered view (from + length ids))) refl refl refl refl ((own, asks), tt) in
        search (either Kept, next, again, stay) depth 12

    ticks : Kept (on_tick s)
    ticks =
        let first : Kept (sends_all s (flat_map (resends s) s.flight)) = like (sends_all s (flat_map (resends s) s.flight)) refl refl refl refl (resent_all shape i few s ok s.flight) in
        let both : Kept (followed (sends_all s (flat_map (resends s) s.flight)) begins) = keeps_followed (SeqOf shape i) (Goes shape (seq_id i)) (sends_all s (flat_map (resends s) s.flight)) begins first (begins_kept shape i few s ok) in
        search (either Kept, both, stay) depth 12

    place_noted : (upto shard : ℕ) → Kept (notes_place s upto shard)
    place_noted upto shard =
        let after : SeqState = record s { flight = with_place s.flight shard upto } in
        let first = passes_kept shape i few after (record { shaped = ok.shaped; numbered = ok.numbered; config = ok.config; probes = ok.probes }) in
        keeps_followed (SeqOf shape i) (Goes shape (seq_id i)) (passes after) finishes first (finishes_kept shape i few (passes after).next first.next)

    placed : (sender view upto : ℕ) → Kept (on_placed s sender view upto)
    placed sender view upto = search (either Kept, some_or_none {A = ℕ} Kept, place_noted, stay) depth 12

    order_noted : (upto follower : ℕ) → Kept (notes_order s upto follower)
    order_noted upto follower = finishes_kept shape i few (record s { flight = with_order s.flight follower upto }) (record { shaped = ok.shaped; numbered = ok.numbered; config = ok.config; probes = ok.probes })

    ordered : (sender view upto : ℕ) → Kept (on_ordered s sender view upto)
    ordered sender view upto = search (either Kept, some_or_none {A = ℕ} Kept, order_noted, stay) depth 12

    waited : (client read : ℕ) → client < shape.clients → Kept (waits s client read)
    waited client read there =
        let after : SeqState = with_waiting s client read in
        let forced : Kept (forces after) = forces_kept shape i few after (record {
          shaped = ok.shaped;
          numbered = ok.numbered;
          config = ok.config;
          probes = with_probe_each (λ (probe : Waiting). probe.client < shape.clients) (record { client = client; read = read; target = s.bound + length s.pending }) there s.probes ok.probes;
        }) in
        search (either Kept, forced, stay) depth 12

    probed : (sender view read : ℕ) → sender < shape.clients → Kept (on_probe s sender view read)
    probed sender view read there =
        let acks : Kept (answers s sender (ProbeAck view read)) = like (answers s sender (ProbeAck view read)) refl refl refl refl ((own, there), tt) in
        let tells : Kept (sends_all s ((sender, ProbeAck view read) ∷ tail_sends s sender read)) = like (sends_all s ((sender, ProbeAck view read) ∷ tail_sends s sender read)) refl refl refl refl
        ((own, there), each_append (λ (send : ℕ × Msg). Goes shape (seq_id i) send.0 send.1) (stable_sends s s.bound) ((sender, TailReady s.view read s.bound) ∷ []) (stable_sent shape i few s ok s.bound) ((own, there), tt)) in
        let waits_for : Kept (followed (answers s sender (ProbeAck view read)) (λ (after : SeqState). waits after sender read)) =
        keeps_followed (SeqOf shape i) (Goes shape (seq_id i)) (answers s sender (ProbeAck view read)) (λ (after : SeqState). waits after sender read) acks (waited sender read there) in
        search (either Kept, acks, tells, waits_for, stay) depth 12

    seals : (sender view : ℕ) → sender ≡ CONTROLLER → Kept (on_seal s sender view)
    seals sender view is =
        let told : Kept (answers (record s { sealed = true }) sender (Sealed view s.bound s.window s.pending)) = like (answers (record s { sealed = true }) sender (Sealed view s.bound s.window s.pending)) refl refl refl refl ((own, is), tt) in
        let bars : Kept (answers (record s { barred = max s.barred view }) sender (SealedEmpty view)) = like (answers (record s { barred = max s.barred view }) sender (SealedEmpty view)) refl refl refl refl ((own, is), tt) in
        search (either Kept, told, bars, stay) depth 12

  module _ (s : SeqState) (ok : SeqOf shape i s) where
    started : (sender : ℕ) → sender ≡ CONTROLLER → Kept (starts s sender)
    started sender is =
        let leads : Kept (sends_all s ((sender, Started s.view) ∷ stable_sends s s.bound)) = like s ok (sends_all s ((sender, Started s.view) ∷ stable_sends s s.bound)) refl refl refl refl ((own s ok, is), stable_sent shape i few s ok s.bound) in
        let follows : Kept (answers s sender (Started s.view)) = like s ok (answers s sender (Started s.view)) refl refl refl refl ((own s ok, is), tt) in
        search (either Kept, leads, follows) depth 12

  module _ (s : SeqState) (ok : SeqOf shape i s) where
    views : (sender : ℕ) → sender ≡ CONTROLLER → (config : Config) → IsNamed shape config → (base : ℕ) (window : List Marks) → Kept (on_new_view s sender config base window)
    views sender is config named base window =
        let after : SeqState = in_view s config base window in
        let begun : Kept (starts after sender) = started after (record { shaped = ok.shaped; numbered = ok.numbered; config = named; probes = tt }) sender is in
        let again : Kept (answers s sender (Started config.view)) = like s ok (answers s sender (Started config.view)) refl refl refl refl ((own s ok, is), tt) in
        let left = stay s ok in
        search (either Kept, begun, again, left) depth 12

    rows : (sender : ℕ) (msg : Msg) → Goes shape sender (seq_id i) msg → Kept (seq_row s sender msg)
    rows sender (Append view id bytes) says = appends s ok view id bytes (subst (λ (c : ℕ). c < shape.clients) (sym says.2) says.0)
    rows sender (Placed view upto) says = placed s ok sender view upto
    rows sender (Order view from ids) says = orders s ok sender view from ids says.0
    rows sender (Ordered view upto) says = ordered s ok sender view upto
    rows sender (Probe view read) says = probed s ok sender view read says.0
    rows sender (Seal view) says = seals s ok sender view says.0
    rows sender (NewView config base window) says = views sender says.0 config says.2 base window
    rows sender _ says = stay s ok

    takes : (sender : ℕ) (msg : Msg) → Goes shape sender (seq_id i) msg → Kept (seq_took s sender msg)
    takes sender msg says =
        either Kept (is_turned_away s.shape sender msg) (stays s) (seq_row s sender msg)
        (λ h. stay s ok) (λ h. rows sender msg says)

    pub seq_kept : (input : Input) → GivenTo shape (seq_id i) input → Kept (seq_step s input)
    seq_kept (Take e) given = takes e.from e.msg given
    seq_kept Tick given = ticks s ok
    seq_kept _ given = stay s ok
