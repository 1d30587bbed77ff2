-- A turn, from the node's call to the world's event.
use Rattle.std.proofs.Common.{◌≡◌, ◌+◌, ◌<◌, ◌≤◌, ◌^◌, ℕ, List, length, Option, Some, None, Ok, Err, refl, sym, ap, ◌∙◌, subst, arith}
use Rattle.std.specs.Prelude.{slice_get}
use Rattle.std.proofs.lemmas.Option.{slice_get_within}
use Rattle.rec_id.specs.declared.event.Event.{Event}
use Rattle.view_config.specs.declared.nodes.Node.{Node}
use Rattle.view_config.specs.declared.nodes.Node.TheVariants.{Client as ClientNode, Controller, Seq as SeqNode, Shard as ShardNode}
use Rattle.lazy_msgs.specs.declared.msg.Msg.{Msg}
use Rattle.lazy_msgs.specs.declared.refused.EventRefused.{EventRefused}
use Rattle.lazy_msgs.specs.Outbox.{Out, Fits, put_on}
use Rattle.lazy_msgs.specs.Step.{Row}
use Rattle.lazy_msgs.specs.Weight.{sends_weight}
use Rattle.lazy_rules.specs.ClientState.{ClientState}
use Rattle.lazy_rules.specs.ReaderState.{ReaderState}
use Rattle.lazy_rules.specs.SeqState.{SeqState}
use Rattle.lazy_rules.specs.ShardState.{ShardState}
use Rattle.lazy_rules.specs.WorldRules.{halves, sent_weight}
use Rattle.lazy_rules.specs.WorldState.{WorldState, shard_place}
use Rattle.lazy_rules.specs.declared.limits.TheConstants.{MESSAGES_LIMIT, WEIGHT_LIMIT}
use Rattle.lazy_core.specs.declared.node_state.NodeState.{NodeState}
use Rattle.lazy_core.specs.declared.node_state.NodeState.TheVariants.{Client, Control, Seq, Shard}
use Rattle.lazy_core.specs.declared.turns.Turn.{Turn}
use Rattle.lazy_core.specs.Happens.{HappensIn, IsWithinRoom}
use Rattle.lazy_core.specs.Ledger.{Adds, Keeps, LedgerState, outbox_for, time_of_step}
use Rattle.lazy_core.specs.NodeCall.{CallsTo, IsNodeOf, call_refusal, node_call}
use Rattle.lazy_core.specs.Standing.{IsLaid, Standing, at_place, place_of, world_of_standing}
use Rattle.lazy_core.specs.States.{client_there, seq_there, shard_there, state_at}
use Rattle.lazy_core.specs.Turning.{IsKnown, IsTurnIn, turn_after, turn_refusal}
use Rattle.lazy_core.specs.WorldView.{IsKept}
use Rattle.lazy_core.proofs.Entering.{kept_world, with_ledger}
use Rattle.lazy_core.proofs.Outcomes.{call_happens, room_for, room_from_fits}
use Rattle.lazy_core.proofs.Turned.{after_sent, kept_after, state_here, turned_so}

-- what a node's call needs to know of it is known of each node of a world
module _ (w : WorldState) (known : IsKnown w) (countable : w.events + 1 < 2 ^ 32) (state : NodeState) where
  client_fit : (c : ℕ) (a : Option ClientState) (r : Option ReaderState) → slice_get w.readers c ≡ r → client_there (halves a r) ≡ Some state → IsNodeOf w.shape state
  client_fit c (Some a) (Some r) there is =
      let same : Client a r ≡ state = cc in
      subst (IsNodeOf w.shape) same (record { shaped = known.form.readers_shaped c r there; one_more = (let few = known.reads c r there in omega arith) })
  client_fit c (Some a) None there is = cc
  client_fit c None (Some r) there is = cc
  client_fit c None None there is = cc

  seq_fit : (o : Option SeqState) → seq_there o ≡ Some state → IsNodeOf w.shape state
  seq_fit (Some s) is = let same : Seq s ≡ state = cc in subst (IsNodeOf w.shape) same tt
  seq_fit None is = cc

  shard_fit : (o : Option ShardState) → shard_there o ≡ Some state → IsNodeOf w.shape state
  shard_fit (Some s) is = let same : Shard s ≡ state = cc in subst (IsNodeOf w.shape) same tt
  shard_fit None is = cc

  pub node_fit : (role : Node) → state_at w role ≡ Some state → IsNodeOf w.shape state
  node_fit (ClientNode c) is = client_fit c (slice_get w.clients c) (slice_get w.readers c) refl is
  node_fit Controller is = let same : Control w.control ≡ state = cc in subst (IsNodeOf w.shape) same tt
  node_fit (SeqNode i) is = seq_fit (slice_get w.seqs i) is
  node_fit (ShardNode i j) is = shard_fit (slice_get w.shards (shard_place w.shape i j)) is

-- what a step put into an outbox that was made for it
module _ (l : LedgerState) (room : ℕ) (out after : Out) (sends : List (ℕ × Msg)) (told : List Event) (made : out ≡ outbox_for l room) (put : after ≡ put_on out sends told) where
  put_so : after ≡ put_on (outbox_for l room) sends told
  put_so = put ∙ ap (λ (o : Out). put_on o sends told) made

  pub sends_put : after.sends ≡ sends
  sends_put = ap (λ (o : Out). o.sends) put_so

  pub told_put : after.events ≡ told
  told_put = ap (λ (o : Out). o.events) put_so

module _ (s : Standing) (l : LedgerState) (laid : IsLaid s.shape s.states) (turn : Turn) (place : ℕ) (found : place_of s.shape turn.node ≡ Some place) (is : IsTurnIn (with_ledger (world_of_standing s) l) turn) where
  abbrev w : WorldState
  w = with_ledger (world_of_standing s) l

  abbrev row : Row NodeState
  row = node_call is.state turn.input

  abbrev reason : Option EventRefused
  reason = call_refusal s.shape.edition is.state turn.input

  pub here : slice_get s.states place ≡ Some is.state
  here = state_here s l laid turn is place found

  pub place_there : place < length s.states
  place_there = slice_get_within s.states place is.state here

  pub own_state : IsKnown w → w.events + 1 < 2 ^ 32 → (state : NodeState) → slice_get s.states place ≡ Some state → IsNodeOf s.shape state
  own_state known countable state there =
      let e : Some is.state ≡ Some state = sym here ∙ there in
      let same : is.state ≡ state = cc in
      subst (IsNodeOf s.shape) same (node_fit w known countable is.state is.role is.there)

  module _ (room : ℕ) (t : Standing) (m : LedgerState) (out after : Out) (made : out ≡ outbox_for l room) (kept : IsKept w) where
    light : sent_weight w.sent ≤ WEIGHT_LIMIT
    light = kept.within.in_weight

    -- the node refused
    pub turn_refused : (e : EventRefused) → CallsTo (at_place s place row) reason s t out after (Err e) → Keeps l m → HappensIn (IsWithinRoom room w (turn_after w turn is)) (turn_after w turn is) (turn_refusal w turn is) w (with_ledger (world_of_standing t) m) (Err e)
    turn_refused e h keeps =
        call_happens w (turn_after w turn is) room turn.node (time_of_step l turn.node turn.received) row.sends (after_sent s l laid turn is) light
        (at_place s place row) reason s t after (with_ledger (world_of_standing t) m) (Err e) refl
        (subst (λ (o : Out). CallsTo (at_place s place row) reason s t o after (Err e)) made h)
        tt
        (kept_world (world_of_standing t) l m keeps ∙ ap (λ (x : Standing). with_ledger (world_of_standing x) l) h.steps.unchanged)

    -- it took the turn
    module _ (done : Unit {0}) (h : CallsTo (at_place s place row) reason s t out after (Ok done)) where
      pub few_sent : room ≤ m.message_room → length after.sends ≤ m.message_room
      few_sent enough =
          let number : length row.sends ≤ room = subst (λ (o : Out). length row.sends ≤ o.messages_left) made h.steps.fits.in_number in
          let same : length after.sends ≡ length row.sends = ap length (sends_put l room out after row.sends row.events made h.steps.sent) in
          omega arith

      pub few_told : 2 ≤ m.event_room → length after.events ≤ m.event_room
      few_told enough =
          let number : length row.events ≤ 2 = h.steps.few in
          let same : length after.events ≡ length row.events = ap length (told_put l room out after row.sends row.events made h.steps.sent) in
          omega arith

      pub light_sent : Keeps l m → sent_weight m.sent + sends_weight after.sends ≤ WEIGHT_LIMIT
      light_sent keeps =
          let weight : sends_weight row.sends ≤ (outbox_for l room).weight_left = subst (λ (o : Out). sends_weight row.sends ≤ o.weight_left) made h.steps.fits.in_weight in
          let same : sends_weight after.sends ≡ sends_weight row.sends = ap sends_weight (sends_put l room out after row.sends row.events made h.steps.sent) in
          let before : sent_weight m.sent ≡ sent_weight l.sent = ap sent_weight keeps.sent in
          let small : sent_weight l.sent ≤ WEIGHT_LIMIT = light in
          omega arith

      module _ (n : LedgerState) (keeps : Keeps l m) (adds : Adds turn.node turn.received after.sends after.events m n) where
        entered : with_ledger (world_of_standing t) n ≡ turn_after w turn is
        entered =
            turned_so s l laid turn is place found t m n after.sends after.events h.steps.state keeps adds
            (sends_put l room out after row.sends row.events made h.steps.sent) (told_put l room out after row.sends row.events made h.steps.sent)

        fits_room : Fits row.sends (room_for w room)
        fits_room = subst (Fits row.sends) made h.steps.fits

        pub turn_taken : HappensIn (IsWithinRoom room w (turn_after w turn is)) (turn_after w turn is) (turn_refusal w turn is) w (with_ledger (world_of_standing t) n) (Ok tt)
        turn_taken =
            call_happens w (turn_after w turn is) room turn.node (time_of_step l turn.node turn.received) row.sends (after_sent s l laid turn is) light
            (at_place s place row) reason s t after (with_ledger (world_of_standing t) n) (Ok done) refl
            (subst (λ (o : Out). CallsTo (at_place s place row) reason s t o after (Ok done)) made h)
            entered
            tt

        pub turn_kept : length l.sent + room ≤ MESSAGES_LIMIT → IsKept (with_ledger (world_of_standing t) n)
        turn_kept few =
            subst IsKept (sym entered)
            (kept_after s l laid turn is room kept few h.steps.few
            (room_from_fits w (turn_after w turn is) room turn.node (time_of_step l turn.node turn.received) row.sends (after_sent s l laid turn is) light fits_room))
