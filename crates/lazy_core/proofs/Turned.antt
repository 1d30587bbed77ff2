-- A turn that a node takes at its place, and that is entered in the ledger, is the world's turn.
use Rattle.std.proofs.Common.{◌≡◌, ℕ, ◌+◌, ◌*◌, ◌<◌, ◌≤◌, List, ◌++◌, length, length-append, Some, sym, ap, ◌∙◌, subst, arith}
use Rattle.std.specs.Prelude.{slice_get, slice_index, slice_set}
use Rattle.std.specs.Option.{option_map}
use Rattle.std.proofs.lemmas.List.{length-set}
use Rattle.rec_id.specs.declared.event.Event.{Event}
use Rattle.view_config.specs.Nodes.{node_count}
use Rattle.view_config.specs.Shape.{Dimensions, IsShape, node_of}
use Rattle.view_config.specs.declared.nodes.Node.{Node}
use Rattle.view_config.specs.declared.nodes.Node.TheVariants.{Client as ClientNode, Controller, Seq as SeqNode, Shard as ShardNode}
use Rattle.lazy_msgs.specs.declared.msg.Msg.{Msg}
use Rattle.lazy_msgs.specs.Step.{Row}
use Rattle.lazy_rules.specs.WorldRules.{enveloped, stepped}
use Rattle.lazy_rules.specs.WorldState.{WorldState}
use Rattle.lazy_rules.specs.declared.limits.TheConstants.{MESSAGES_LIMIT}
use Rattle.world_facts.proofs.Lists.{each_get_or}
use Rattle.world_facts.proofs.Nodes.{client_is, controller_is, seq_is, shard_is}
use Rattle.lazy_core.specs.declared.node_state.NodeState.{NodeState}
use Rattle.lazy_core.specs.declared.turns.Turn.{Turn}
use Rattle.lazy_core.specs.Happens.{IsWithinRoom}
use Rattle.lazy_core.specs.Ledger.{Adds, Keeps, LedgerState, time_of_step}
use Rattle.lazy_core.specs.NodeCall.{node_call}
use Rattle.lazy_core.specs.Standing.{IsLaid, Standing, place_at, place_of, with_state, world_of_standing}
use Rattle.lazy_core.specs.States.{set_state}
use Rattle.lazy_core.specs.Turning.{IsKnown, IsTurnIn, turn_after}
use Rattle.lazy_core.specs.WorldView.{IsKept}
use Rattle.lazy_core.proofs.Entering.{entered_world, set_with, state_with, with_ledger}
use Rattle.lazy_core.proofs.Alike.{AreAlike, call_alike}
use Rattle.lazy_core.proofs.Seats.{IsSeated, seated}

-- a node's number is below the numbers of times
pub number_below : (shape : Dimensions) → IsShape shape → (node : ℕ) (role : Node) → node_of shape node ≡ Some role → node < node_count
number_below shape formed node (ClientNode c) is = let k = client_is shape node c is in let same = k.0 in let few = k.1 in let most = formed.clients_most in omega arith
number_below shape formed node Controller is = let same = controller_is shape node is in omega arith
number_below shape formed node (SeqNode i) is = let k = seq_is shape node i is in let same = k.0 in let few = k.1 in let most = formed.seq_most in omega arith
number_below shape formed node (ShardNode i j) is =
    let k = shard_is shape node i j is in
    let same = k.0 in
    let row = k.1 in
    let column = k.2 in
    let shards = formed.shards_most in
    let copies = formed.copies_most in
    omega arith

module _ (s : Standing) (l : LedgerState) (laid : IsLaid s.shape s.states) (turn : Turn) (is : IsTurnIn (with_ledger (world_of_standing s) l) turn) where
  abbrev w : WorldState
  w = with_ledger (world_of_standing s) l

  abbrev row : Row NodeState
  row = node_call is.state turn.input

  seat : IsSeated s is.role (place_at s.shape is.role)
  seat = seated s laid turn.node is.role is.seated

  same_state : seat.state ≡ is.state
  same_state =
      let e : Some seat.state ≡ Some is.state = sym seat.there ∙ sym (state_with (world_of_standing s) l is.role) ∙ is.there in
      cc

  -- the place that was found
  module _ (place : ℕ) (found : place_of s.shape turn.node ≡ Some place) where
    its_place : place_at s.shape is.role ≡ place
    its_place =
        let e : Some (place_at s.shape is.role) ≡ Some place = sym (ap (option_map (place_at s.shape)) is.seated) ∙ found in
        cc

    pub state_here : slice_get s.states place ≡ Some is.state
    state_here = subst (λ (p : ℕ). slice_get s.states p ≡ Some is.state) its_place (seat.here ∙ ap Some same_state)

    written_here : world_of_standing (with_state s place row.next) ≡ set_state (world_of_standing s) is.role row.next
    written_here =
        subst (λ (p : ℕ). world_of_standing (with_state s p row.next) ≡ set_state (world_of_standing s) is.role row.next) its_place
        (seat.written row.next (subst (λ (state : NodeState). AreAlike state row.next) (sym same_state) (call_alike is.state turn.input)))

    pub turned_so : (t : Standing) (m n : LedgerState) (sends : List (ℕ × Msg)) (told : List Event) → t ≡ with_state s place row.next → Keeps l m → Adds turn.node turn.received sends told m n → sends ≡ row.sends → told ≡ row.events → with_ledger (world_of_standing t) n ≡ turn_after w turn is
    turned_so t m n sends told stands keeps adds same_sends same_told =
        ap (λ (x : Standing). with_ledger (world_of_standing x) n) stands
        ∙ ap (λ (v : WorldState). with_ledger v n) written_here
        ∙ entered_world (set_state (world_of_standing s) is.role row.next) l m n turn.node turn.received sends told keeps adds
        ∙ ap (λ (x : WorldState). stepped x turn.node turn.received sends told) (sym (set_with (world_of_standing s) l is.role row.next))
        ∙ ap (λ (x : List (ℕ × Msg)). stepped (set_state w is.role row.next) turn.node turn.received x told) same_sends
        ∙ ap (stepped (set_state w is.role row.next) turn.node turn.received row.sends) same_told

  -- what a turn sends and when
  pub after_sent : (turn_after w turn is).sent ≡ l.sent ++ enveloped turn.node (time_of_step l turn.node turn.received) row.sends
  after_sent = ap (λ (x : WorldState). (stepped x turn.node turn.received row.sends row.events).sent) (set_with (world_of_standing s) l is.role row.next)

  after_times : (turn_after w turn is).times ≡ slice_set l.times turn.node (time_of_step l turn.node turn.received)
  after_times = ap (λ (x : WorldState). (stepped x turn.node turn.received row.sends row.events).times) (set_with (world_of_standing s) l is.role row.next)

  after_history : (turn_after w turn is).history ≡ l.history ++ row.events
  after_history = ap (λ (x : WorldState). (stepped x turn.node turn.received row.sends row.events).history) (set_with (world_of_standing s) l is.role row.next)

  after_events : (turn_after w turn is).events ≡ l.events + 1
  after_events = ap (λ (x : WorldState). (stepped x turn.node turn.received row.sends row.events).events) (set_with (world_of_standing s) l is.role row.next)

  few_after : length row.events ≤ 2 → length l.history ≤ 2 * l.events → length (turn_after w turn is).history ≤ 2 * (turn_after w turn is).events
  few_after two few =
      let history : length (turn_after w turn is).history ≡ length l.history + length row.events = ap length after_history ∙ length-append l.history row.events in
      let events = after_events in
      omega arith

  pub kept_after : (room : ℕ) → IsKept w → length l.sent + room ≤ MESSAGES_LIMIT → length row.events ≤ 2 → IsWithinRoom room w (turn_after w turn is) → IsKept (turn_after w turn is)
  kept_after room kept few two within = record {
    timed = ap length after_times ∙ length-set l.times turn.node (time_of_step l turn.node turn.received) ∙ kept.timed;
    within = record { in_number = (let number = within.in_number in omega arith); in_weight = within.in_weight };
    told = few_after two kept.told;
  }

  -- what entering it needs
  pub node_timed : IsKnown w → turn.node < length l.times
  node_timed known = let below = number_below s.shape known.formed turn.node is.role is.seated in let timed = known.form.times in omega arith

-- no time is above the number of events
pub time_early : (w : WorldState) → IsKnown w → (node : ℕ) → slice_index w.times node ≤ w.events
time_early w known node = each_get_or (λ (t : ℕ). t ≤ w.events) w.times known.form.past 0 (omega arith) node
