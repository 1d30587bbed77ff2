-- How many messages a world may still send, by their number and by what they weigh at least.
use Rattle.std.proofs.Common.{◌≡◌, ◌+◌, ◌*◌, ◌≤◌, ℕ, List, [], ◌∷◌, length, inl, inr, ap, arith}
use Rattle.std.proofs.lemmas.List.Sums.{sum_by-cons}
use Rattle.view_config.specs.declared.nodes.Node.{Node}
use Rattle.lazy_msgs.specs.declared.limits.TheConstants.{MESSAGE_WEIGHT}
use Rattle.lazy_msgs.specs.declared.msg.Msg.{Msg}
use Rattle.lazy_msgs.specs.Weight.{weight_of, sends_weight}
use Rattle.lazy_rules.specs.WorldRules.{IsWithinLimits, sent_weight, step_time}
use Rattle.lazy_rules.specs.WorldState.{WorldState}
use Rattle.lazy_rules.specs.declared.limits.TheConstants.{MESSAGES_LIMIT, WEIGHT_LIMIT}
use Rattle.lazy_core.specs.declared.node_state.NodeState.{NodeState}
use Rattle.lazy_core.specs.declared.turns.Turn.{Turn}
use Rattle.lazy_core.specs.Happens.{IsRoom, IsWithinRoom}
use Rattle.lazy_core.specs.Ledger.{LedgerState}
use Rattle.lazy_core.specs.NodeCall.{node_call}
use Rattle.lazy_core.specs.States.{set_state}
use Rattle.lazy_core.specs.Turning.{IsTurnIn, turn_after}
use Rattle.lazy_core.proofs.Entering.{set_with}
use Rattle.lazy_core.proofs.Outcomes.{length_sent, weight_sent}

-- no message weighs less
weighs : (msg : Msg) → MESSAGE_WEIGHT ≤ weight_of msg
weighs msg = omega arith

all_weigh : (sends : List (ℕ × Msg)) → MESSAGE_WEIGHT * length sends ≤ sends_weight sends
all_weigh [] = omega arith
all_weigh (send ∷ sends) = omega (arith, sum_by-cons (λ (s : ℕ × Msg). weight_of s.1) send sends, weighs send.1, all_weigh sends)

-- setting a node's state sends nothing
same_sent : (w : WorldState) (role : Node) (next : NodeState) → (set_state w role next).sent ≡ w.sent
same_sent w role next =
    let l : LedgerState = record { times = w.times; sent = w.sent; history = w.history; events = w.events; message_room = 0; event_room = 0 } in
    ap (λ (x : WorldState). x.sent) (set_with w l role next)

-- whatever a turn sends within the limits of a world is within its room
module _ (room : ℕ) (w : WorldState) (turn : Turn) (is : IsTurnIn w turn) where
  abbrev set : WorldState
  set = set_state w is.role (node_call is.state turn.input).next

  abbrev sends : List (ℕ × Msg)
  sends = (node_call is.state turn.input).sends

  abbrev time : ℕ
  time = step_time set turn.node turn.received

  few : IsRoom w room → IsWithinLimits (turn_after w turn is) → length sends ≤ room
  few left fits =
      let same : set.sent ≡ w.sent = same_sent w is.role (node_call is.state turn.input).next in
      let number : length set.sent ≡ length w.sent = ap length same in
      let weight : sent_weight set.sent ≡ sent_weight w.sent = ap sent_weight same in
      let sent : length (turn_after w turn is).sent ≡ length set.sent + length sends = length_sent set.sent turn.node time sends in
      let weighed : sent_weight (turn_after w turn is).sent ≡ sent_weight set.sent + sends_weight sends = weight_sent set.sent turn.node time sends in
      let in_number : length (turn_after w turn is).sent ≤ MESSAGES_LIMIT = fits.in_number in
      let in_weight : sent_weight (turn_after w turn is).sent ≤ WEIGHT_LIMIT = fits.in_weight in
      let least : MESSAGE_WEIGHT * length sends ≤ sends_weight sends = all_weigh sends in
      elim left.most [ inl all ↦ omega arith | inr heavy ↦ omega arith ]

  pub room_of_limits : IsRoom w room → IsWithinLimits (turn_after w turn is) → IsWithinRoom room w (turn_after w turn is)
  room_of_limits left fits =
      let number : length set.sent ≡ length w.sent = ap length (same_sent w is.role (node_call is.state turn.input).next) in
      let sent : length (turn_after w turn is).sent ≡ length set.sent + length sends = length_sent set.sent turn.node time sends in
      let most : length sends ≤ room = few left fits in
      record { in_number = omega arith; in_weight = fits.in_weight }
