-- Messages that weigh little are few.
use Rattle.std.proofs.Common.{◌<◌, ◌≤◌, ◌+◌, ◌*◌, ◌^◌, ℕ, List, [], ◌∷◌, length, inl, inr, arith}
use Rattle.std.proofs.lemmas.Bool.{cases_lt}
use Rattle.std.proofs.lemmas.List.Sums.{sum_by-cons}
use Rattle.lazy_msgs.specs.declared.limits.TheConstants.{MESSAGE_WEIGHT}
use Rattle.lazy_msgs.specs.declared.msg.Msg.{Msg}
use Rattle.lazy_msgs.specs.Outbox.{Fits, Out}
use Rattle.lazy_msgs.specs.Weight.{sends_weight, weight_of}

-- each message weighs 64 at least
one_weighs : (msg : Msg) → MESSAGE_WEIGHT ≤ weight_of msg
one_weighs msg = omega arith

pub sends_weigh : (sends : List (ℕ × Msg)) → MESSAGE_WEIGHT * length sends ≤ sends_weight sends
sends_weigh [] = omega arith
sends_weigh (send ∷ sends) =
    let rest = sends_weigh sends in
    let first = one_weighs send.1 in
    let sum = sum_by-cons (λ (send : ℕ × Msg). weight_of send.1) send sends in
    omega arith

-- what doesn't fit into an outbox for very many messages is too heavy for it
pub too_heavy : (sends : List (ℕ × Msg)) (out : Out) → out.weight_left < 2 ^ 32 → 2 ^ 32 ≤ out.messages_left + 1 → ¬ Fits sends out → out.weight_left < sends_weight sends
too_heavy sends out low many none = elim (cases_lt out.weight_left (sends_weight sends)) [
  | inl heavy ↦ heavy
  | inr light ↦ absurd (none (record { in_number = (let weigh = sends_weigh sends in omega arith); in_weight = light }))
]
