-- A peek is a turn of its client.
use Rattle.std.proofs.Common.{◌≡◌, ℕ, Option, Some, None, true, false, refl, sym, ap, ◌∙◌, subst, arith}
use Rattle.std.specs.Prelude.{nat_lt}
use Rattle.std.proofs.lemmas.Bool.{ltb-false}
use Rattle.std.proofs.lemmas.Option.{slice_get_past}
use Rattle.lazy_msgs.specs.declared.input.Input.{Input}
use Rattle.lazy_msgs.specs.declared.input.WorldEvent.TheVariants.{Peek}
use Rattle.lazy_msgs.specs.declared.msg.Envelope.{Envelope}
use Rattle.lazy_msgs.specs.declared.refused.EventRefused.{EventRefused}
use Rattle.lazy_msgs.specs.declared.refused.EventRefused.TheVariants.{NoNode}
use Rattle.lazy_rules.specs.WorldState.{WorldState}
use Rattle.lazy_rules.specs.WorldRules.{client_given, message_at, peek_refused, peek_refused_at, peeked, refusal}
use Rattle.lazy_core.specs.declared.turns.Turn.{Turn}
use Rattle.lazy_core.specs.Peeking.{IsGiven, peek_input}
use Rattle.lazy_core.specs.Turning.{IsKnown, IsTurnOf, turn_after, turn_refusal}
use Rattle.lazy_core.proofs.ClientEvents.{client_turn, own}
use Rattle.lazy_core.proofs.RoleStates.{node_here}

module _ (w : WorldState) (known : IsKnown w) (c k from to : ℕ) where
  module _ (there : nat_lt c w.shape.clients ≡ true) where
    -- why it is refused, where the client is there
    pub peek_reason : (e : Option EventRefused) → peek_refused w c k from to (message_at w k) ≡ e → refusal w (Peek c k from to) ≡ e
    peek_reason e h = ap (peek_refused_at w c k from to) (own w known c there).as_client ∙ h

    abbrev turn_of : Input → Turn
    turn_of input = record { node = c; input = input; received = 0 }

    peeks_so : (o : Option Envelope) (input : Input) → IsGiven w from to o input → peeked w c from to o ≡ turn_after w (turn_of input) (client_turn w known c there (turn_of input) refl refl)
    peeks_so None input h = absurd h
    peeks_so (Some envelope) input h =
        subst (λ (i : Input). peeked w c from to (Some envelope) ≡ turn_after w (turn_of i) (client_turn w known c there (turn_of i) refl refl)) (sym h)
        (ap (client_given w c (peek_input w from to envelope)) (node_here w c (own w known c there)))

    no_refusal : (o : Option Envelope) (input : Input) → IsGiven w from to o input → None ≡ turn_refusal w (turn_of input) (client_turn w known c there (turn_of input) refl refl)
    no_refusal None input h = absurd h
    no_refusal (Some envelope) input h =
        subst (λ (i : Input). None ≡ turn_refusal w (turn_of i) (client_turn w known c there (turn_of i) refl refl)) (sym h) refl

    pub peek_turn : (input : Input) → IsGiven w from to (message_at w k) input → peek_refused w c k from to (message_at w k) ≡ None → IsTurnOf w (Peek c k from to) (turn_of input)
    peek_turn input is free = record {
      is = client_turn w known c there (turn_of input) refl refl;
      next = peeks_so (message_at w k) input is;
      reason = peek_reason None free ∙ no_refusal (message_at w k) input is;
    }

  pub peek_nobody : nat_lt c w.shape.clients ≡ false → refusal w (Peek c k from to) ≡ Some (NoNode c)
  peek_nobody absent =
      let far = ltb-false c w.shape.clients absent in
      let counted = known.form.clients in
      ap (peek_refused_at w c k from to) (slice_get_past w.clients c (omega arith))
