-- From turns to events.
use Rattle.std.proofs.Common.{◌≡◌, ◌≢◌, ◌+◌, ◌≤◌, ℕ, length, Option, Some, None, Ok, Err, refl, sym, subst, arith}
use Rattle.lazy_msgs.specs.declared.input.WorldEvent.{WorldEvent}
use Rattle.lazy_msgs.specs.declared.refused.EventRefused.{EventRefused}
use Rattle.lazy_msgs.specs.declared.refused.EventRefused.TheVariants.{Memory, Spent}
use Rattle.lazy_rules.specs.WorldRules.{IsWithinLimits, refusal}
use Rattle.lazy_rules.specs.WorldState.{WorldState}
use Rattle.lazy_rules.specs.declared.limits.TheConstants.{MESSAGES_LIMIT}
use Rattle.lazy_core.specs.declared.turns.Turn.{Turn}
use Rattle.lazy_core.specs.Happens.{Happens, HappensIn, IsRoom, IsWithinRoom, Turns, TurnsWithin}
use Rattle.lazy_core.specs.NodeCall.{Outcome}
use Rattle.lazy_core.specs.Turning.{IsTurnOf, turn_after, turn_refusal}
use Rattle.lazy_core.proofs.Rooms.{room_of_limits}

module _ (F : Type 0) (next : WorldState) (reason : Option EventRefused) (w : WorldState) where
  -- an event that is refused, for this reason or for want of memory
  pub refused_so : (e : EventRefused) → (e ≢ Memory → reason ≡ Some e) → e ≢ Spent → HappensIn F next reason w w (Err e)
  refused_so e named unspent = record {
    happened = tt;
    allowed = tt;
    within = tt;
    named = λ a b. named b;
    unspent = λ is. absurd (unspent (let same : e ≡ Spent = cc in same));
    spent = λ is. absurd (unspent (let same : e ≡ Spent = cc in same));
    unchanged = refl;
  }

  pub no_memory : HappensIn F next reason w w (Err Memory)
  no_memory = refused_so Memory (λ none. absurd (none refl)) (λ is. cc)

  pub happened_so : (new : WorldState) → new ≡ next → reason ≡ None → F → HappensIn F next reason w new (Ok tt)
  happened_so new is free fits = record { happened = is; allowed = free; within = fits; named = tt; unspent = λ e. cc; spent = λ e. cc; unchanged = tt }

-- another bound on what is sent
other_bound : (F G : Type 0) (next : WorldState) (reason : Option EventRefused) (w new : WorldState) (outcome : Outcome) → (F → G) → (outcome ≡ Err Spent → ¬ F → ¬ G) → HappensIn F next reason w new outcome → HappensIn G next reason w new outcome
other_bound F G next reason w new (Ok done) there back h = record { happened = h.happened; allowed = h.allowed; within = there h.within; named = h.named; unspent = h.unspent; spent = λ e. back e (h.spent e); unchanged = h.unchanged }
other_bound F G next reason w new (Err e) there back h = record { happened = h.happened; allowed = h.allowed; within = tt; named = h.named; unspent = h.unspent; spent = λ e. back e (h.spent e); unchanged = h.unchanged }

-- what is within a room of the world is within its limits
within_limits : (room : ℕ) (w next : WorldState) → length w.sent + room ≤ MESSAGES_LIMIT → IsWithinRoom room w next → IsWithinLimits next
within_limits room w next few h = record { in_number = (let number = h.in_number in omega arith); in_weight = h.in_weight }

module _ (turn : Turn) (w new : WorldState) (outcome : Outcome) where
  -- a turn that wasn't spent in less room
  pub turned_within : (room : ℕ) → length w.sent + room ≤ MESSAGES_LIMIT → outcome ≢ Err Spent → TurnsWithin room turn w new outcome → Turns turn w new outcome
  turned_within room few unspent h = λ is.
      other_bound (IsWithinRoom room w (turn_after w turn is)) (IsWithinLimits (turn_after w turn is)) (turn_after w turn is) (turn_refusal w turn is) w new outcome
      (within_limits room w (turn_after w turn is) few) (λ e not_there. absurd (unspent e)) (h is)

  -- a turn in all the room that is left
  pub turned_whole : (left : ℕ) → IsRoom w left → TurnsWithin left turn w new outcome → Turns turn w new outcome
  turned_whole left is_left h = λ is.
      other_bound (IsWithinRoom left w (turn_after w turn is)) (IsWithinLimits (turn_after w turn is)) (turn_after w turn is) (turn_refusal w turn is) w new outcome
      (within_limits left w (turn_after w turn is) is_left.may)
      (λ e not_there fits. not_there (room_of_limits left w turn is is_left fits)) (h is)

  pub turn_happens : (event : WorldEvent) → IsTurnOf w event turn → Turns turn w new outcome → Happens event w new outcome
  turn_happens event t h =
      subst (λ (next : WorldState). HappensIn (IsWithinLimits next) next (refusal w event) w new outcome) (sym t.next)
      (subst (λ (reason : Option EventRefused). HappensIn (IsWithinLimits (turn_after w turn t.is)) (turn_after w turn t.is) reason w new outcome) (sym t.reason) (h t.is))
