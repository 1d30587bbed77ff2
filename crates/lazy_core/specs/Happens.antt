use Rattle.std.specs.Prelude.{◌≡◌, ◌≢◌, ℕ, ◌+◌, ◌*◌, ◌≤◌, ◌<◌, ◌⊎◌, length, Option, Some, None, Err, OnOk, OnErr, IfErr}
use Rattle.lazy_msgs.specs.declared.input.WorldEvent.{WorldEvent}
use Rattle.lazy_msgs.specs.declared.refused.EventRefused.{EventRefused}
use Rattle.lazy_msgs.specs.declared.refused.EventRefused.TheVariants.{Spent, Memory}
use Rattle.lazy_rules.specs.WorldRules.{IsWithinLimits, after, refusal, sent_weight}
use Rattle.lazy_rules.specs.WorldState.{WorldState}
use Rattle.lazy_msgs.specs.declared.limits.TheConstants.{MESSAGE_WEIGHT}
use Rattle.lazy_rules.specs.declared.limits.TheConstants.{MESSAGES_LIMIT, WEIGHT_LIMIT}
use Rattle.lazy_core.specs.declared.turns.Turn.{Turn}
use Rattle.lazy_core.specs.NodeCall.{Outcome}
use Rattle.lazy_core.specs.Turning.{IsTurnIn, turn_after, turn_refusal}

-- so many messages more were sent at most, and all weigh no more than a world's may
pub record IsWithinRoom (room : ℕ) (before next : WorldState) : Type 0 where
  pub in_number : length next.sent ≤ length before.sent + room
  pub in_weight : sent_weight next.sent ≤ WEIGHT_LIMIT

-- so many messages more may be sent, and whatever world may be behind this one sent no more than these
pub record IsRoom (w : WorldState) (room : ℕ) : Type 0 where
  pub may : length w.sent + room ≤ MESSAGES_LIMIT
  pub most : (length w.sent + room ≡ MESSAGES_LIMIT) ⊎ (WEIGHT_LIMIT < sent_weight w.sent + MESSAGE_WEIGHT * (room + 1))

-- an event happened as the rules give it, or was refused and left all as it was: for the reason that
-- the rules give, or as spent where it would have sent more than `Fits` lets it
pub record HappensIn (Fits : Type 0) (next : WorldState) (reason : Option EventRefused) (before after : WorldState) (outcome : Outcome) : Type 0 where
  pub happened : OnOk outcome (after ≡ next)
  pub allowed : OnOk outcome (reason ≡ None)
  pub within : OnOk outcome Fits
  pub named : IfErr outcome (λ refused. refused ≢ Spent → refused ≢ Memory → reason ≡ Some refused)
  pub unspent : outcome ≡ Err Spent → reason ≡ None
  pub spent : outcome ≡ Err Spent → ¬ Fits
  pub unchanged : OnErr outcome (after ≡ before)

-- an event happened as the rules give it, or was refused, spent where a world may not hold what it sends
abbrev pub Happens : WorldEvent → WorldState → WorldState → Outcome → Type 0
Happens event old new outcome = HappensIn (IsWithinLimits (after old event)) (after old event) (refusal old event) old new outcome

-- a turn, spent where it would send more than so many messages
abbrev pub TurnsWithin : ℕ → (turn : Turn) → WorldState → WorldState → Outcome → Type 0
TurnsWithin room turn old new outcome = (is : IsTurnIn old turn) → HappensIn (IsWithinRoom room old (turn_after old turn is)) (turn_after old turn is) (turn_refusal old turn is) old new outcome

-- a turn, spent where a world may not hold what it sends
abbrev pub Turns : (turn : Turn) → WorldState → WorldState → Outcome → Type 0
Turns turn old new outcome = (is : IsTurnIn old turn) → HappensIn (IsWithinLimits (turn_after old turn is)) (turn_after old turn is) (turn_refusal old turn is) old new outcome
