-- The limits of a world, as a test.
use Rattle.std.proofs.Common.{◌≡◌, length, Bool, true, false, refl}
use Rattle.std.specs.Prelude.{nat_le}
use Rattle.std.proofs.lemmas.Bool.{and_parts, and_from, leb-true, le-leb}
use Rattle.lazy_rules.specs.WorldRules.{IsWithinLimits, sent_weight}
use Rattle.lazy_rules.specs.WorldState.{WorldState}
use Rattle.lazy_rules.specs.declared.limits.TheConstants.{MESSAGES_LIMIT, WEIGHT_LIMIT}
use Rattle.lazy_core.specs.Spending.{is_within}

pub within_true : (w : WorldState) → IsWithinLimits w → is_within w ≡ true
within_true w h = and_from (nat_le (length w.sent) MESSAGES_LIMIT) (nat_le (sent_weight w.sent) WEIGHT_LIMIT) (le-leb (length w.sent) MESSAGES_LIMIT h.in_number) (le-leb (sent_weight w.sent) WEIGHT_LIMIT h.in_weight)

true_within : (w : WorldState) → is_within w ≡ true → IsWithinLimits w
true_within w h =
    let parts = and_parts (nat_le (length w.sent) MESSAGES_LIMIT) (nat_le (sent_weight w.sent) WEIGHT_LIMIT) h in
    record { in_number = leb-true (length w.sent) MESSAGES_LIMIT parts.0; in_weight = leb-true (sent_weight w.sent) WEIGHT_LIMIT parts.1 }

pub beyond_false : (w : WorldState) → ¬ IsWithinLimits w → is_within w ≡ false
beyond_false w h = by (is_within w) refl
  where
    by : (b : Bool) → is_within w ≡ b → b ≡ false
    by true e = absurd (h (true_within w e))
    by false e = refl
