use Rattle.std.specs.Prelude.{length, Bool, not, ◌&&◌, nat_le}
use Rattle.std.specs.Option.{is_none}
use Rattle.lazy_msgs.specs.declared.input.WorldEvent.{WorldEvent}
use Rattle.lazy_rules.specs.WorldState.{WorldState}
use Rattle.lazy_rules.specs.WorldRules.{after, refusal, sent_weight}
use Rattle.lazy_rules.specs.declared.limits.TheConstants.{MESSAGES_LIMIT, WEIGHT_LIMIT}

-- Whether an event would pass the world's own limits on messages, as a test.

-- the messages of the world are within its limits
abbrev pub is_within : WorldState → Bool
is_within w = nat_le (length w.sent) MESSAGES_LIMIT && nat_le (sent_weight w.sent) WEIGHT_LIMIT

-- the event isn't refused, but the world would send more than it may
abbrev pub is_spent : WorldState → WorldEvent → Bool
is_spent w event = is_none (refusal w event) && not (is_within (after w event))
