use Rattle.std.specs.Prelude.{◌≡◌, ℕ, ◌+◌, ◌-◌, ◌++◌, List, [], max, slice_index, slice_set}
use Rattle.rec_id.specs.declared.event.Event.{Event}
use Rattle.lazy_msgs.specs.declared.msg.Envelope.{Envelope}
use Rattle.lazy_msgs.specs.declared.msg.Msg.{Msg}
use Rattle.lazy_msgs.specs.Outbox.{Out}
use Rattle.lazy_rules.specs.WorldRules.{enveloped, sent_weight}
use Rattle.lazy_rules.specs.declared.limits.TheConstants.{WEIGHT_LIMIT}

-- what happened in a world, and for how many messages and events more there is memory
pub record LedgerState : Type 0 where
  pub times : List ℕ
  pub sent : List Envelope
  pub history : List Event
  pub events : ℕ
  pub message_room : ℕ
  pub event_room : ℕ

-- nothing happened
pub record Keeps (before after : LedgerState) : Type 0 where
  pub times : after.times ≡ before.times
  pub sent : after.sent ≡ before.sent
  pub history : after.history ≡ before.history
  pub events : after.events ≡ before.events

-- an outbox for a step that sends so many messages at most
abbrev pub outbox_for : LedgerState → ℕ → Out
outbox_for ledger room = record { sends = []; events = []; messages_left = room; weight_left = WEIGHT_LIMIT - sent_weight ledger.sent }

-- the time of a step of this node that receives a message of this time
abbrev pub time_of_step : LedgerState → ℕ → ℕ → ℕ
time_of_step ledger node received = max (slice_index ledger.times node) received + 1

-- one step of this node happened, which sent and told this
pub record Adds (node received : ℕ) (sends : List (ℕ × Msg)) (told : List Event) (before after : LedgerState) : Type 0 where
  pub times : after.times ≡ slice_set before.times node (time_of_step before node received)
  pub sent : after.sent ≡ before.sent ++ enveloped node (time_of_step before node received) sends
  pub history : after.history ≡ before.history ++ told
  pub events : after.events ≡ before.events + 1
