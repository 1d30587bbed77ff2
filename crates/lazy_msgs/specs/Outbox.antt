use Rattle.std.specs.Prelude.{ℕ, ◌+◌, ◌-◌, ◌≤◌, List, [], ◌++◌, length, take, drop}
use Rattle.rec_id.specs.declared.event.Event.{Event}
use Rattle.lazy_msgs.specs.declared.msg.Msg.{Msg}
use Rattle.lazy_msgs.specs.Weight.{sends_weight}

-- what was sent (to whom, and what) and told, and the room that is left
pub record Out : Type 0 where
  pub sends : List (ℕ × Msg)
  pub events : List Event
  pub messages_left : ℕ
  pub weight_left : ℕ

-- there is room for these messages
pub record Fits (sends : List (ℕ × Msg)) (out : Out) : Type 0 where
  pub in_number : length sends ≤ out.messages_left
  pub in_weight : sends_weight sends ≤ out.weight_left

-- the outbox with more messages and events
abbrev pub put_on : Out → List (ℕ × Msg) → List Event → Out
put_on out sends events = record {
  sends = out.sends ++ sends;
  events = out.events ++ events;
  messages_left = out.messages_left - length sends;
  weight_left = out.weight_left - sends_weight sends;
}

-- the outbox with nothing in it, and with no more than its first messages and events: the room of what goes
-- is there again
abbrev pub emptied : Out → Out
emptied out = record {
  sends = [];
  events = [];
  messages_left = out.messages_left + length out.sends;
  weight_left = out.weight_left + sends_weight out.sends;
}

abbrev pub cut_to : Out → ℕ → ℕ → Out
cut_to out sends events = record {
  sends = take sends out.sends;
  events = take events out.events;
  messages_left = out.messages_left + (length out.sends - sends);
  weight_left = out.weight_left + sends_weight (drop sends out.sends);
}
