use Rattle.std.specs.Prelude.{◌≡◌, ℕ, ◌+◌, ◌^◌, ◌≤◌, List, [], ◌∷◌, ◌++◌, length, map, drop, if◌then◌else◌, Bool, true, false, Option, Some, None}
use Rattle.std.specs.List.{range_with_len}
use Rattle.lazy_msgs.specs.declared.input.WorldEvent.{WorldEvent}
use Rattle.lazy_msgs.specs.declared.input.WorldEvent.TheVariants.{Deliver as DeliverEvent}
use Rattle.lazy_msgs.specs.declared.refused.EventRefused.{EventRefused}
use Rattle.lazy_rules.specs.Holders.{holders}
use Rattle.lazy_rules.specs.WorldState.{WorldState}
use Rattle.lazy_rules.specs.WorldRules.{happened, refusal}
use Rattle.lazy_core.specs.Spending.{is_spent}
use Rattle.trace_script.specs.declared.command.Command.{Command}
use Rattle.trace_script.specs.RefusalTexts.{refused_text, no_node_text}
use Rattle.lazylog_trace.specs.declared.action.Action.{Action}
use Rattle.lazylog_trace.specs.declared.action.Action.TheVariants.{Nothing, Event, NoNode, Deliveries, Holders, Message}
use Rattle.lazylog_trace.specs.declared.apply.Outcome.{Outcome}
use Rattle.lazylog_trace.specs.declared.apply.Outcome.TheVariants.{Through, Spent}
use Rattle.lazylog_trace.specs.Actions.{action_of}
use Rattle.script_streams.specs.Texts.{with_newline}
use Rattle.lazylog_trace.specs.Shown.{event_texts, holder_texts, message_shown}

-- A command is applied to a world as events, and prints texts: of the refusal of its event, of what it asks to see,
-- and of what the history gained.

-- The events.

-- where a list of events led to: past all of them, or to one that is spent
pub record Applied : Type 0 where
  pub world : WorldState
  pub spent : Bool

abbrev pub led_to : WorldState → Bool → Applied
led_to w spent = record { world = w; spent = spent }

-- the events happen in order, refused ones are passed over, up to one that is spent
abbrev pub applied : WorldState → List WorldEvent → Applied
applied w [] = led_to w false
applied w (event ∷ events) = if is_spent w event then led_to w true else applied (happened w event) events

-- the events that are tried so: all of them, or those before one that is spent
abbrev pub until_spent : WorldState → List WorldEvent → List WorldEvent
until_spent w [] = []
until_spent w (event ∷ events) = if is_spent w event then [] else event ∷ until_spent (happened w event) events

abbrev pub is_stop : Outcome → Bool
is_stop Through = false
is_stop Spent = true

-- the events were applied, and led to this world
pub record Applies (events : List WorldEvent) (before after_all : WorldState) (outcome : Outcome) : Type 0 where
  pub done : applied before events ≡ led_to after_all (is_stop outcome)

-- at most so many more events were accepted, the history isn't shorter, and the shape is the same
pub record Advances (most : ℕ) (before after_it : WorldState) : Type 0 where
  pub counted : after_it.events ≤ before.events + most
  pub grew : length before.history ≤ length after_it.history
  pub shaped : after_it.shape ≡ before.shape

-- so many messages are delivered, from the first one on
abbrev pub deliveries : ℕ → ℕ → List WorldEvent
deliveries first count = map DeliverEvent (range_with_len first count)

-- the events of an action
abbrev pub action_events : Action → List WorldEvent
action_events Nothing = []
action_events (Event event) = event ∷ []
action_events (NoNode word) = []
action_events (Deliveries first count) = deliveries first count
action_events (Holders asked) = []
action_events (Message number) = []

-- those that a command names
abbrev pub events_of : Command → List WorldEvent
events_of command = action_events (action_of command)

-- it delivers at most so many messages, by numbers of 32 bits
abbrev pub IsOfFew : ℕ → Action → Type 0
IsOfFew most (Deliveries first count) = (count ≤ most) × (first + count ≤ 2 ^ 32)
IsOfFew most _ = Unit {0}

-- The texts, each with its newline.

-- that of a refusal, where there is one
abbrev pub refusal_texts : Option EventRefused → List (List ℕ)
refusal_texts None = []
refusal_texts (Some refused) = with_newline (refused_text refused) ∷ []

-- those of an action; deliveries pass refusals over
abbrev pub action_texts : WorldState → Action → List (List ℕ)
action_texts w Nothing = []
action_texts w (Event event) = refusal_texts (refusal w event)
action_texts w (NoNode word) = with_newline (no_node_text word) ∷ []
action_texts w (Deliveries first count) = []
action_texts w (Holders asked) = holder_texts w asked (holders w)
action_texts w (Message number) = with_newline (message_shown w number) ∷ []

-- those that a command prints of itself
abbrev pub own_texts : WorldState → Command → List (List ℕ)
own_texts w command = action_texts w (action_of command)

-- all that a command prints when it led to this world: its own texts, and those of what the history gained
abbrev pub command_texts : WorldState → Command → WorldState → List (List ℕ)
command_texts before command after_all = own_texts before command ++ event_texts (drop (length before.history) after_all.history)
