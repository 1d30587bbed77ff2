use Rattle.std.specs.Prelude.{ℕ, ◌+◌, ◌-◌, Option, Some, None}
use Rattle.rec_id.specs.declared.event.Ask.TheVariants.{Range, Tail}
use Rattle.lazy_msgs.specs.declared.input.WorldEvent.{WorldEvent}
use Rattle.lazy_msgs.specs.declared.input.WorldEvent.TheVariants as world
use Rattle.trace_script.specs.declared.command.Command.{Command}
use Rattle.trace_script.specs.declared.command.Command.TheVariants as say
use Rattle.trace_script.specs.declared.node_word.NodeWord.{NodeWord}
use Rattle.trace_script.specs.Nodes.{node_of_word}
use Rattle.lazylog_trace.specs.declared.action.Asked.TheVariants.{Line, Verdict}
use Rattle.lazylog_trace.specs.declared.action.Action.{Action}
use Rattle.lazylog_trace.specs.declared.action.Action.TheVariants.{Nothing, Event, NoNode, Deliveries, Holders, Message}

-- What a command does.

-- an event of a node by its word, which may be one whose number no node has
abbrev pub at_node : NodeWord → (ℕ → WorldEvent) → Option ℕ → Action
at_node word event None = NoNode word
at_node word event (Some node) = Event (event node)

abbrev pub event_at : NodeWord → (ℕ → WorldEvent) → Action
event_at word event = at_node word event (node_of_word word)

abbrev pub action_of : Command → Action
action_of say.Nothing = Nothing
action_of (say.Append client bytes) = event_at client (λ node. world.Post node bytes)
action_of (say.Read client from to) = event_at client (λ node. world.Ask node (Range from to))
action_of (say.Tail client from) = event_at client (λ node. world.Ask node (Tail from))
action_of (say.Trim client floor) = event_at client (λ node. world.Trim node floor)
action_of (say.Peek client claim from to) = event_at client (λ node. world.Peek node claim from to)
action_of (say.Deliver message) = Event (world.Deliver message)
action_of (say.Flow first last) = Deliveries first (last + 1 - first)
action_of (say.Tick word) = event_at word world.Tick
action_of (say.Grace word) = event_at word world.Grace
action_of (say.Crash word) = event_at word world.Crash
action_of (say.Suspect word) = event_at word world.Suspect
action_of say.Lines = Holders Line
action_of say.Law = Holders Verdict
action_of (say.Show message) = Message message
