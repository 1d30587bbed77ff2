-- The events of a script append data that has no newline.
use Rattle.std.proofs.Common.{ℕ, ◌+◌, ◌-◌, List, [], ◌∷◌, Option, Some, None, map, arith}
use Rattle.std.specs.List.{range_with_len}
use Rattle.list_facts.specs.Lists.{Each}
use Rattle.list_facts.proofs.Cases.{either}
use Rattle.rec_id.specs.declared.event.Ask.TheVariants.{Range, Tail as TailAsk}
use Rattle.lazy_msgs.specs.declared.input.WorldEvent.{WorldEvent}
use Rattle.lazy_msgs.specs.declared.input.WorldEvent.TheVariants as world
use Rattle.lazy_rules.specs.WorldState.{WorldState}
use Rattle.lazy_rules.specs.WorldRules.{happened}
use Rattle.trace_script.specs.declared.command.Command.{Command}
use Rattle.trace_script.specs.declared.command.Command.TheVariants.{Nothing, Append, Read, Tail, Trim, Peek, Deliver, Flow, Tick, Grace, Crash, Suspect, Lines, Law, Show}
use Rattle.trace_script.specs.declared.node_word.NodeWord.{NodeWord}
use Rattle.trace_script.specs.Nodes.{node_of_word}
use Rattle.trace_script.specs.Spelling.{IsSayable}
use Rattle.trace_script.proofs.Lacks.{visible_lacks}
use Rattle.trace_script.proofs.Newlines.{IsFlat}
use Rattle.lazylog_trace.specs.Actions.{at_node}
use Rattle.lazy_core.specs.Spending.{is_spent}
use Rattle.lazylog_trace.specs.Apply.{action_events, events_of, until_spent}

abbrev pub IsPlain : WorldEvent → Type 0
IsPlain (world.Post client bytes) = IsFlat bytes
IsPlain _ = Unit {0}

plain_deliveries : (messages : List ℕ) → Each IsPlain (map world.Deliver messages)
plain_deliveries [] = tt
plain_deliveries (message ∷ messages) = (tt, plain_deliveries messages)

plain_at : (word : NodeWord) (event : ℕ → WorldEvent) (node : Option ℕ) → ((n : ℕ) → IsPlain (event n)) → Each IsPlain (action_events (at_node word event node))
plain_at word event None plain = tt
plain_at word event (Some node) plain = (plain node, tt)

-- those of a command
plain_events : (command : Command) → IsSayable command → Each IsPlain (events_of command)
plain_events Nothing h = tt
plain_events (Append client bytes) h = plain_at client (λ node. world.Post node bytes) (node_of_word client) (λ n. visible_lacks 10 (omega arith) bytes h.1)
plain_events (Read client from to) h = plain_at client (λ node. world.Ask node (Range from to)) (node_of_word client) (λ n. tt)
plain_events (Tail client from) h = plain_at client (λ node. world.Ask node (TailAsk from)) (node_of_word client) (λ n. tt)
plain_events (Trim client floor) h = plain_at client (λ node. world.Trim node floor) (node_of_word client) (λ n. tt)
plain_events (Peek client claim from to) h = plain_at client (λ node. world.Peek node claim from to) (node_of_word client) (λ n. tt)
plain_events (Deliver message) h = (tt, tt)
plain_events (Flow first last) h = plain_deliveries (range_with_len first (last + 1 - first))
plain_events (Tick word) h = plain_at word world.Tick (node_of_word word) (λ n. tt)
plain_events (Grace word) h = plain_at word world.Grace (node_of_word word) (λ n. tt)
plain_events (Crash word) h = plain_at word world.Crash (node_of_word word) (λ n. tt)
plain_events (Suspect word) h = plain_at word world.Suspect (node_of_word word) (λ n. tt)
plain_events Lines h = tt
plain_events Law h = tt
plain_events (Show message) h = tt

plain_until : (w : WorldState) (events : List WorldEvent) → Each IsPlain events → Each IsPlain (until_spent w events)
plain_until w [] h = tt
plain_until w (event ∷ events) h =
    let rest = plain_until (happened w event) events h.1 in
    either (Each IsPlain) (is_spent w event) [] (event ∷ until_spent (happened w event) events) (λ e. tt) (λ e. (h.0, rest))

-- and those of them that are tried
pub plain_tried : (w : WorldState) (command : Command) → IsSayable command → Each IsPlain (until_spent w (events_of command))
plain_tried w command h = plain_until w (events_of command) (plain_events command h)
