-- What a line of a script does is little.
use Rattle.std.proofs.Common.{ℕ, Option, Some, None, arith}
use Rattle.rec_id.specs.declared.event.Ask.TheVariants.{Range, Tail as TailAsk}
use Rattle.lazy_msgs.specs.declared.input.WorldEvent.{WorldEvent}
use Rattle.lazy_msgs.specs.declared.input.WorldEvent.TheVariants as world
use Rattle.trace_script.specs.declared.command.Command.{Command}
use Rattle.trace_script.specs.declared.command.Command.TheVariants.{Nothing, Append, Read, Tail, Trim, Peek, Deliver, Flow, Tick, Grace, Crash, Suspect, Lines, Law, Show}
use Rattle.trace_script.specs.declared.node_word.NodeWord.{NodeWord}
use Rattle.trace_script.specs.Nodes.{node_of_word}
use Rattle.trace_script.specs.Spelling.{IsSayable}
use Rattle.lazylog_trace.specs.Actions.{action_of, at_node}
use Rattle.lazylog_trace.specs.Apply.{IsOfFew}

few_at : (word : NodeWord) (event : ℕ → WorldEvent) (node : Option ℕ) → IsOfFew 128 (at_node word event node)
few_at word event None = tt
few_at word event (Some node) = tt

pub few_of : (command : Command) → IsSayable command → IsOfFew 128 (action_of command)
few_of Nothing h = tt
few_of (Append client bytes) h = few_at client (λ node. world.Post node bytes) (node_of_word client)
few_of (Read client from to) h = few_at client (λ node. world.Ask node (Range from to)) (node_of_word client)
few_of (Tail client from) h = few_at client (λ node. world.Ask node (TailAsk from)) (node_of_word client)
few_of (Trim client floor) h = few_at client (λ node. world.Trim node floor) (node_of_word client)
few_of (Peek client claim from to) h = few_at client (λ node. world.Peek node claim from to) (node_of_word client)
few_of (Deliver message) h = tt
few_of (Flow first last) h = let from = h.0 in let near = h.1 in let word = h.2 in (omega arith, omega arith)
few_of (Tick word) h = few_at word world.Tick (node_of_word word)
few_of (Grace word) h = few_at word world.Grace (node_of_word word)
few_of (Crash word) h = few_at word world.Crash (node_of_word word)
few_of (Suspect word) h = few_at word world.Suspect (node_of_word word)
few_of Lines h = tt
few_of Law h = tt
few_of (Show message) h = tt
