use Rattle.lazy_msgs.specs.declared.input.Input.TheVariants.{Ask as AskInput}
use Rattle.lazy_msgs.specs.declared.input.WorldEvent.TheVariants.{Ask}
use Rattle.lazy_core.proofs.ClientEvents.{ask_refused, ask_turn}
use Rattle.lazy_core.proofs.ComesTo.{client_comes_to}
use Rattle.lazy_core.proofs.nodes.Nodes.ask.Goals as goal

pub returns : goal.returns
returns c =
    client_comes_to c.args.self.now (Ask c.args.c c.args.ask) c.args.c (record { node = c.args.c; input = AskInput c.args.ask; received = 0 }) c.client_turn.result
    c.client_turn.ensures.turn c.client_turn.ensures.allowed c.client_turn.ensures.refused c.client_turn.ensures.named
    (λ free. ask_turn c.args.self.now c.requires c.args.c free c.args.ask)
    (λ e refused. ask_refused c.args.self.now c.args.c e refused c.requires c.args.ask)
