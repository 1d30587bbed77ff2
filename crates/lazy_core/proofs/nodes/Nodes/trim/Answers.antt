use Rattle.lazy_msgs.specs.declared.input.Input.TheVariants.{Trim as TrimInput}
use Rattle.lazy_msgs.specs.declared.input.WorldEvent.TheVariants.{Trim}
use Rattle.lazy_core.proofs.ClientEvents.{trim_refused, trim_turn}
use Rattle.lazy_core.proofs.ComesTo.{client_comes_to}
use Rattle.lazy_core.proofs.nodes.Nodes.trim.Goals as goal

pub returns : goal.returns
returns c =
    client_comes_to c.args.self.now (Trim c.args.c c.args.floor) c.args.c (record { node = c.args.c; input = TrimInput c.args.floor; received = 0 }) c.client_turn.result
    c.client_turn.ensures.turn c.client_turn.ensures.allowed c.client_turn.ensures.refused c.client_turn.ensures.named
    (λ free. trim_turn c.args.self.now c.requires c.args.c free c.args.floor)
    (λ e refused. trim_refused c.args.self.now c.args.c e refused c.requires c.args.floor)
