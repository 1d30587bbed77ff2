use Rattle.lazy_msgs.specs.declared.input.Input.TheVariants.{Tick as TickInput}
use Rattle.lazy_msgs.specs.declared.input.WorldEvent.TheVariants.{Tick}
use Rattle.lazy_core.proofs.ComesTo.{comes_to}
use Rattle.lazy_core.proofs.NodeEvents.{tick_turn}
use Rattle.lazy_core.proofs.nodes.Nodes.tick.Goals as goal

pub returns : goal.returns
returns c =
    comes_to c.args.self.now (Tick c.args.node) c.given.result (record { node = c.args.node; input = TickInput; received = 0 }) c.given.ensures
    (tick_turn c.args.self.now c.requires c.args.node c.in_ok-check_node.ensures.allowed)
