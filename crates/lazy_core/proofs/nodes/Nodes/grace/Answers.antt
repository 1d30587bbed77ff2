use Rattle.lazy_msgs.specs.declared.input.Input.TheVariants.{Grace as GraceInput}
use Rattle.lazy_msgs.specs.declared.input.WorldEvent.TheVariants.{Grace}
use Rattle.lazy_core.proofs.ComesTo.{comes_to}
use Rattle.lazy_core.proofs.NodeEvents.{grace_turn}
use Rattle.lazy_core.proofs.nodes.Nodes.grace.Goals as goal

pub returns : goal.returns
returns c =
    comes_to c.args.self.now (Grace c.args.node) c.given.result (record { node = c.args.node; input = GraceInput; received = 0 }) c.given.ensures
    (grace_turn c.args.self.now c.requires c.args.node c.in_ok-check_node.ensures.allowed)
