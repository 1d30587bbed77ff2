use Rattle.std.proofs.Common.{◌∙◌, ap, sym}
use Rattle.view_config.specs.Shape.{Dimensions, node_of}
use Rattle.view_config.specs.declared.nodes.TheConstants.{CONTROLLER}
use Rattle.lazy_msgs.specs.declared.input.Input.TheVariants.{Suspect as SuspectInput}
use Rattle.lazy_msgs.specs.declared.input.WorldEvent.TheVariants.{Suspect}
use Rattle.lazy_core.proofs.ComesTo.{comes_to, some_of}
use Rattle.lazy_core.proofs.NodeEvents.{suspicion_turn}
use Rattle.lazy_core.proofs.nodes.Nodes.suspicion.Goals as goal

pub returns : goal.returns
returns c =
    let found = some_of c.node.result c.if-is_none.ensures in
    comes_to c.args.self.now (Suspect c.args.node) c.given.result (record { node = CONTROLLER; input = SuspectInput c.args.node; received = 0 }) c.given.ensures
    (suspicion_turn c.args.self.now c.requires c.args.node found.0
    (ap (λ (shape : Dimensions). node_of shape c.args.node) (sym c.shape.ensures) ∙ sym c.node.ensures.node ∙ found.1))
