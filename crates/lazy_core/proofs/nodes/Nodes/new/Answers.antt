use Rattle.lazy_core.proofs.FirstStates.{first_world_made}
use Rattle.lazy_core.proofs.nodes.Nodes.new.Goals as goal

pub returns : goal.returns
returns c =
    first_world_made c.args.shape.now c.in_ok-first.field-0 c.in_ok-new.field-0 c.in_ok-first.ensures c.in_ok-new.ensures.times c.in_ok-new.ensures.sent c.in_ok-new.ensures.history c.in_ok-new.ensures.events
