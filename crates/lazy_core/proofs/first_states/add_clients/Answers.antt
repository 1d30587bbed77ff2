use Rattle.std.proofs.Common.{◌∙◌, ap}
use Rattle.lazy_rules.specs.ClientState.{first_client}
use Rattle.lazy_core.specs.declared.node_state.NodeState.TheVariants.{Client}
use Rattle.lazy_core.specs.Standing.{first_client_node}
use Rattle.lazy_core.proofs.Walks.{made_more}
use Rattle.lazy_core.proofs.first_states.add_clients.Goals as goal

pub loop-c-preserved : goal.loop-c-preserved
loop-c-preserved c =
    c.in_ok-push.ensures.items
    ∙ made_more (first_client_node c.args.shape.now) c.args.states.now.items c.loop-c.states.items c.loop-c.c (Client c.in_ok-appends.appends c.in_ok-reads.reads) c.loop-c.invariant
    (ap (λ a. Client a c.in_ok-reads.reads) c.in_ok-appends.ensures ∙ ap (Client (first_client c.args.shape.now c.loop-c.c)) c.in_ok-reads.ensures)
