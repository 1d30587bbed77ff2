use Rattle.std.proofs.Common.{◌∙◌, ap}
use Rattle.lazy_rules.specs.SeqState.{first_seq}
use Rattle.lazy_core.specs.declared.node_state.NodeState.TheVariants.{Seq}
use Rattle.lazy_core.proofs.Walks.{made_more}
use Rattle.lazy_core.proofs.first_states.add_seqs.Goals as goal

pub loop-i-preserved : goal.loop-i-preserved
loop-i-preserved c =
    c.in_ok-push.ensures.items
    ∙ made_more (λ i. Seq (first_seq c.args.shape.now i)) c.args.states.now.items c.loop-i.states.items c.loop-i.i (Seq c.in_ok-new.field-0) c.loop-i.invariant (ap Seq c.in_ok-new.ensures)
