use Rattle.std.proofs.Common.{ap, subst, ◌∙◌}
use Rattle.lazy_rules.specs.SeqRules.{has_positions}
use Rattle.lazy_rules.specs.SeqState.{SeqState}
use Rattle.seq_node.specs.NodeView.{seq_of}
use Rattle.seq_node.specs.Batches.{IsWithin}
use Rattle.seq_node.proofs.Beginning.{within_flight}
use Rattle.seq_node.proofs.node.SeqNode.add_place_again.Goals as goal

pub add_place-requires-clause-within : goal.add_place-requires-clause-within
add_place-requires-clause-within c =
    subst (λ (x : SeqState). IsWithin x c.batch-batch.result.from c.batch-batch.result.count) c.self.view_is
    (within_flight (seq_of c.self.inside) _ _ _ c.self.invariant (ap has_positions c.self.view_is ∙ c.requires.fits) c.flight.ensures.sound c.args.i c.batch-batch.result c.batch-batch.ensures)
