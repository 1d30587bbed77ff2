use Rattle.std.proofs.Common.{sym, ap, ◌∙◌, arith}
use Rattle.std.specs.Prelude.{option_map, slice_get}
use Rattle.lazy_rules.specs.Flight.{batch_end}
use Rattle.lazy_rules.specs.SeqRules.{has_positions}
use Rattle.lazy_rules.specs.SeqState.{SeqState}
use Rattle.seq_node.specs.Batches.{IsWithin}
use Rattle.seq_node.specs.NodeView.{seq_of}
use Rattle.seq_node.proofs.Beginning.{within_flight}
use Rattle.seq_node.proofs.Leaving.{seen_end}
use Rattle.seq_node.proofs.node.SeqNode.end_of.Goals as goal

pub overflow_add-result : goal.overflow_add-result
overflow_add-result c =
    let is : IsWithin (seq_of c.self.inside) c.batch-batch.result.from c.batch-batch.result.count =
    within_flight (seq_of c.self.inside) _ _ _ c.self.invariant (ap has_positions c.self.view_is ∙ c.requires.fits) c.flight.ensures.sound c.args.i c.batch-batch.result c.batch-batch.ensures in
    omega (arith, is.ends, is.fits)

pub returns : goal.returns
returns c =
    sym (ap (λ (x : SeqState). option_map batch_end (slice_get x.flight c.args.i)) c.self.view_is)
    ∙ seen_end (seq_of c.self.inside).flight c.args.i c.batch-batch.result c.batch-batch.ensures
