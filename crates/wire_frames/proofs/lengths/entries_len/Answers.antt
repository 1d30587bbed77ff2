use Rattle.lazy_msgs.specs.Frame.{placed_form}
use Rattle.wire_frames.proofs.FieldLengths.{length-list_form}
use Rattle.wire_frames.proofs.lengths.entries_len.Goals as goal

pub returns-clause-exact : goal.returns-clause-exact
returns-clause-exact c =
    length-list_form (placed_form c.args.edition) c.args.entries.now c.as_slice-placed-items.result.now c.loop-placed.placed-index _ c.as_slice-placed-items.ensures c.loop-placed-test.false c.loop-placed.invariant.so_far
