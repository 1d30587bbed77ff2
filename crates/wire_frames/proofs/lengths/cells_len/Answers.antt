use Rattle.lazy_msgs.specs.Frame.{cell_form}
use Rattle.wire_frames.proofs.FieldLengths.{length-list_form}
use Rattle.wire_frames.proofs.lengths.cells_len.Goals as goal

pub returns-clause-exact : goal.returns-clause-exact
returns-clause-exact c =
    length-list_form (cell_form c.args.edition) c.args.cells.now c.as_slice-cell-items.result.now c.loop-cell.cell-index _ c.as_slice-cell-items.ensures c.loop-cell-test.false c.loop-cell.invariant.so_far
