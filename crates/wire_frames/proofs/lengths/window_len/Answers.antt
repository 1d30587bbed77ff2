use Rattle.lazy_msgs.specs.Frame.{marks_form}
use Rattle.wire_frames.proofs.FieldLengths.{length-list_form}
use Rattle.wire_frames.proofs.lengths.window_len.Goals as goal

pub returns-clause-exact : goal.returns-clause-exact
returns-clause-exact c =
    length-list_form marks_form c.args.window.now c.as_slice-marks-items.result.now c.loop-marks.marks-index _ c.as_slice-marks-items.ensures c.loop-marks-test.false c.loop-marks.invariant.so_far
