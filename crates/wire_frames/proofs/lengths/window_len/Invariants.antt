use Rattle.std.proofs.Common.{◌≡◌, ◌+◌, ◌*◌, ◌≤◌, length, take}
use Rattle.std.specs.List.{flat_map}
use Rattle.lazy_msgs.specs.Frame.{marks_form}
use Rattle.wire_frames.specs.declared.sizes.TheConstants.{MARKS_MOST}
use Rattle.wire_frames.proofs.lengths.window_len.Given as goal

abbrev pub invariant-loop-marks : goal.invariant-loop-marks
invariant-loop-marks l = record {
  so_far : l.sum ≡ 2 + length (flat_map marks_form (take l.marks-index l.marks-items));
  bounded : l.sum ≤ MARKS_MOST * l.marks-index + 2;
}
