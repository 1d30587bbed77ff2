use Rattle.std.proofs.Common.{◌≡◌, ◌++◌, length, take}
use Rattle.std.specs.List.{flat_map}
use Rattle.lazy_msgs.specs.Frame.{two, marks_form}
use Rattle.wire_frames.proofs.writing.lists.put_window.Given as goal

abbrev pub invariant-loop-marks : goal.invariant-loop-marks
invariant-loop-marks l = l.out.items ≡ l.fn.out.items ++ two (length l.marks-items) ++ flat_map marks_form (take l.marks-index l.marks-items)
