use Rattle.std.proofs.Common.{drop, ◌↔◌}
use Rattle.std.specs.List.{AllByRecursion}
use Rattle.lazy_msgs.specs.FrameLimits.{MarksFit}
use Rattle.wire_frames.proofs.limits.each_marks_fit.Given as goal

-- the clients so far fit, so all depends on the rest
abbrev pub invariant-loop-marks : goal.invariant-loop-marks
invariant-loop-marks l = AllByRecursion (MarksFit l.edition) (drop l.marks-index l.marks-items) ↔ AllByRecursion (MarksFit l.edition) l.fn.window
