use Rattle.std.proofs.Common.{◌≡◌, take, sum_by}
use Rattle.lazy_msgs.specs.Weight.{capped, marks_weight}
use Rattle.lazy_msgs.proofs.weights.window_weight.Given as goal

abbrev pub invariant-loop-marks : goal.invariant-loop-marks
invariant-loop-marks l = l.sum ≡ capped (sum_by marks_weight (take l.marks-index l.marks-items))
