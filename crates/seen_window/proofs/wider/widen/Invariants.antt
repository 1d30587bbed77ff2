use Rattle.std.proofs.Common.{◌≡◌, map, take}
use Rattle.seen_window.specs.Image.{widened}
use Rattle.seen_window.proofs.wider.widen.Given as goal

abbrev pub invariant-loop-marks : goal.invariant-loop-marks
invariant-loop-marks l = l.made.items ≡ map widened (take l.marks-index l.marks-items)
