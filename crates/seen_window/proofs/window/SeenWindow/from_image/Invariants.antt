use Rattle.std.proofs.Common.{◌≡◌, take}
use Rattle.seen_window.proofs.window.SeenWindow.from_image.Given as goal

abbrev pub invariant-loop-marks : goal.invariant-loop-marks
invariant-loop-marks l = l.made.items ≡ take l.marks-index l.marks-items
