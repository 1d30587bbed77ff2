use Rattle.std.proofs.Common.{◌≡◌, ◌-◌}
use Rattle.lazy_rules.specs.Door.{has_none_below_one}
use Rattle.view_ctl.proofs.door.has_none_below_one.Given as goal

abbrev pub invariant-loop-i : goal.invariant-loop-i
invariant-loop-i l = has_none_below_one l.marks l.i (l.count - l.i) ≡ has_none_below_one l.marks 0 l.count
