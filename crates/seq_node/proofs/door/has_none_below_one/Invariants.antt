use Rattle.std.proofs.Common.{◌≡◌, ◌-◌, ◌<◌, ◌≤◌}
use Rattle.lazy_rules.specs.Door.{has_none_below_one}
use Rattle.seq_node.proofs.door.has_none_below_one.Given as goal

abbrev pub invariant-loop-i : goal.invariant-loop-i
invariant-loop-i l = record {
  same : has_none_below_one l.marks 0 l.window ≡ has_none_below_one l.marks l.i (l.window - l.i);
  above : l.i < l.window → l.marks.top ≤ l.i;
  within : l.i ≤ l.window;
}

abbrev pub decreases-loop-i : goal.decreases-loop-i
decreases-loop-i l = l.window - l.i
