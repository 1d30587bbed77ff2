use Rattle.std.proofs.Common.{◌≡◌, length, ◌≤◌}
use Rattle.log_law.specs.Keys.{IsIndexed}
use Rattle.log_law.proofs.index.KeyIndex.of.Given as goal

abbrev pub invariant-loop-i : goal.invariant-loop-i
invariant-loop-i l = record {
  within : l.i ≤ length l.keys.items;
  all : l.count ≡ length l.keys.items;
  indexed : IsIndexed l.keys.items l.i l.firsts l.nexts.items;
}

abbrev pub decreases-loop-i : goal.decreases-loop-i
decreases-loop-i l = l.i
