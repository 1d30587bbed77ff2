use Rattle.std.proofs.Common.{◌≡◌, take}
use Rattle.lazy_rules.specs.Items.{items_for}
use Rattle.view_ctl.proofs.flush.items_for.Given as goal

abbrev pub invariant-loop-i : goal.invariant-loop-i
invariant-loop-i l = l.made.items ≡ items_for l.shape l.shard l.from (take l.i l.items)
