use Rattle.std.proofs.Common.{◌≡◌, take, sum_by}
use Rattle.lazy_msgs.specs.Weight.{capped, item_weight}
use Rattle.lazy_msgs.proofs.weights.items_weight.Given as goal

abbrev pub invariant-loop-item : goal.invariant-loop-item
invariant-loop-item l = l.sum ≡ capped (sum_by item_weight (take l.item-index l.item-items))
