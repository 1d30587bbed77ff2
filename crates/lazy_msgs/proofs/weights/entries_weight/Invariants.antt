use Rattle.std.proofs.Common.{◌≡◌, take, sum_by}
use Rattle.lazy_msgs.specs.Weight.{capped, entry_weight}
use Rattle.lazy_msgs.proofs.weights.entries_weight.Given as goal

abbrev pub invariant-loop-placed : goal.invariant-loop-placed
invariant-loop-placed l = l.sum ≡ capped (sum_by (λ placed. entry_weight placed.1) (take l.placed-index l.placed-items))
