use Rattle.std.proofs.Common.{◌≡◌, take, sum_by}
use Rattle.lazy_msgs.specs.Weight.{capped, cell_weight}
use Rattle.lazy_msgs.proofs.weights.cells_weight.Given as goal

abbrev pub invariant-loop-cell : goal.invariant-loop-cell
invariant-loop-cell l = l.sum ≡ capped (sum_by cell_weight (take l.cell-index l.cell-items))
