use Rattle.std.proofs.Common.{arith}
use Rattle.lane_scan.proofs.Counts.{one_fits}
use Rattle.lane_scan.proofs.count.count_bits.Goals as goal

pub overflow_add-total : goal.overflow_add-total
overflow_add-total c =
    rw c.from-total.ensures (one_fits c.args.words.now c.type_inv.words c.requires c.loop-word.word-index c.loop-word.total (omega arith) c.loop-word.invariant)
