use Rattle.std.proofs.Common.{◌+◌}
use Rattle.pending_log_bench.specs.Fresh.{IsFresh}
use Rattle.pending_log_bench.proofs.push_batch.Given as goal

abbrev pub invariant-loop-i : goal.invariant-loop-i
invariant-loop-i l = IsFresh (l.first + l.i) l.log
