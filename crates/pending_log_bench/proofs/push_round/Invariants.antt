use Rattle.std.proofs.Common.{◌+◌, ◌*◌}
use Rattle.pending_log_bench.specs.Fresh.{IsFresh}
use Rattle.pending_log_bench.proofs.push_round.Given as goal

abbrev pub invariant-loop-batch : goal.invariant-loop-batch
invariant-loop-batch l = IsFresh (l.first + 64 * l.batch) l.log
