use Rattle.std.proofs.Common.{◌+◌, ◌*◌}
use Rattle.pending_log_bench.specs.Fresh.{IsFresh}
use Rattle.pending_log_bench.proofs.find_rounds.Given as goal

abbrev pub invariant-loop-batch : goal.invariant-loop-batch
invariant-loop-batch l = IsFresh (1 + 64 * l.batch) l.log
