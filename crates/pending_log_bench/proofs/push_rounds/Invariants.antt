use Rattle.std.proofs.Common.{◌≤◌}
use Rattle.pending_log_bench.specs.Fresh.{IsFresh}
use Rattle.pending_log_bench.proofs.push_rounds.Given as goal

abbrev pub invariant-loop-round : goal.invariant-loop-round
invariant-loop-round l = (1 ≤ l.next) × IsFresh l.next l.log
