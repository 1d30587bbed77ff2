use Rattle.log_law.proofs.Joins.{MetBelow}
use Rattle.log_law.proofs.verdict.first_breach.Given as goal

abbrev pub invariant-loop-clause : goal.invariant-loop-clause
invariant-loop-clause l = MetBelow l.history l.line l.clause
