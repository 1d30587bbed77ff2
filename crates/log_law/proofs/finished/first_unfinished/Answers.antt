use Rattle.std.proofs.Common.{below_more, arith}
use Rattle.log_law.proofs.Finishes.{finished_past}
use Rattle.log_law.proofs.finished.first_unfinished.Goals as goal

pub loop-j-preserved : goal.loop-j-preserved
loop-j-preserved c = below_more _ _ c.loop-j.invariant (c.is_finished.ensures.0 c.if-not-is_finished.false)

pub returns : goal.returns
returns c = λ i _. finished_past c.args.history.now c.args.line.now c.loop-j.j (omega arith) c.loop-j.invariant i
