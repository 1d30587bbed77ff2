use Rattle.std.proofs.Common.{below_more, arith}
use Rattle.log_law.proofs.InvokedRecords.{invoked_past}
use Rattle.log_law.proofs.invoked.first_uninvoked.Goals as goal

pub loop-place-preserved : goal.loop-place-preserved
loop-place-preserved c = below_more _ _ c.loop-place.invariant (c.is_invoked.ensures.0 c.if-not-is_invoked.false)

pub returns : goal.returns
returns c = λ i _. invoked_past c.args.history.now c.args.line.now c.loop-place.place (omega arith) c.loop-place.invariant i
