use Rattle.lazylog_trace.proofs.Events.{after_so}
use Rattle.lazylog_trace.proofs.apply.apply_event.Goals as goal

pub returns-in-Ok-clause-advances : goal.returns-in-Ok-clause-advances
returns-in-Ok-clause-advances c = rw c.in-Ok.ensures.happens.happened (after_so c.args.world.now c.args.event.now)
