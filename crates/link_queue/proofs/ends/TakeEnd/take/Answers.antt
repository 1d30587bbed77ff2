use Rattle.link_queue.proofs.Steps.{takes_one, sees_empty}
use Rattle.link_queue.proofs.ends.TakeEnd.take.Goals as goal

pub pop_as-requires-clause-rule : goal.pop_as-requires-clause-rule
pop_as-requires-clause-rule g c = (takes_one _ _ c.self.invariant.1, sees_empty _ _ c.self.invariant.1)
