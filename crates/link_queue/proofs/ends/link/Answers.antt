use Rattle.std.proofs.Common.{rules}
use Rattle.link_queue.proofs.Steps.{begins, splits}
use Rattle.link_queue.proofs.ends.link.Goals as goal

pub ruled-requires-clause-rule : goal.ruled-requires-clause-rule
ruled-requires-clause-rule c = begins

pub another-takes-requires-clause-rule : goal.another-takes-requires-clause-rule
another-takes-requires-clause-rule c = splits _ _ (search rules) (search rules)
