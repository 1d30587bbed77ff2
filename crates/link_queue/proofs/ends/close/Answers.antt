use Rattle.std.proofs.Common.{rules}
use Rattle.link_queue.proofs.Steps.{joins, sees_between}
use Rattle.link_queue.proofs.ends.close.Goals as goal

pub absorb-requires-clause-rule : goal.absorb-requires-clause-rule
absorb-requires-clause-rule g c = joins _ _ _ _ (search rules) (search rules)

pub len_as-requires-clause-rule : goal.len_as-requires-clause-rule
len_as-requires-clause-rule g c = sees_between _ _ (search rules) (search rules)
