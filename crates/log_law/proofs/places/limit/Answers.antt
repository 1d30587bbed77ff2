use Rattle.std.proofs.Common.{rules, arith}
use Rattle.log_law.proofs.Heights.{limit_found, limit_none}
use Rattle.log_law.proofs.places.limit.Goals as goal

pub returns-then-place-len : goal.returns-then-place-len
returns-then-place-len c = limit_found _ _ _ c.first-place.ensures (omega arith) (search rules)

pub returns : goal.returns
returns c = limit_none _ _ _ c.first-place.ensures (search rules)
