use Rattle.std.proofs.Common.{rules, arith}
use Rattle.log_law.proofs.Rows.{breach}
use Rattle.log_law.proofs.pairs.first_pair.Goals as goal

pub returns-clause-found : goal.returns-clause-found
returns-clause-found c = breach _ _ _ _ (let w = c.first_row-row.ensures.row.within in omega arith) c.first_row-row.ensures.row (search rules)
