use Rattle.std.proofs.Common.{arith}
use Rattle.rec_id.specs.Verdict.{IsMetAt}
use Rattle.log_law.specs.Verdicts.{clause_of}
use Rattle.log_law.proofs.Joins.{found_first, broken_as, broken_within, all_met}
use Rattle.log_law.proofs.verdict.first_breach.Goals as goal

pub returns-in-Some-clause-told : goal.returns-in-Some-clause-told
returns-in-Some-clause-told c =
    let found = found_first (IsMetAt (clause_of c.loop-clause.clause) c.args.history.now c.args.line.now) c.in_ok-pair.field-0 c.in-Some.pair c.in-Some.is c.in_ok-pair.ensures in
    broken_as c.args.history.now c.args.line.now c.loop-clause.clause c.in-Some.pair.0 c.in-Some.pair.1 (omega arith) (omega arith) c.loop-clause.invariant found

pub returns-in-Some-clause-within : goal.returns-in-Some-clause-within
returns-in-Some-clause-within c =
    let found = found_first (IsMetAt (clause_of c.loop-clause.clause) c.args.history.now c.args.line.now) c.in_ok-pair.field-0 c.in-Some.pair c.in-Some.is c.in_ok-pair.ensures in
    broken_within c.args.history.now c.args.line.now c.requires.history c.requires.line c.loop-clause.clause c.in-Some.pair.0 c.in-Some.pair.1 (omega arith) (omega arith) c.loop-clause.invariant found

pub returns-clause-told : goal.returns-clause-told
returns-clause-told c = all_met c.args.history.now c.args.line.now (λ other lt. c.loop-clause.invariant other (omega arith))
