use Rattle.std.proofs.Common.{◌≡◌, ℕ, subst, IfOk, arith}
use Rattle.rec_id.specs.Verdict.{Clause, trims, IsMetAt}
use Rattle.log_law.specs.Pairs.{IsFound}
use Rattle.log_law.specs.Verdicts.{clause_of}
use Rattle.log_law.proofs.Joins.{clause_else}
use Rattle.log_law.proofs.verdict.clause_breach.Goals as goal

pub returns-then-clause-eq2 : goal.returns-then-clause-eq2
returns-then-clause-eq2 c =
    let e : 2 ≡ c.args.clause = omega arith in
    subst (λ (n : ℕ). IfOk c.invoked_breach.result (IsFound (IsMetAt (clause_of n) c.args.history.now c.args.line.now))) e c.invoked_breach.ensures

pub returns-then-clause-eq3 : goal.returns-then-clause-eq3
returns-then-clause-eq3 c =
    let e : 3 ≡ c.args.clause = omega arith in
    subst (λ (n : ℕ). IfOk c.finished_breach.result (IsFound (IsMetAt (clause_of n) c.args.history.now c.args.line.now))) e c.finished_breach.ensures

pub returns-then-clause-eq5 : goal.returns-then-clause-eq5
returns-then-clause-eq5 c =
    let e : 5 ≡ c.args.clause = omega arith in
    subst (λ (n : ℕ). IfOk c.slices_breach.result (IsFound (IsMetAt (clause_of n) c.args.history.now c.args.line.now))) e c.slices_breach.ensures

pub returns : goal.returns
returns c =
    let e : trims ≡ clause_of c.args.clause = clause_else c.args.clause c.if-clause-eq1.false c.if-clause-eq2.false c.if-clause-eq3.false c.if-clause-eq4.false c.if-clause-eq5.false c.if-clause-eq6.false c.if-clause-eq7.false c.if-clause-eq8.false in
    subst (λ (x : Clause). IfOk c.trims_breach.result (IsFound (IsMetAt x c.args.history.now c.args.line.now))) e c.trims_breach.ensures
