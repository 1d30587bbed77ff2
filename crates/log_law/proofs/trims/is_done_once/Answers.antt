use Rattle.std.proofs.Common.{ℕ, List, Option, subst, arith}
use Rattle.law_cases.proofs.Decide.{no_decides}
use Rattle.log_law.specs.Keys.{IsNext}
use Rattle.log_law.proofs.ReadEnds.{done_before, done_decides}
use Rattle.log_law.proofs.trims.is_done_once.Goals as goal

pub returns-then-first-j : goal.returns-then-first-j
returns-then-first-j c =
    let first = subst (λ (ks : List (Option (ℕ × ℕ))). IsNext ks 0 c.args.key c.first.result) c.requires.done c.first.ensures in
    no_decides (done_before c.args.history.now c.args.key c.args.floor c.args.j c.first.result (omega (arith, c.requires.within)) first c.if-first-j.true)

pub returns : goal.returns
returns c =
    let first = subst (λ (ks : List (Option (ℕ × ℕ))). IsNext ks 0 c.args.key c.first.result) c.requires.done c.first.ensures in
    done_decides c.args.history.now c.args.key c.args.floor c.args.j c.first.result (omega (arith, c.requires.within)) first c.is_asked_once.result c.if-first-j.false c.is_asked_once.ensures
