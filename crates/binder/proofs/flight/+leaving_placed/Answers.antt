use Rattle.std.proofs.Common.{sym, ◌∙◌, subst, arith}
use Rattle.binder.specs.Held.{AllFor}
use Rattle.binder.proofs.PassedLeaving.{placed_next}
use Rattle.binder.proofs.flight.+leaving_placed.Goals as goal

pub returns-then-is_finished_once_placed-clause-leaving : goal.returns-then-is_finished_once_placed-clause-leaving
returns-then-is_finished_once_placed-clause-leaving t c = λ shards followers all.
    let next =
    placed_next shards followers c.args.shard c.args.upto c.args.flight.now c.in-Some.first.now c.in-Some.others.now _ c.in-Some.ensures.cases.0 all
    (sym c.is_finished_once_placed.ensures ∙ c.if-is_finished_once_placed.true) in
    let more = c.leaving_placed.ensures.leaving shards followers (subst (AllFor shards followers) c.in-Some.ensures.cases.0 all).1 in
    omega (arith, next, more)

pub returns-else-is_finished_once_placed-clause-leaving : goal.returns-else-is_finished_once_placed-clause-leaving
returns-else-is_finished_once_placed-clause-leaving t c = λ shards followers all.
    sym (placed_next shards followers c.args.shard c.args.upto c.args.flight.now c.in-Some.first.now c.in-Some.others.now _ c.in-Some.ensures.cases.0 all
    (sym c.is_finished_once_placed.ensures ∙ c.if-is_finished_once_placed.false))
