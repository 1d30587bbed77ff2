use Rattle.std.proofs.Common.{sym, ◌∙◌}
use Rattle.binder.proofs.Leaving.{leaving_next}
use Rattle.binder.proofs.flight.+leaving_ordered.Goals as goal

pub returns-then-is_finished_with-clause-leaving : goal.returns-then-is_finished_with-clause-leaving
returns-then-is_finished_with-clause-leaving t c = λ shards followers all.
    leaving_next shards followers c.args.follower c.args.upto c.args.flight.now c.in-Some.first.now c.in-Some.others.now c.leaving_ordered.result c.in-Some.ensures.cases.0 all
    (sym c.is_finished_with.ensures ∙ c.if-is_finished_with.true) c.leaving_ordered.ensures.leaving
