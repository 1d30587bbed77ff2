use Rattle.std.proofs.Common.{List, ap, subst, sym, ◌∙◌}
use Rattle.lazy_rules.specs.Flight.{passed, with_place}
use Rattle.binder.specs.Binding.{Binding, leaving}
use Rattle.binder.specs.Held.{AllFor, Held, batches}
use Rattle.binder.proofs.binding.Binder.leaving_placed.Goals as goal

pub returns-clause-leaving : goal.returns-clause-leaving
returns-clause-leaving c =
    let shards = c.self.inside.shards in
    let followers = c.self.inside.followers in
    c.leaving_placed.ensures.leaving shards followers (subst (AllFor shards followers) (sym c.deref.ensures.value) c.self.invariant.flying)
    ∙ ap (λ (l : List Held). leaving followers (passed shards (with_place (batches l) c.args.shard c.args.upto))) c.deref.ensures.value
    ∙ ap (λ (b : Binding). leaving b.followers (passed b.shards (with_place b.flight c.args.shard c.args.upto))) c.self.view_is
