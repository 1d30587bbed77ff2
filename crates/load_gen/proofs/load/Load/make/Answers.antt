use Rattle.std.proofs.Common.{◌<◌, sym, subst}
use Rattle.load_gen.specs.Loading.{LoadState}
use Rattle.load_gen.proofs.Making.{under_way_after}
use Rattle.load_gen.proofs.load.Load.make.Goals as goal

pub invariant_of-self : goal.invariant_of-self
invariant_of-self c =
    under_way_after (record { world = c.self.inside.world; generator = c.self.inside.generator; refused = c.self.inside.refused }) c.args.event.now c.event.new.self c.event.result c.self.invariant
    (subst (λ (l : LoadState). l.world.events < l.generator.steps) (sym c.self.view_is) c.requires.counted) c.requires.calm c.event.ensures.happens
