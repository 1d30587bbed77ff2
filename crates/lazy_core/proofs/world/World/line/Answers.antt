use Rattle.std.proofs.Common.{◌∙◌, ap, subst}
use Rattle.lazy_rules.specs.WorldState.{WorldState}
use Rattle.lazy_core.specs.LinesOf.{TellsLine, bare}
use Rattle.lazy_core.proofs.ReachedWorlds.{tells_bare}
use Rattle.lazy_core.proofs.ShortLines.{short_lines}
use Rattle.lazy_core.proofs.world.World.line.Goals as goal

pub returns-clause-told : goal.returns-clause-told
returns-clause-told c =
    tells_bare c.args.self.now c.args.holder c.line.result
    (subst (λ (w : WorldState). TellsLine w c.args.holder c.line.result) (c.snapshot.ensures ∙ ap bare c.self.view_is) c.line.ensures.told)

pub returns-clause-short : goal.returns-clause-short
returns-clause-short c =
    let w : WorldState = c.self.inside.nodes in
    short_lines w c.args.holder c.line.result
    (tells_bare w c.args.holder c.line.result (subst (λ (v : WorldState). TellsLine v c.args.holder c.line.result) c.snapshot.ensures c.line.ensures.told)).told c.self.invariant
