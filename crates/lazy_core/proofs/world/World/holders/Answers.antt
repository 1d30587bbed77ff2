use Rattle.std.proofs.Common.{◌≡◌, ◌∙◌, ap, subst}
use Rattle.std.specs.Prelude.{IfOk}
use Rattle.lazy_rules.specs.Holders.{holders}
use Rattle.lazy_rules.specs.WorldState.{WorldState}
use Rattle.lazy_core.specs.LinesOf.{bare}
use Rattle.lazy_core.proofs.world.World.holders.Goals as goal

pub returns : goal.returns
returns c =
    subst (λ (w : WorldState). IfOk c.holders.result (λ nodes. nodes ≡ holders w)) (c.snapshot.ensures ∙ ap bare c.self.view_is) c.holders.ensures
