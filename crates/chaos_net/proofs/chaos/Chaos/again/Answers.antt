use Rattle.std.proofs.Common.{sym, subst}
use Rattle.chaos_net.specs.Fates.{HeldOf}
use Rattle.chaos_net.proofs.Origin.{origin_oldest}
use Rattle.chaos_net.proofs.chaos.Chaos.again.Goals as goal

pub returns-clause-origin : goal.returns-clause-origin
returns-clause-origin c given held = origin_oldest given _ _ _ c.pop_front.ensures.items (subst (HeldOf given) (sym c.self.view_is) held)
