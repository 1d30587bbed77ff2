use Rattle.std.proofs.Common.{◌≡◌, Option, sym, subst}
use Rattle.std.proofs.lemmas.Result.{IfOk-weaker}
use Rattle.link_queue.specs.Rule.{Bytes}
use Rattle.chaos_net.specs.Fates.{Injector, HeldOf, OutOf}
use Rattle.chaos_net.proofs.Origin.{origin_dealt}
use Rattle.chaos_net.proofs.chaos.Chaos.pass.Goals as goal

pub returns-clause-origin : goal.returns-clause-origin
returns-clause-origin c given comes held = IfOk-weaker _ _ _
    (λ out (is : (out, _) ≡ _). subst (λ (x : Option Bytes × Injector). OutOf given x.0 x.1) (sym is) (origin_dealt given _ _ _ comes (subst (HeldOf given) (sym c.self.view_is) held)))
    c.deal-2.ensures.handed
