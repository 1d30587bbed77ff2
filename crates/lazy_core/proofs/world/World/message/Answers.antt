use Rattle.std.proofs.Common.{◌<◌, ◌^◌, Option, sym, subst, arith}
use Rattle.std.specs.Prelude.{IfSome, option_copied}
use Rattle.lazy_msgs.specs.FrameLimits.{Fits}
use Rattle.lazy_msgs.specs.declared.msg.Envelope.{Envelope}
use Rattle.lazy_rules.specs.WorldState.{WorldState}
use Rattle.lazy_core.proofs.Frames.{message_framed}
use Rattle.lazy_core.proofs.world.World.message.Goals as goal

pub returns-clause-framed : goal.returns-clause-framed
returns-clause-framed c =
    let counted = c.events-counted.ensures in
    let few : c.self.inside.nodes.events < 2 ^ 32 = omega arith in
    subst (λ (w : WorldState). IfSome (option_copied c.message.result) (Fits w.shape.edition)) c.self.view_is
    (subst (λ (o : Option Envelope). IfSome o (Fits c.self.inside.nodes.shape.edition)) (sym c.message.ensures) (message_framed c.self.inside.nodes c.args.k c.self.invariant few))
