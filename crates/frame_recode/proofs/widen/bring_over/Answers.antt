use Rattle.std.proofs.Common.{sym, subst}
use Rattle.view_config.specs.declared.edition.Edition.TheVariants.{Two}
use Rattle.lazy_msgs.specs.declared.msg.Envelope.{Envelope}
use Rattle.lazy_msgs.specs.declared.msg.Msg.{Msg}
use Rattle.lazy_msgs.specs.FrameLimits.{Fits}
use Rattle.frame_recode.proofs.WidenedFits.{envelope_fits}
use Rattle.frame_recode.proofs.widen.bring_over.Goals as goal

pub returns-clause-fits : goal.returns-clause-fits
returns-clause-fits c =
    let env = c.args.env in
    subst (λ (m : Msg). let made : Envelope = record { from = env.from; to = env.to; time = env.time; msg = m } in Fits Two made) (sym c.in_ok-widen_message.ensures) (envelope_fits env c.requires)
