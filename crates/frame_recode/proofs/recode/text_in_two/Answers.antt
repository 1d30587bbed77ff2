use Rattle.std.proofs.Common.{ℕ, List, ap, subst, ◌∙◌}
use Rattle.std.specs.Prelude.{OnOk}
use Rattle.hex.specs.Hex.{IsBytes}
use Rattle.view_config.specs.declared.edition.Edition.TheVariants.{Two}
use Rattle.lazy_msgs.specs.Frame.{frame}
use Rattle.frame_recode.proofs.recode.text_in_two.Goals as goal

pub returns-clause-bytes : goal.returns-clause-bytes
returns-clause-bytes c =
    subst (λ (bytes : List ℕ). OnOk c.text_of.result (IsBytes bytes)) (c.as_slice.ensures ∙ c.in_ok-frame.ensures ∙ ap (frame Two) c.in_ok-env.ensures.widened) c.text_of.ensures.bytes
