use Rattle.view_config.specs.declared.edition.Edition.{Edition}
use Rattle.view_config.specs.declared.edition.Edition.TheVariants.{One, Two}
use Rattle.lazy_msgs.specs.declared.msg.Envelope.{Envelope}
use Rattle.lazy_msgs.specs.declared.msg.Msg.{Msg}
use Rattle.lazy_msgs.specs.declared.msg.Msg.TheVariants.{Sealed, NewView}
use Rattle.seen_window.specs.Image.{widened_image}

-- the message with its window widened, if it carries one: two kinds do
abbrev pub widened_message : Msg → Msg
widened_message (Sealed view bound window items) = Sealed view bound (widened_image window) items
widened_message (NewView config base window) = NewView config base (widened_image window)
widened_message msg = msg

abbrev pub widened_envelope : Envelope → Envelope
widened_envelope env = record env { msg = widened_message env.msg }

-- an envelope of this edition, as edition Two has it
abbrev pub brought_over : Edition → Envelope → Envelope
brought_over One env = widened_envelope env
brought_over Two env = env
