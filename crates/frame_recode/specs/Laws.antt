-- What holds of lines that are brought over, in the words of the form of a frame.
use Rattle.std.specs.Prelude.{◌≡◌, ◌≢◌, ◌↔◌, ℕ, List, Some, None, Err}
use Rattle.hex.specs.Hex.{IsBytes, encode_lower}
use Rattle.view_config.specs.declared.edition.Edition.{Edition}
use Rattle.view_config.specs.declared.edition.Edition.TheVariants.{One, Two}
use Rattle.lazy_msgs.specs.declared.msg.Envelope.{Envelope}
use Rattle.lazy_msgs.specs.Frame.{frame}
use Rattle.lazy_msgs.specs.FrameLimits.{Fits}
use Rattle.wire_frames.specs.declared.offence.FrameError.{FrameError}
use Rattle.wire_frames.specs.Readers.{whole_at}
use Rattle.frame_recode.specs.declared.recode.Recoded.{Recoded}
use Rattle.frame_recode.specs.declared.recode.Recoded.TheVariants.{Brought, Refused}
use Rattle.frame_recode.specs.Hexadecimal.{bytes_in}
use Rattle.frame_recode.specs.Widened.{brought_over, widened_envelope}
use Rattle.frame_recode.specs.Recoded.{recoded, refused_text}

-- the line is the frame of an envelope in some edition, and the text that of the same envelope in edition Two, in
-- which it fits
pub record IsBroughtOver (line text : List ℕ) : Type 0 where
  pub edition : Edition
  pub env : Envelope
  pub fits : Fits edition env
  pub line_is : line ≡ encode_lower (frame edition env)
  pub fits_two : Fits Two (brought_over edition env)
  pub text_is : text ≡ encode_lower (frame Two (brought_over edition env))

-- the line is bytes that are no frame, and the text is their first offence
pub record IsRefused (line text : List ℕ) : Type 0 where
  pub bytes : List ℕ
  pub offence : FrameError
  pub line_is : line ≡ encode_lower bytes
  pub no_frame : (edition : Edition) (env : Envelope) → Fits edition env → bytes ≢ frame edition env
  pub offends : whole_at bytes ≡ Err offence
  pub text_is : text ≡ refused_text offence

-- each frame, of bytes, is brought over: its window is widened in edition One, and in edition Two the line stays as it is
abbrev pub OneIsBroughtOver : Type 0
OneIsBroughtOver = (env : Envelope) → Fits One env → IsBytes (frame One env) → recoded (encode_lower (frame One env)) ≡ Some (Brought (encode_lower (frame Two (widened_envelope env))))

abbrev pub TwoStays : Type 0
TwoStays = (env : Envelope) → Fits Two env → IsBytes (frame Two env) → recoded (encode_lower (frame Two env)) ≡ Some (Brought (encode_lower (frame Two env)))

-- and nothing else is
abbrev pub OnlyFrames : Type 0
OnlyFrames = (line text : List ℕ) → recoded line ≡ Some (Brought text) → IsBroughtOver line text

abbrev pub OthersAreRefused : Type 0
OthersAreRefused = (line text : List ℕ) → recoded line ≡ Some (Refused text) → IsRefused line text

-- what a line became becomes itself, if it was a frame
abbrev pub StaysSo : Recoded → Type 0
StaysSo (Brought text) = recoded text ≡ Some (Brought text)
StaysSo (Refused text) = Unit {0}

-- the bytes of a line are those whose hexadecimal text with lower-case letters it is
abbrev pub IsTextOf : Type 0
IsTextOf = (line bytes : List ℕ) → (bytes_in line ≡ Some bytes) ↔ (IsBytes bytes × (line ≡ encode_lower bytes))

-- and only a line that is such a text becomes something
abbrev pub OnlyTexts : Type 0
OnlyTexts = (line bytes : List ℕ) → IsBytes bytes → recoded line ≡ None → line ≢ encode_lower bytes
