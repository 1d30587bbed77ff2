-- What becomes of a line.
use Rattle.std.specs.Prelude.{ℕ, ◌++◌, List, Option, Some, None, Result, Ok, Err, codes, decimal}
use Rattle.hex.specs.Hex.{encode_lower}
use Rattle.view_config.specs.declared.edition.Edition.{Edition}
use Rattle.view_config.specs.declared.edition.Edition.TheVariants.{Two}
use Rattle.lazy_msgs.specs.declared.msg.Envelope.{Envelope}
use Rattle.lazy_msgs.specs.Frame.{frame}
use Rattle.wire_frames.specs.declared.offence.FrameError.{FrameError}
use Rattle.wire_frames.specs.declared.offence.FrameError.TheVariants.{Short, Kind, Field, Over, Trailing, Memory}
use Rattle.wire_frames.specs.Readers.{whole_at}
use Rattle.frame_recode.specs.declared.recode.Recoded.{Recoded}
use Rattle.frame_recode.specs.declared.recode.Recoded.TheVariants.{Brought, Refused}
use Rattle.frame_recode.specs.Hexadecimal.{bytes_in}
use Rattle.frame_recode.specs.Widened.{brought_over}

-- the first offence of bytes; there are none whose offence is want of memory
abbrev pub refused_text : FrameError → List ℕ
refused_text Short = codes "refused: short"
refused_text (Kind kind) = codes "refused: kind " ++ decimal kind
refused_text (Field offset) = codes "refused: field " ++ decimal offset
refused_text (Over limit) = codes "refused: over " ++ decimal limit
refused_text (Trailing offset) = codes "refused: trailing " ++ decimal offset
refused_text Memory = codes "refused: memory"

-- a frame that was read becomes the frame of its envelope in edition Two, other bytes their first offence
abbrev pub of_found : Result (Edition × Envelope) FrameError → Recoded
of_found (Ok found) = Brought (encode_lower (frame Two (brought_over found.0 found.1)))
of_found (Err offence) = Refused (refused_text offence)

abbrev pub of_bytes : Option (List ℕ) → Option Recoded
of_bytes None = None
of_bytes (Some bytes) = Some (of_found (whole_at bytes))

-- what becomes of a line; nothing of one that isn't hexadecimal
abbrev pub recoded : List ℕ → Option Recoded
recoded line = of_bytes (bytes_in line)
