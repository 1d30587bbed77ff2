-- What holds of frames.
use Rattle.std.specs.Prelude.{◌≡◌, ◌≢◌, ℕ, ◌*◌, ◌/◌, ◌%◌, ◌^◌, ◌<◌, ◌≤◌, Bool, false, ◌==◌, List, [], ◌∷◌, ◌++◌, length, slice_index, Err}
use Rattle.std.specs.List.{flat_map}
use Rattle.rec_id.specs.declared.marks.Marks.{Marks}
use Rattle.rec_id.specs.Marks.{bit_of}
use Rattle.view_config.specs.declared.edition.Edition.{Edition}
use Rattle.lazy_msgs.specs.declared.msg.Envelope.{Envelope}
use Rattle.lazy_msgs.specs.Frame.{frame, word_form}
use Rattle.lazy_msgs.specs.FrameLimits.{Fits, MarksFit}
use Rattle.wire_frames.specs.declared.offence.FrameError.TheVariants.{Short, Trailing}
use Rattle.wire_frames.specs.Readers.{whole_at}

-- Frames that begin alike are one: no frame goes on behind another, and each is of one envelope in one
-- edition.
abbrev pub OneForm : Type 0
OneForm = (first second : Edition) (a b : Envelope) (more : List ℕ) → Fits first a → Fits second b
    → frame second b ≡ frame first a ++ more → (more ≡ []) × (second ≡ first) × (b ≡ a)

-- bit i of the bytes, the least significant of the first byte being bit 0
abbrev pub bit_in : List ℕ → ℕ → Bool
bit_in bytes i = (slice_index bytes (i / 8) / 2 ^ (i % 8)) % 2 == 1

-- bit i of the bytes of marks stands for the number that bit i of their words stands for
abbrev pub MarksByBit : Type 0
MarksByBit = (words : List ℕ) (i : ℕ) → i < 64 * length words → bit_in (flat_map word_form words) i ≡ bit_of words i

-- in marks that fit, no bit is set that would stand for a number below 1
abbrev pub NoneBelowOne : Type 0
NoneBelowOne = (edition : Edition) (marks : Marks) (i : ℕ) → MarksFit edition marks → marks.top ≤ i → bit_of marks.bits i ≡ false

-- every beginning of a frame, but the whole, is too short
abbrev pub CutIsShort : Type 0
CutIsShort = (edition : Edition) (env : Envelope) (front more : List ℕ) → Fits edition env → frame edition env ≡ front ++ more → more ≢ [] → whole_at front ≡ Err Short

-- what goes on behind a frame is refused where the frame ends
abbrev pub MoreIsTrailing : Type 0
MoreIsTrailing = (edition : Edition) (env : Envelope) (byte : ℕ) (more : List ℕ) → Fits edition env → whole_at (frame edition env ++ byte ∷ more) ≡ Err (Trailing (length (frame edition env)))
