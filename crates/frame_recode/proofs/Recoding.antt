-- What becomes of a line, by what its bytes are.
use Rattle.std.proofs.Common.{◌≡◌, ℕ, List, Option, Some, None, Result, Ok, Err, refl, sym, ap, subst, ◌∙◌}
use Rattle.hex.specs.Hex.{IsBytes, encode_lower}
use Rattle.view_config.specs.declared.edition.Edition.{Edition}
use Rattle.view_config.specs.declared.edition.Edition.TheVariants.{One, Two}
use Rattle.lazy_msgs.specs.declared.msg.Envelope.{Envelope}
use Rattle.lazy_msgs.specs.Frame.{frame}
use Rattle.lazy_msgs.specs.FrameLimits.{Fits}
use Rattle.wire_frames.specs.declared.offence.FrameError.{FrameError}
use Rattle.wire_frames.specs.Readers.{whole_at}
use Rattle.wire_frames.proofs.FoundFrame.{whole_again, whole_found}
use Rattle.frame_recode.specs.declared.recode.Recoded.TheVariants.{Brought, Refused}
use Rattle.frame_recode.specs.Hexadecimal.{bytes_in}
use Rattle.frame_recode.specs.Widened.{brought_over, widened_envelope}
use Rattle.frame_recode.specs.Recoded.{of_bytes, of_found, recoded, refused_text}
use Rattle.frame_recode.specs.Laws.{IsBroughtOver, IsRefused, IsTextOf, OneIsBroughtOver, OnlyFrames, OnlyTexts, OthersAreRefused, TwoStays}
use Rattle.frame_recode.proofs.HexTexts.{bytes_of_line, line_of_bytes}
use Rattle.frame_recode.proofs.WidenedFits.{envelope_fits}

module _ (line bytes : List ℕ) (are : bytes_in line ≡ Some bytes) where
  -- they are a frame
  pub frame_brought : (edition : Edition) (env : Envelope) → Fits edition env → bytes ≡ frame edition env → recoded line ≡ Some (Brought (encode_lower (frame Two (brought_over edition env))))
  frame_brought edition env fits is =
      ap of_bytes are ∙ ap (λ (bs : List ℕ). Some (of_found (whole_at bs))) is ∙ ap (λ (r : Result (Edition × Envelope) FrameError). Some (of_found r)) (whole_again edition env fits)

  -- of edition Two, which stays as it is
  pub frame_stays : (env : Envelope) → Fits Two env → bytes ≡ frame Two env → recoded line ≡ Some (Brought line)
  frame_stays env fits is =
      frame_brought Two env fits is ∙ ap (λ (bs : List ℕ). Some (Brought (encode_lower bs))) (sym is) ∙ ap (λ (text : List ℕ). Some (Brought text)) (sym (bytes_of_line line bytes are).1)

  -- they have an offence
  pub offence_refused : (offence : FrameError) → whole_at bytes ≡ Err offence → recoded line ≡ Some (Refused (refused_text offence))
  offence_refused offence is = ap of_bytes are ∙ ap (λ (r : Result (Edition × Envelope) FrameError). Some (of_found r)) is

pub nothing : (line : List ℕ) → bytes_in line ≡ None → recoded line ≡ None
nothing line none = ap of_bytes none

-- what was written for a frame becomes itself
pub again : (env : Envelope) → Fits Two env → IsBytes (frame Two env) → recoded (encode_lower (frame Two env)) ≡ Some (Brought (encode_lower (frame Two env)))
again env fits are = frame_brought (encode_lower (frame Two env)) (frame Two env) (line_of_bytes (frame Two env) are) Two env fits refl

-- ---- what `recode_line` makes of a frame that it read

module _ (line bytes slice text : List ℕ) (edition : Edition) (env : Envelope) (are : bytes_in line ≡ Some bytes) (same : slice ≡ bytes) (form : Fits edition env × (slice ≡ frame edition env)) where
  pub one_made : edition ≡ One → text ≡ encode_lower (frame Two (widened_envelope env)) → recoded line ≡ Some (Brought text)
  one_made is made =
      frame_brought line bytes are edition env form.0 (sym same ∙ form.1)
      ∙ ap (λ (e : Edition). Some (Brought (encode_lower (frame Two (brought_over e env))))) is
      ∙ ap (λ (t : List ℕ). Some (Brought t)) (sym made)

  pub two_made : edition ≡ Two → text ≡ line → recoded line ≡ Some (Brought text)
  two_made is made =
      let fits : Fits Two env = subst (λ (e : Edition). Fits e env) is form.0 in
      let there : bytes ≡ frame Two env = sym same ∙ form.1 ∙ ap (λ (e : Edition). frame e env) is in
      frame_stays line bytes are env fits there ∙ ap (λ (t : List ℕ). Some (Brought t)) (sym made)

  pub two_again : edition ≡ Two → text ≡ line → recoded text ≡ Some (Brought text)
  two_again is made = ap recoded made ∙ two_made is made

pub one_again : (text : List ℕ) (env : Envelope) → Fits One env → IsBytes (frame Two (widened_envelope env)) → text ≡ encode_lower (frame Two (widened_envelope env)) → recoded text ≡ Some (Brought text)
one_again text env fits are made =
    ap recoded made ∙ again (widened_envelope env) (envelope_fits env fits) are ∙ ap (λ (t : List ℕ). Some (Brought t)) (sym made)

-- ---- the laws

pub one_is_brought_over : OneIsBroughtOver
one_is_brought_over env fits are = frame_brought (encode_lower (frame One env)) (frame One env) (line_of_bytes (frame One env) are) One env fits refl

pub two_stays : TwoStays
two_stays = again

fits_over : (edition : Edition) (env : Envelope) → Fits edition env → Fits Two (brought_over edition env)
fits_over One env fits = envelope_fits env fits
fits_over Two env fits = fits

-- a line that becomes something, by its bytes and by what is found in them
module _ (line text : List ℕ) where
  brought_by : (bytes : List ℕ) → bytes_in line ≡ Some bytes → (r : Result (Edition × Envelope) FrameError) → whole_at bytes ≡ r → of_found r ≡ Brought text → IsBroughtOver line text
  brought_by bytes are (Ok found) is made =
      let of_line = bytes_of_line line bytes are in
      let form = whole_found bytes found of_line.0 is in
      let same : Brought (encode_lower (frame Two (brought_over found.0 found.1))) ≡ Brought text = made in
      record {
        edition = found.0;
        env = found.1;
        fits = form.0;
        line_is = of_line.1 ∙ ap encode_lower form.1;
        fits_two = fits_over found.0 found.1 form.0;
        text_is = let reached : encode_lower (frame Two (brought_over found.0 found.1)) ≡ text = cc in sym reached;
      }
  brought_by bytes are (Err offence) is made = cc made

  refused_by : (bytes : List ℕ) → bytes_in line ≡ Some bytes → (r : Result (Edition × Envelope) FrameError) → whole_at bytes ≡ r → of_found r ≡ Refused text → IsRefused line text
  refused_by bytes are (Ok found) is made = cc made
  refused_by bytes are (Err offence) is made =
      let of_line = bytes_of_line line bytes are in
      let same : Refused (refused_text offence) ≡ Refused text = made in
      record {
        bytes = bytes;
        offence = offence;
        line_is = of_line.1;
        no_frame = λ edition env fits form. let wrong : Err offence ≡ Ok (edition, env) = sym is ∙ ap whole_at form ∙ whole_again edition env fits in cc;
        offends = is;
        text_is = let reached : refused_text offence ≡ text = cc in sym reached;
      }

  by_bytes : (o : Option (List ℕ)) → bytes_in line ≡ o → of_bytes o ≡ Some (Brought text) → IsBroughtOver line text
  by_bytes None is made = cc made
  by_bytes (Some bytes) is made =
      let same : Some (of_found (whole_at bytes)) ≡ Some (Brought text) = made in
      let reached : of_found (whole_at bytes) ≡ Brought text = cc in
      brought_by bytes is (whole_at bytes) refl reached

  others_by_bytes : (o : Option (List ℕ)) → bytes_in line ≡ o → of_bytes o ≡ Some (Refused text) → IsRefused line text
  others_by_bytes None is made = cc made
  others_by_bytes (Some bytes) is made =
      let same : Some (of_found (whole_at bytes)) ≡ Some (Refused text) = made in
      let reached : of_found (whole_at bytes) ≡ Refused text = cc in
      refused_by bytes is (whole_at bytes) refl reached

pub only_frames : OnlyFrames
only_frames line text made = by_bytes line text (bytes_in line) refl made

pub others_are_refused : OthersAreRefused
others_are_refused line text made = others_by_bytes line text (bytes_in line) refl made

pub is_text_of : IsTextOf
is_text_of line bytes = (bytes_of_line line bytes, λ h. subst (λ (l : List ℕ). bytes_in l ≡ Some bytes) (sym h.1) (line_of_bytes bytes h.0))

pub only_texts : OnlyTexts
only_texts line bytes are none is =
    let some : bytes_in line ≡ Some bytes = subst (λ (l : List ℕ). bytes_in l ≡ Some bytes) (sym is) (line_of_bytes bytes are) in
    let wrong : None ≡ Some (of_found (whole_at bytes)) = sym none ∙ ap of_bytes some in
    cc
