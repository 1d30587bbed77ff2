use Rattle.std.proofs.Common.{◌≡◌, ◌≢◌, ℕ, List, [], ◌∷◌, ◌++◌, Option, None, Some, refl, ap, append_assoc, append-nil, sym, ◌∙◌}
use Rattle.std.specs.Io.KnownBytes.{append_known}
use Rattle.io_edges.specs.Telling.{Goes, Stops, Fails}

-- no bytes more
pub append_known-nil : (known : Option (List ℕ)) → append_known known [] ≡ known
append_known-nil None = refl
append_known-nil (Some bytes) = ap Some (append-nil bytes)

-- bytes in two pieces
pub append_known-append : (known : Option (List ℕ)) (front rest : List ℕ) →
    append_known (append_known known front) rest ≡ append_known known (front ++ rest)
append_known-append None front rest = refl
append_known-append (Some bytes) front rest = ap Some (append_assoc bytes front rest)

-- nothing was written
pub goes_same : (known : Option (List ℕ)) (coming : List ℕ) → Goes known known coming coming
goes_same known coming = record { piece = []; comes = refl; written = sym (append_known-nil known) }

-- a piece of what was to come was written
pub goes_on : {before after : Option (List ℕ)} {coming coming_now : List ℕ} (piece : List ℕ) →
    coming ≡ piece ++ coming_now → after ≡ append_known before piece → Goes before after coming coming_now
goes_on piece comes written = record { piece = piece; comes = comes; written = written }

-- one way after another
pub goes_further : {before between after : Option (List ℕ)} {coming coming_then coming_now : List ℕ} →
    Goes before between coming coming_then → Goes between after coming_then coming_now → Goes before after coming coming_now
goes_further {before = before} {coming_now = coming_now} first second = record {
  piece = first.piece ++ second.piece;
  comes = first.comes ∙ ap (λ (rest : List ℕ). first.piece ++ rest) second.comes ∙ sym (append_assoc first.piece second.piece coming_now);
  written = second.written ∙ ap (λ (known : Option (List ℕ)). append_known known second.piece) first.written ∙ append_known-append before first.piece second.piece;
}

-- what goes may stop
pub stops_going : {before after : Option (List ℕ)} {coming coming_now : List ℕ} →
    Goes before after coming coming_now → Stops before after coming
stops_going {coming_now = coming_now} goes = record { unwritten = coming_now; goes = goes }

-- it stopped before it went
pub stops_same : (known : Option (List ℕ)) (coming : List ℕ) → Stops known known coming
stops_same known coming = record { unwritten = coming; goes = goes_same known coming }

-- it went within a piece of what was to come
goes_within : {before after : Option (List ℕ)} {piece coming rest : List ℕ} (more : List ℕ) →
    coming ≡ piece ++ more → Goes before after piece rest → Goes before after coming (rest ++ more)
goes_within {rest = rest} more comes goes = record {
  piece = goes.piece;
  comes = comes ∙ ap (λ (bytes : List ℕ). bytes ++ more) goes.comes ∙ append_assoc goes.piece rest more;
  written = goes.written;
}

-- it stopped within a piece of what was to come
pub stops_within : {before after : Option (List ℕ)} {piece coming : List ℕ} (more : List ℕ) →
    coming ≡ piece ++ more → Stops before after piece → Stops before after coming
stops_within more comes stops = record { unwritten = stops.unwritten ++ more; goes = goes_within more comes stops.goes }

-- it went, and then stopped
pub stops_further : {before between after : Option (List ℕ)} {coming coming_then : List ℕ} →
    Goes before between coming coming_then → Stops between after coming_then → Stops before after coming
stops_further goes stops = record { unwritten = stops.unwritten; goes = goes_further goes stops.goes }

no_less : (bytes more : List ℕ) → bytes ≢ [] → bytes ++ more ≢ []
no_less [] more some e = some refl
no_less (byte ∷ bytes) more some e = cc

-- it failed within a piece of what was to come
pub fails_within : {before after : Option (List ℕ)} {piece coming : List ℕ} (more : List ℕ) →
    coming ≡ piece ++ more → Fails before after piece → Fails before after coming
fails_within more comes fails = record { unwritten = fails.unwritten ++ more; goes = goes_within more comes fails.goes; some = no_less fails.unwritten more fails.some }

-- it went, and then failed
pub fails_further : {before between after : Option (List ℕ)} {coming coming_then : List ℕ} →
    Goes before between coming coming_then → Fails between after coming_then → Fails before after coming
fails_further goes fails = record { unwritten = fails.unwritten; goes = goes_further goes fails.goes; some = fails.some }
