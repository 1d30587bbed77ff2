-- Texts that are written, one or several, as parts of more of them.
use Rattle.std.proofs.Common.{◌≡◌, ℕ, List, [], ◌∷◌, ◌++◌, Option, refl, sym, ap, ◌∙◌, subst, append_assoc, append-nil}
use Rattle.std.specs.Prelude.{Result, Ok, Err, OnOk}
use Rattle.std.specs.Io.KnownBytes.{append_known}
use Rattle.std.proofs.lemmas.Grind.{flat_map-append}
use Rattle.io_edges.specs.Telling.{Fails, Stops}
use Rattle.io_edges.specs.declared.status.Status.{Status}
use Rattle.io_edges.proofs.TellingLemmas.{append_known-append, append_known-nil, goes_on as goes_piece, stops_further, stops_within}
use Rattle.script_streams.specs.Streams.{IsWritten, SinkUse}
use Rattle.script_streams.specs.Texts.{FailsAt, printed, with_newline}
use Rattle.journal_top.specs.Telling.{WritesTexts}

pub printed_append : (first second : List (List ℕ)) → printed (first ++ second) ≡ printed first ++ printed second
printed_append first second = flat_map-append (λ (text : List ℕ). text) first second

-- one text
pub one_text : {R : Type 0} (text : List ℕ) (sink : SinkUse) (outcome : Result R Status) → IsWritten (with_newline text) sink outcome → WritesTexts (with_newline text ∷ []) sink outcome
one_text {R = R} text sink outcome written =
    let same : printed (with_newline text ∷ []) ≡ with_newline text = append-nil (with_newline text) in
    record {
      whole = by_whole outcome (sym same) written.whole;
      front = subst (Stops sink.before sink.after) (sym same) written.front;
      failed = λ e. record { earlier = []; text = with_newline text; later = []; are = refl; fails = subst (λ (k : Option (List ℕ)). Fails k sink.after (with_newline text)) (sym (append_known-nil sink.before)) (written.fails e) };
      only = written.only;
      faults = written.stopped;
    }
  where
    by_whole : {A : Type 0} (o : Result A Status) {given : List ℕ} → with_newline text ≡ given → OnOk o (sink.after ≡ append_known sink.before (with_newline text)) → OnOk o (sink.after ≡ append_known sink.before given)
    by_whole (Ok x) is h = h ∙ ap (append_known sink.before) is
    by_whole (Err status) is h = tt

-- no text
pub no_texts : {R : Type 0} (x : R) (known : Option (List ℕ)) → known ≡ append_known known (printed [])
no_texts x known = sym (append_known-nil known)

-- the texts before them were written
module _ (first : List (List ℕ)) (before between after : Option (List ℕ)) (written : between ≡ append_known before (printed first)) where
  pub texts_behind : (second : List (List ℕ)) → after ≡ append_known between (printed second) → after ≡ append_known before (printed (first ++ second))
  texts_behind second more =
      more ∙ ap (λ (k : Option (List ℕ)). append_known k (printed second)) written ∙ append_known-append before (printed first) (printed second)
      ∙ ap (append_known before) (sym (printed_append first second))

  pub fails_behind : (second : List (List ℕ)) → FailsAt second between after → FailsAt (first ++ second) before after
  fails_behind second k = record {
    earlier = first ++ k.earlier;
    text = k.text;
    later = k.later;
    are = ap (λ (texts : List (List ℕ)). first ++ texts) k.are ∙ sym (append_assoc first k.earlier (k.text ∷ k.later));
    fails =
        let there : append_known between (printed k.earlier) ≡ append_known before (printed (first ++ k.earlier)) =
        ap (λ (known : Option (List ℕ)). append_known known (printed k.earlier)) written ∙ append_known-append before (printed first) (printed k.earlier) ∙ ap (append_known before) (sym (printed_append first k.earlier)) in
        subst (λ (known : Option (List ℕ)). Fails known after k.text) there k.fails;
  }

  pub stops_behind : (second : List (List ℕ)) → Stops between after (printed second) → Stops before after (printed (first ++ second))
  stops_behind second stops = subst (Stops before after) (sym (printed_append first second)) (stops_further (goes_piece (printed first) refl written) stops)

-- others come behind them
pub fails_before : (first second : List (List ℕ)) (before after : Option (List ℕ)) → FailsAt first before after → FailsAt (first ++ second) before after
fails_before first second before after k = record {
  earlier = k.earlier;
  text = k.text;
  later = k.later ++ second;
  are = ap (λ (texts : List (List ℕ)). texts ++ second) k.are ∙ append_assoc k.earlier (k.text ∷ k.later) second;
  fails = k.fails;
}

pub stops_before : (first second : List (List ℕ)) (before after : Option (List ℕ)) → Stops before after (printed first) → Stops before after (printed (first ++ second))
stops_before first second before after stops = stops_within (printed second) (printed_append first second) stops
