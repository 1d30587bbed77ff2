-- Texts that are written one after the other.
use Rattle.std.proofs.Common.{◌≡◌, ℕ, ◌+◌, ◌<◌, suc, List, ◌∷◌, ◌++◌, length, drop, drop-cons, arith, get_or, Option, sym, ap, ◌∙◌}
use Rattle.std.specs.Io.KnownBytes.{append_known}
use Rattle.io_edges.specs.Telling.{Goes}
use Rattle.io_edges.specs.declared.status.Status.{Status}
use Rattle.std.specs.Prelude.{Err}
use Rattle.script_streams.specs.Streams.{IsWritten}
use Rattle.io_edges.proofs.TellingLemmas.{fails_further, fails_within, goes_on, goes_further, stops_further, stops_within}
use Rattle.script_streams.specs.Texts.{printed}

-- the next text, and those behind it
printed_at : (texts : List (List ℕ)) (i : ℕ) (text : List ℕ) → i < length texts → text ≡ get_or texts i text → printed (drop i texts) ≡ text ++ printed (drop (i + 1) texts)
printed_at texts i text there is =
    let parts : drop i texts ≡ get_or texts i text ∷ drop (suc i) texts = drop-cons texts i text there in
    let next : suc i ≡ i + 1 = omega arith in
    ap printed parts ∙ ap (λ (l : List ℕ). l ++ printed (drop (suc i) texts)) (sym is) ∙ ap (λ (k : ℕ). text ++ printed (drop k texts)) next

module _ (before between after : Option (List ℕ)) (texts : List (List ℕ)) (i : ℕ) (text : List ℕ) (there : i < length texts) (is : text ≡ get_or texts i text) (so_far : Goes before between (printed texts) (printed (drop i texts))) where
  pub text_goes : after ≡ append_known between text → Goes before after (printed texts) (printed (drop (i + 1) texts))
  text_goes written = goes_further so_far (goes_on text (printed_at texts i text there is) written)

  module _ {R : Type 0} (faults faults_now : ℕ) (status : Status) where
    -- the write of the next text failed, or there was no memory for it
    pub text_stops : IsWritten {R = R} text (record { before = between; after = after; faults = faults; faults_now = faults_now }) (Err status) → IsWritten {R = R} (printed texts) (record { before = before; after = after; faults = faults; faults_now = faults_now }) (Err status)
    text_stops written = record {
      whole = tt;
      front = stops_further so_far (stops_within (printed (drop (i + 1) texts)) (printed_at texts i text there is) written.front);
      fails = λ e. fails_further so_far (fails_within (printed (drop (i + 1) texts)) (printed_at texts i text there is) (written.fails e));
      only = written.only;
      stopped = written.stopped;
    }
