-- From a node's call to what happened in the world: what it sends is within the room and entered, or it is refused and
-- all is as it was.
use Rattle.std.proofs.Common.{◌≡◌, ℕ, ◌+◌, ◌-◌, ◌≤◌, List, [], ◌++◌, length, Option, Ok, Err, ap, ◌∙◌, arith, length-append}
use Rattle.std.specs.Prelude.{OnOk, OnErr}
use Rattle.std.proofs.lemmas.List.{length-map}
use Rattle.std.proofs.lemmas.List.Folds.{fold-map}
use Rattle.std.proofs.lemmas.List.Sums.{sum_by-append}
use Rattle.lazy_msgs.specs.declared.msg.Envelope.{Envelope}
use Rattle.lazy_msgs.specs.declared.msg.Msg.{Msg}
use Rattle.lazy_msgs.specs.declared.refused.EventRefused.{EventRefused}
use Rattle.lazy_msgs.specs.Outbox.{Out, Fits}
use Rattle.lazy_msgs.specs.Step.{Row}
use Rattle.lazy_msgs.specs.Weight.{weight_of, sends_weight}
use Rattle.lazy_rules.specs.WorldState.{WorldState}
use Rattle.lazy_rules.specs.WorldRules.{enveloped, sent_weight}
use Rattle.lazy_rules.specs.declared.limits.TheConstants.{WEIGHT_LIMIT}
use Rattle.lazy_core.specs.Happens.{HappensIn, IsWithinRoom}
use Rattle.lazy_core.specs.NodeCall.{CallsTo, Outcome}

-- so many messages more were sent
pub length_sent : (sent : List Envelope) (sender time : ℕ) (sends : List (ℕ × Msg)) → length (sent ++ enveloped sender time sends) ≡ length sent + length sends
length_sent sent sender time sends = simp (length-append, length-map)

-- what the messages weigh in their envelopes
pub weight_enveloped : (sender time : ℕ) (sends : List (ℕ × Msg)) → sent_weight (enveloped sender time sends) ≡ sends_weight sends
weight_enveloped sender time sends =
    fold-map (λ (a : ℕ) (x : Envelope). a + weight_of x.msg) (λ (send : ℕ × Msg). record { from = sender; to = send.0; time = time; msg = send.1 }) 0 sends

pub weight_sent : (sent : List Envelope) (sender time : ℕ) (sends : List (ℕ × Msg)) → sent_weight (sent ++ enveloped sender time sends) ≡ sent_weight sent + sends_weight sends
weight_sent sent sender time sends =
    sum_by-append (λ (envelope : Envelope). weight_of envelope.msg) sent (enveloped sender time sends) ∙ ap (λ n. sent_weight sent + n) (weight_enveloped sender time sends)

-- an outbox for a step of a world that may send so many messages
abbrev pub room_for : WorldState → ℕ → Out
room_for w room = record { sends = []; events = []; messages_left = room; weight_left = WEIGHT_LIMIT - sent_weight w.sent }

module _ (w next : WorldState) (room sender time : ℕ) (sends : List (ℕ × Msg)) (is : next.sent ≡ w.sent ++ enveloped sender time sends) (light : sent_weight w.sent ≤ WEIGHT_LIMIT) where
  -- a step whose messages fit is within the room, and one within the room fits
  pub room_from_fits : Fits sends (room_for w room) → IsWithinRoom room w next
  room_from_fits fits = record {
    in_number = rw is (omega (arith, length_sent w.sent sender time sends, fits.in_number));
    in_weight = rw is (omega (arith, weight_sent w.sent sender time sends, fits.in_weight));
  }

  pub fits_from_room : IsWithinRoom room w next → Fits sends (room_for w room)
  fits_from_room within =
      let number : length (w.sent ++ enveloped sender time sends) ≤ length w.sent + room = rw is at within.in_number in
      let weight : sent_weight (w.sent ++ enveloped sender time sends) ≤ WEIGHT_LIMIT = rw is at within.in_weight in
      record {
        in_number = omega (arith, length_sent w.sent sender time sends);
        in_weight = omega (arith, weight_sent w.sent sender time sends);
      }

  -- what a call comes to in the world
  pub call_happens : {S : Type 0} (row : Row S) (reason : Option EventRefused) (before after : S) (out_after : Out) (new : WorldState) (outcome : Outcome) → row.sends ≡ sends → CallsTo row reason before after (room_for w room) out_after outcome → OnOk outcome (new ≡ next) → OnErr outcome (new ≡ w) → HappensIn (IsWithinRoom room w next) next reason w new outcome
  call_happens row reason before after out_after new (Ok done) same h entered kept = record {
    happened = entered;
    allowed = h.allowed;
    within = room_from_fits (rw (← same) h.steps.fits);
    named = tt;
    unspent = λ e. cc;
    spent = λ e. cc;
    unchanged = tt;
  }
  call_happens row reason before after out_after new (Err e) same h entered kept = record {
    happened = tt;
    allowed = tt;
    within = tt;
    named = h.named;
    unspent = h.unspent;
    spent = λ e within. h.steps.room e (rw same (fits_from_room within));
    unchanged = kept;
  }
