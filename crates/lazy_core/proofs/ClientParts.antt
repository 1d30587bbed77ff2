-- The step of both halves of a client, part by part.
use Rattle.std.proofs.Common.{◌≡◌, ◌≤◌, ℕ, List, [], ◌++◌, length, Bool, true, false, Result, Ok, Err, refl, sym, ap, ◌∙◌, subst, arith, length-append}
use Rattle.std.specs.Prelude.{OnOk}
use Rattle.std.proofs.lemmas.List.{append-nil}
use Rattle.rec_id.specs.declared.event.Event.{Event}
use Rattle.lazy_msgs.specs.declared.input.Input.{Input}
use Rattle.lazy_msgs.specs.declared.msg.Msg.{Msg}
use Rattle.lazy_msgs.specs.declared.refused.StepRefused.{StepRefused}
use Rattle.lazy_msgs.specs.declared.refused.StepRefused.TheVariants.{Over}
use Rattle.lazy_msgs.specs.Outbox.{Out, Fits, cut_to, put_on}
use Rattle.lazy_msgs.specs.Step.{Row, StepsTo}
use Rattle.lazy_rules.specs.ClientNode.{ClientNode, asks_view}
use Rattle.lazy_rules.specs.ClientRules.{client_step}
use Rattle.lazy_rules.specs.ClientState.{ClientState}
use Rattle.lazy_rules.specs.ReaderRules.{reader_step}
use Rattle.lazy_rules.specs.ReaderState.{ReaderState}
use Rattle.lazy_rules.specs.Rows.{followed}
use Rattle.lazy_core.specs.ClientParts.{PartlySteps, TellsNothing, appends_step, both_step, parts_step, reads_step}
use Rattle.lazy_core.specs.NodeStep.{halves_of}
use Rattle.lazy_core.proofs.Outboxes.{both_fit, cut_back_grown, first_fits, not_grown, put_both, second_fits}
use Rattle.lazy_core.proofs.StepForms.{part_steps}

module _ {S : Type 0} (first : Row S) (more : S → Row S) (out : Out) where
  -- the first part was refused, or a part of it
  pub first_refused : (after : S) (out_after : Out) (e : StepRefused) → PartlySteps first after out out_after (Err e) → PartlySteps (followed first more) after out out_after (Err e)
  first_refused after out_after e h = record {
    state = tt;
    sent = tt;
    fits = tt;
    room = λ is all. h.room is (first_fits out first.sends (more first.next).sends [] [] all);
    few = tt;
    grown = h.grown;
  }

  -- the second part was taken, or was refused
  module _ (middle : Out) (put : middle ≡ put_on out first.sends first.events) (fits : Fits first.sends out) (before after : S) (out_after : Out) where
    pub second_ended : (outcome : Result (Unit {0}) StepRefused) → StepsTo (more first.next) before after middle out_after outcome Over → OnOk outcome (length (first.events ++ (more first.next).events) ≤ 2) → PartlySteps (followed first more) after out out_after outcome
    second_ended (Ok done) h few = record {
      state = h.state;
      sent = h.sent ∙ ap (λ (o : Out). put_on o (more first.next).sends (more first.next).events) put ∙ put_both out first.sends (more first.next).sends first.events (more first.next).events;
      fits = both_fit out first.sends (more first.next).sends first.events [] fits (subst (Fits (more first.next).sends) put h.fits);
      room = λ wrong. cc;
      few = few;
      grown = tt;
    }
    second_ended (Err e) h few = record {
      state = tt;
      sent = tt;
      fits = tt;
      room = λ is all. h.room is (subst (Fits (more first.next).sends) (sym put) (second_fits out first.sends (more first.next).sends first.events [] all));
      few = tt;
      grown = record { sends = first.sends; events = first.events; fits = fits; is = h.unsent ∙ put };
    }

module _ {S : Type 0} (row : Row S) (before after : S) (out out_after : Out) where
  -- a step that was taken or refused at once is so in parts
  pub refused_at_once : (e : StepRefused) → StepsTo {R = Unit {0}} row before after out out_after (Err e) Over → PartlySteps row after out out_after (Err e)
  refused_at_once e h = record { state = tt; sent = tt; fits = tt; room = h.room; few = tt; grown = not_grown out out_after h.unsent }

  -- all parts were taken, or what was done of them is undone
  pub whole_taken : (done : Unit {0}) → PartlySteps row after out out_after (Ok done) → StepsTo row before after out out_after (Ok done) Over
  whole_taken done h = record { state = h.state; sent = h.sent; fits = h.fits; room = λ wrong. cc; few = h.few; unchanged = tt; unsent = tt }

  pub whole_undone : (cut : Out) (e : StepRefused) → PartlySteps row after out out_after (Err e) → cut ≡ cut_to out_after (length out.sends) (length out.events) → StepsTo {R = Unit {0}} row before before out cut (Err e) Over
  whole_undone cut e h is = record { state = tt; sent = tt; fits = tt; room = h.room; few = tt; unchanged = refl; unsent = is ∙ cut_back_grown out out_after h.grown }

-- the halves of a client, one after the other
module _ (input : Input) (a : ClientState) (r : ReaderState) (out : Out) where
  pub appends_refused : (after : ClientState) (middle : Out) (e : StepRefused) → StepsTo {R = Unit {0}} (client_step a input) a after out middle (Err e) Over → PartlySteps (both_step input (halves_of a r)) (halves_of after r) out middle (Err e)
  appends_refused after middle e h =
      first_refused (appends_step input (halves_of a r)) (reads_step input) out (halves_of after r) middle e
      (refused_at_once (appends_step input (halves_of a r)) (halves_of a r) (halves_of after r) out middle e (part_steps (λ (x : ClientState). halves_of x r) (client_step a input) a after out middle (Err e) Over h))

  few_told : TellsNothing (client_step a input) → (outcome : Result (Unit {0}) StepRefused) → OnOk outcome (length (reader_step r input).events ≤ 2) → OnOk outcome (length ((client_step a input).events ++ (reader_step r input).events) ≤ 2)
  few_told quiet (Ok done) few = subst (λ (told : List Event). length (told ++ (reader_step r input).events) ≤ 2) (sym quiet) few
  few_told quiet (Err e) few = tt

  pub reads_ended : TellsNothing (client_step a input) → (mid : ClientState) (middle : Out) (done : Unit {0}) → StepsTo (client_step a input) a mid out middle (Ok done) Over
      → (after : ReaderState) (out_after : Out) (outcome : Result (Unit {0}) StepRefused) → StepsTo (reader_step r input) r after middle out_after outcome Over
      → PartlySteps (both_step input (halves_of a r)) (halves_of mid after) out out_after outcome
  reads_ended quiet mid middle done h after out_after outcome k =
      let stepped : ClientState = (client_step a input).next in
      subst (λ (x : ClientState). PartlySteps (both_step input (halves_of a r)) (halves_of x after) out out_after outcome) (sym h.state)
      (second_ended (appends_step input (halves_of a r)) (reads_step input) out middle h.sent h.fits (halves_of stepped r) (halves_of stepped after) out_after outcome
      (part_steps (halves_of stepped) (reader_step r input) r after middle out_after outcome Over k)
      (few_told quiet outcome k.few))

-- and then the view
asks_quietly : (asks : Bool) (n : ClientNode) → TellsNothing (asks_view asks n)
asks_quietly true n = refl
asks_quietly false n = refl

module _ (asks : Bool) (input : Input) (n : ClientNode) (out : Out) where
  few_asked : (outcome : Result (Unit {0}) StepRefused) → length (both_step input n).events ≤ 2 → OnOk outcome (length ((both_step input n).events ++ (asks_view asks (both_step input n).next).events) ≤ 2)
  few_asked (Ok done) few =
      let none : length (asks_view asks (both_step input n).next).events ≡ 0 = ap length (asks_quietly asks (both_step input n).next) in
      omega (arith, length-append (both_step input n).events (asks_view asks (both_step input n).next).events)
  few_asked (Err e) few = tt

  pub asking_ended : (mid : ClientNode) (middle : Out) (done : Unit {0}) → PartlySteps (both_step input n) mid out middle (Ok done)
      → (out_after : Out) (outcome : Result (Unit {0}) StepRefused) → ((m : ClientNode) → StepsTo (asks_view asks m) m m middle out_after outcome Over)
      → PartlySteps (parts_step asks input n) mid out out_after outcome
  asking_ended mid middle done h out_after outcome k =
      subst (λ (x : ClientNode). PartlySteps (parts_step asks input n) x out out_after outcome) (sym h.state)
      (second_ended (both_step input n) (asks_view asks) out middle h.sent h.fits (both_step input n).next (both_step input n).next out_after outcome (k (both_step input n).next) (few_asked outcome h.few))

-- where nothing is asked for, the parts are the halves alone
pub without_asking : (input : Input) (n : ClientNode) → parts_step false input n ≡ both_step input n
without_asking input n =
    ap (λ (sends : List (ℕ × Msg)). record { next = (both_step input n).next; sends = sends; events = (both_step input n).events ++ [] }) (append-nil (both_step input n).sends)
    ∙ ap (λ (events : List Event). record { next = (both_step input n).next; sends = (both_step input n).sends; events = events }) (append-nil (both_step input n).events)
