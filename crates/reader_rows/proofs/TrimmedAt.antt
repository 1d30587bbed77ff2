-- TrimmedAt at a reader: a part of what the read wants was given up, and it is over.
use Rattle.std.proofs.Common.{◌≡◌, ℕ, ◌<◌, ◌≤◌, [], ◌∷◌, ◌++◌, Some, None, inl, refl, sym, ap, ◌∙◌, subst}
use Rattle.std.specs.Prelude.{◌==◌, ◌&&◌, nat_lt, if◌then◌else◌}
use Rattle.std.proofs.lemmas.Bool.{and_parts, eqb-true, ltb-true}
use Rattle.list_facts.specs.Lists.{In}
use Rattle.list_facts.proofs.Cases.{either}
use Rattle.list_facts.proofs.Precedence.{precedes_across}
use Rattle.rec_id.specs.declared.event.Event.{Event}
use Rattle.rec_id.specs.declared.event.Event.TheVariants.{Begin, TrimAsk, Trimmed}
use Rattle.rec_id.specs.History.{Read, asked_from, begun_read}
use Rattle.view_config.specs.Shape.{Dimensions}
use Rattle.lazy_msgs.specs.declared.msg.Msg.TheVariants.{TrimmedAt}
use Rattle.lazy_rules.specs.ReaderRules.{ends_read, on_trimmed_at}
use Rattle.lazy_rules.specs.ReaderState.{Fetch, Fetching, Idle, Probing, ReaderState, Stage, Trimming}
use Rattle.lazy_rules.specs.Rows.{stays}
use Rattle.log_facts.specs.Ghosts.{Ghost}
use Rattle.log_facts.specs.Good.{GoodReader, Heard, Moment}
use Rattle.log_facts.specs.Parts.{Parts}
use Rattle.log_facts.specs.facts.OfHistory.{TrimmedFacts}
use Rattle.log_facts.specs.facts.OfReads.{IsReading, StageFacts}
use Rattle.log_facts.proofs.telling.Histories.{ReadAllowed, history_more, no_append, no_trim, none_new}
use Rattle.log_facts.proofs.telling.Told.{Tells}
use Rattle.reader_rows.proofs.Ending.{EndsOwn, over_keeps}
use Rattle.reader_rows.proofs.Stepping.{stays_good, tells_good}

module _ (shape : Dimensions) (g : Ghost) (a : Parts) (sender c number floor : ℕ) (moment : Moment shape g a) (heard : Heard shape g a sender c (TrimmedAt number floor)) where
  abbrev r : ReaderState
  r = a.readers c

  abbrev event : Event
  event = Trimmed c number floor

  abbrev read : Read
  read = record { client = c; number = number }

  module _ (fetch : Fetch) (is : r.stage ≡ Fetching fetch) (same : fetch.number ≡ number) (wanted : asked_from fetch.ask < floor) where
    reading : IsReading a.history c number fetch.ask
    reading = subst (λ (n : ℕ). IsReading a.history c n fetch.ask) same (subst (StageFacts a.history c) is (moment.agreed.clients.reads c).stage)

    trimmed : TrimmedFacts (a.history ++ event ∷ []) c number floor
    trimmed = record {
      ask = fetch.ask;
      begun = precedes_across (Begin c number fetch.ask) event a.history (event ∷ []) reading.begun (inl refl);
      below = wanted;
      trimmer = heard.said.asked.client;
      trim = heard.said.asked.read;
      asked = heard.said.asked.asked;
      before = precedes_across (TrimAsk heard.said.asked.client heard.said.asked.read heard.said.asked.asked) event a.history (event ∷ []) heard.said.asked.stands (inl refl);
      at_least = heard.said.asked.at_least;
    }

    allowed : ReadAllowed a.history event
    allowed = record {
      begun_new = none_new begun_read a.history event refl;
      begun = λ other one. let both : Some read ≡ Some other = one in let same_read : read ≡ other = cc in (fetch.ask, subst (λ (x : Read). In (Begin x.client x.number fetch.ask) a.history) same_read reading.begun);
      ended_new = λ other one before i two. let both : Some read ≡ Some other = one in let same_read : read ≡ other = cc in reading.going before i (two ∙ ap (λ (x : Read). Some x) (sym same_read));
      trimmed = λ client other limit one. same_trim client other limit one;
    }
      where
        same_trim : (client other limit : ℕ) → event ≡ Trimmed client other limit → TrimmedFacts (a.history ++ event ∷ []) client other limit
        same_trim client other limit one =
            let first : c ≡ client = cc in
            let second : number ≡ other = cc in
            let third : floor ≡ limit = cc in
            subst (λ (x : ℕ). TrimmedFacts (a.history ++ event ∷ []) x other limit) first
            (subst (λ (x : ℕ). TrimmedFacts (a.history ++ event ∷ []) c x limit) second
            (subst (λ (x : ℕ). TrimmedFacts (a.history ++ event ∷ []) c number x) third trimmed))

    tells : Tells shape g a event
    tells = record {
      once = history_more shape a.history event (no_append shape a.history event refl refl) allowed (no_trim a.history event refl refl) moment.agreed.history;
      begins = λ client other asked one. cc;
      invokes = λ id bytes one. cc;
      ends = λ id one. let wrong : None ≡ Some id = one in cc;
      reaches = λ x one. let both : Some floor ≡ Some x = one in let same_floor : floor ≡ x = cc in subst (λ (n : ℕ). n ≤ g.log.low) same_floor heard.said.below;
      acked = λ id apart one. cc;
      rejected = λ id place one. cc;
      trimmed = λ client other limit one. cc;
      answers = λ client other from entries tail one. cc;
      seen = λ client from ids one. cc;
    }

    ends_own : EndsOwn c number event
    ends_own = record {
      begins = refl;
      asks = refl;
      invokes = refl;
      finishes = refl;
      read = λ other one. let both : Some read ≡ Some other = one in let same_read : read ≡ other = cc in ap (λ (x : Read). x.client) (sym same_read);
      trim = λ other one. let wrong : None ≡ Some other = one in cc;
    }

    ends_good : GoodReader shape g a c (ends_read r number floor)
    ends_good = tells_good shape g a c moment (ends_read r number floor) event (ap (λ (x : ℕ). Trimmed x number floor ∷ []) (moment.formed.readers c).numbered)
        (over_keeps shape g a c moment r (moment.agreed.clients.reads c) number event ends_own tells r.reach (moment.agreed.clients.reads_noted c).reach) tt

  by_stage : (stage : Stage) → r.stage ≡ stage → GoodReader shape g a c (elim stage [
    | Fetching fetch ↦
        if fetch.number == number && nat_lt (asked_from fetch.ask) floor then ends_read r number floor else stays r
    | _ ↦ stays r
  ])
  by_stage Idle is = stays_good shape g a c moment
  by_stage (Probing force) is = stays_good shape g a c moment
  by_stage (Trimming trimmer) is = stays_good shape g a c moment
  by_stage (Fetching fetch) is = either (GoodReader shape g a c) (fetch.number == number && nat_lt (asked_from fetch.ask) floor) (ends_read r number floor) (stays r)
      (λ e. let parts = and_parts (fetch.number == number) (nat_lt (asked_from fetch.ask) floor) e in ends_good fetch is (eqb-true fetch.number number parts.0) (ltb-true (asked_from fetch.ask) floor parts.1))
      (λ e. stays_good shape g a c moment)

  pub trimmed_at_good : GoodReader shape g a c (on_trimmed_at r number floor)
  trimmed_at_good = by_stage r.stage refl
