-- A read is answered, with what it asked for or what lies below its tail.
use Rattle.std.proofs.Common.{◌≡◌, ℕ, ◌+◌, ◌-◌, ◌≤◌, List, [], ◌∷◌, ◌++◌, Option, Some, None, inl, inr, refl, sym, ap, ◌∙◌, subst, arith, false}
use Rattle.std.specs.Prelude.{length, max, min, slice_get, take}
use Rattle.list_facts.specs.Lists.{In}
use Rattle.list_facts.proofs.Precedence.{precedes_across}
use Rattle.rec_id.specs.declared.entry.Entry.{Entry}
use Rattle.rec_id.specs.declared.event.Ask.{Ask}
use Rattle.rec_id.specs.declared.event.Event.{Event}
use Rattle.rec_id.specs.declared.event.Event.TheVariants.{Answer, Begin}
use Rattle.rec_id.specs.History.{Read, answer_reach, asked_from, asked_to, begun_read, is_tail}
use Rattle.view_config.specs.Shape.{Dimensions}
use Rattle.lazy_rules.specs.ReaderRules.{answered}
use Rattle.lazy_rules.specs.ReaderState.{ReaderState}
use Rattle.log_facts.specs.Ghosts.{Ghost}
use Rattle.log_facts.specs.Good.{GoodReader, Moment}
use Rattle.log_facts.specs.Growth.{HistoryGrows}
use Rattle.log_facts.specs.Parts.{Parts}
use Rattle.log_facts.specs.Past.{Covers, HasBegun}
use Rattle.log_facts.specs.facts.OfReads.{AnswerFacts, IsReading, PlaceTold, ReaderFacts}
use Rattle.log_facts.proofs.growth.Pasts.{tells_later}
use Rattle.log_facts.proofs.telling.Histories.{ReadAllowed, history_more, no_append, no_trim, none_new}
use Rattle.log_facts.proofs.telling.Past.{covers_stays}
use Rattle.log_facts.proofs.telling.Told.{Tells}
use Rattle.reader_rows.proofs.Ending.{EndsOwn, over_keeps}
use Rattle.reader_rows.proofs.Stepping.{tells_good}

-- what is known of an answer before it is given
pub record CanAnswer (shape : Dimensions) (g : Ghost) (a : Parts) (c number : ℕ) (ask : Ask) (entries : List Entry) (tail : Option ℕ) : Type 0 where
  pub reading : IsReading a.history c number ask
  pub unforced : tail ≡ None → is_tail ask ≡ false
  pub whole : tail ≡ None → asked_from ask + length entries ≡ asked_to ask
  pub count : (t : ℕ) → tail ≡ Some t → length entries ≡ min (asked_to ask) t - asked_from ask
  pub covers : (t : ℕ) → tail ≡ Some t → Covers a.history c number (take t g.log.line) t
  pub below : answer_reach (asked_from ask) entries tail ≤ g.log.low
  pub told : (k : ℕ) (entry : Entry) → slice_get entries k ≡ Some entry → PlaceTold shape g.views g.log a.history a.shards (asked_from ask + k) entry

module _ (shape : Dimensions) (g : Ghost) (a : Parts) (c : ℕ) (moment : Moment shape g a) (r : ReaderState) (own : r.client ≡ c) (keeps : ReaderFacts g.views a.history c r) (reach : r.reach ≤ g.log.low)
    (number : ℕ) (ask : Ask) (entries : List Entry) (tail : Option ℕ) (can : CanAnswer shape g a c number ask entries tail) where
  abbrev answer : Event
  answer = Answer c number (asked_from ask) entries tail

  abbrev later : List Event
  later = a.history ++ answer ∷ []

  abbrev read : Read
  read = record { client = c; number = number }

  fresh : (client other : ℕ) (asked : Ask) → In (Begin client other asked) (answer ∷ []) → ¬ HasBegun a.history client other
  fresh client other asked i = elim i [ inl is ↦ cc | inr none ↦ absurd none ]

  grows : HistoryGrows g.log.probed a.history later
  grows = record {
    told = answer ∷ [];
    is = refl;
    unbegun = fresh;
    unread = λ client other asked i. elim i [ inl is ↦ cc | inr none ↦ absurd none ];
  }

  begun : HasBegun a.history c number
  begun = record { ask = ask; stands = can.reading.begun }

  place_later : (place : ℕ) (entry : Entry) → PlaceTold shape g.views g.log a.history a.shards place entry → PlaceTold shape g.views g.log later a.shards place entry
  place_later place entry t = record {
    shard = t.shard;
    known = t.known;
    tells = λ d sign home some final at. tells_later g.log.probed a.history later grows sign (Some entry) (t.tells d sign home some final at);
  }

  facts_of : AnswerFacts shape g.views g.log later a.shards c number (asked_from ask) entries tail
  facts_of = record {
    ask = ask;
    begun = precedes_across (Begin c number ask) answer a.history (answer ∷ []) can.reading.begun (inl refl);
    starts = refl;
    unforced = can.unforced;
    whole = can.whole;
    count = can.count;
    covers = λ t is. covers_stays a.history (answer ∷ []) fresh c number (take t g.log.line) t begun (can.covers t is);
    told = λ k entry at. place_later (asked_from ask + k) entry (can.told k entry at);
  }

  allowed : ReadAllowed a.history answer
  allowed = record {
    begun_new = none_new begun_read a.history answer refl;
    begun = λ other is. let both : Some read ≡ Some other = is in let same : read ≡ other = cc in (ask, subst (λ (x : Read). In (Begin x.client x.number ask) a.history) same can.reading.begun);
    ended_new = λ other is before i one. let both : Some read ≡ Some other = is in let same : read ≡ other = cc in can.reading.going before i (one ∙ ap (λ (x : Read). Some x) (sym same));
    trimmed = λ client other floor is. cc;
  }

  tells : Tells shape g a answer
  tells = record {
    once = history_more shape a.history answer (no_append shape a.history answer refl refl) allowed (no_trim a.history answer refl refl) moment.agreed.history;
    begins = λ client other asked is. cc;
    invokes = λ id bytes is. cc;
    ends = λ id is. let wrong : None ≡ Some id = is in cc;
    reaches = λ x is. let both : Some (answer_reach (asked_from ask) entries tail) ≡ Some x = is in let same : answer_reach (asked_from ask) entries tail ≡ x = cc in subst (λ (n : ℕ). n ≤ g.log.low) same can.below;
    acked = λ id apart is. cc;
    rejected = λ id place is. cc;
    trimmed = λ client other floor is. cc;
    answers = λ client other from others t is. same_answer client other from others t is;
    seen = λ client from ids is. cc;
  }
    where
      same_answer : (client other from : ℕ) (others : List Entry) (t : Option ℕ) → answer ≡ Answer client other from others t → AnswerFacts shape g.views g.log later a.shards client other from others t
      same_answer client other from others t is =
          let one : c ≡ client = cc in
          let two : number ≡ other = cc in
          let three : asked_from ask ≡ from = cc in
          let four : entries ≡ others = cc in
          let five : tail ≡ t = cc in
          subst (λ (x : ℕ). AnswerFacts shape g.views g.log later a.shards x other from others t) one
          (subst (λ (x : ℕ). AnswerFacts shape g.views g.log later a.shards c x from others t) two
          (subst (λ (x : ℕ). AnswerFacts shape g.views g.log later a.shards c number x others t) three
          (subst (λ (x : List Entry). AnswerFacts shape g.views g.log later a.shards c number (asked_from ask) x t) four
          (subst (λ (x : Option ℕ). AnswerFacts shape g.views g.log later a.shards c number (asked_from ask) entries x) five facts_of))))

  ends_own : EndsOwn c number answer
  ends_own = record {
    begins = refl;
    asks = refl;
    invokes = refl;
    finishes = refl;
    read = λ other is. let both : Some read ≡ Some other = is in let same : read ≡ other = cc in ap (λ (x : Read). x.client) (sym same);
    trim = λ other is. let wrong : None ≡ Some other = is in cc;
  }

  pub answered_good : GoodReader shape g a c (answered r number ask entries tail)
  answered_good =
      let below = can.below in
      tells_good shape g a c moment (answered r number ask entries tail) answer (ap (λ (x : ℕ). Answer x number (asked_from ask) entries tail ∷ []) own)
      (over_keeps shape g a c moment r keeps number answer ends_own tells (max r.reach (answer_reach (asked_from ask) entries tail)) (max_below r.reach (answer_reach (asked_from ask) entries tail) g.log.low reach below)) tt
    where
      max_below : (m n l : ℕ) → m ≤ l → n ≤ l → max m n ≤ l
      max_below m n l first second = omega arith
