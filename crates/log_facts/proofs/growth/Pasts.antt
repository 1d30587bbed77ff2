-- What a history says of its past, once more is told.
use Rattle.std.proofs.Common.{ℕ, ◌≤◌, List, [], ◌∷◌, Some, Option, None, inl, inr, sym, subst, arith}
use Rattle.list_facts.specs.Lists.{In, Precedes}
use Rattle.list_facts.proofs.Members.{in_left}
use Rattle.list_facts.proofs.Precedence.{precedes_cases}
use Rattle.rec_id.specs.Identity.{Identity}
use Rattle.rec_id.specs.declared.entry.Entry.{Entry}
use Rattle.rec_id.specs.declared.event.Ask.{Ask}
use Rattle.rec_id.specs.declared.event.Event.{Event}
use Rattle.rec_id.specs.declared.event.Event.TheVariants.{Begin}
use Rattle.log_facts.specs.Finality.{TellsSign}
use Rattle.log_facts.specs.Ghosts.{Probed}
use Rattle.log_facts.specs.Growth.{HistoryGrows}
use Rattle.log_facts.specs.Past.{Covers, EndedBefore, HasBegun, HasEnded, IsBegun, IsTrimAsked, ReachedBefore, ToldAs}
use Rattle.log_facts.specs.Signs.{Sign, Sort, Away, Filled, Void, Lacking}

pub precedes_second : {A : Type 0} (x y : A) (xs : List A) → Precedes x y xs → In y xs
precedes_second x y [] h = absurd h
precedes_second x y (z ∷ zs) (inl h) = inr h.1
precedes_second x y (z ∷ zs) (inr h) = inr (precedes_second x y zs h)

module _ (probed : List Probed) (history later : List Event) (grows : HistoryGrows probed history later) where
  pub in_later : (event : Event) → In event history → In event later
  in_later event h = subst (λ (es : List Event). In event es) (sym grows.is) (in_left event history grows.told h)

  pub begun_later : (id : Identity) → IsBegun history id → IsBegun later id
  begun_later id h = record { bytes = h.bytes; stands = in_later _ h.stands }

  pub ended_later : (id : Identity) → HasEnded history id → HasEnded later id
  ended_later id h = record { event = h.event; ends = h.ends; stands = in_later _ h.stands }

  pub read_later : (client read : ℕ) → HasBegun history client read → HasBegun later client read
  read_later client read h = record { ask = h.ask; stands = in_later _ h.stands }

  pub trim_later : (floor : ℕ) → IsTrimAsked history floor → IsTrimAsked later floor
  trim_later floor h = record { client = h.client; read = h.read; asked = h.asked; stands = in_later _ h.stands; at_least = h.at_least }

  pub told_later : (id : Identity) (sort : Sort) (entry : Entry) → ToldAs history id sort entry → ToldAs later id sort entry
  told_later id Away entry h = h
  told_later id Filled entry h = (h.0, h.1, in_later _ h.2)
  told_later id Void entry h = h
  told_later id Lacking entry h = h

  pub tells_later : (sign : Sign) (told : Option Entry) → TellsSign history sign told → TellsSign later sign told
  tells_later sign None h = h
  tells_later sign (Some entry) h = told_later sign.id sign.sort entry h

  module _ (client read : ℕ) (begun : HasBegun history client read) where
    -- what comes before the read's beginning had come before it
    before_begun : (event : Event) (ask : Ask) → Precedes event (Begin client read ask) later → Precedes event (Begin client read ask) history
    before_begun event ask h = elim (precedes_cases event (Begin client read ask) history grows.told (subst (λ (es : List Event). Precedes event (Begin client read ask) es) grows.is h)) [
      | inl before ↦ before
      | inr (inl across) ↦ absurd (grows.unbegun client read ask across.1 begun)
      | inr (inr behind) ↦ absurd (grows.unbegun client read ask (precedes_second event (Begin client read ask) grows.told behind) begun)
    ]

    pub ended_before : (id : Identity) → EndedBefore later client read id → EndedBefore history client read id
    ended_before id h = record { event = h.event; ends = h.ends; ask = h.ask; before = before_begun h.event h.ask h.before }

    pub reached_before : (reach : ℕ) → ReachedBefore later client read reach → ReachedBefore history client read reach
    reached_before reach h = record { event = h.event; reaches = h.reaches; ask = h.ask; before = before_begun h.event h.ask h.before }

    -- what covered the read covers it, and so does what has more
    pub covers_later : (ids more : List Identity) (bound higher : ℕ) → ((id : Identity) → In id ids → In id more) → bound ≤ higher → Covers history client read ids bound → Covers later client read more higher
    covers_later ids more bound higher has le h = record {
      ended = λ id before. has id (h.ended id (ended_before id before));
      reached = λ reach before. let below = h.reached reach (reached_before reach before) in omega arith;
    }
