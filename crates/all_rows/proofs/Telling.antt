-- What was told in answers, from what holds of a world.
use Rattle.std.proofs.Common.{◌≡◌, ℕ, ◌+◌, ◌<◌, ◌≤◌, List, [], ◌∷◌, length, Option, Some, None, refl, sym, ap, subst, arith}
use Rattle.std.specs.Prelude.{option_map}
use Rattle.std.proofs.lemmas.Option.{slice_get_within}
use Rattle.list_facts.specs.Lists.{Each, In}
use Rattle.list_facts.proofs.Members.{in_each}
use Rattle.list_facts.proofs.Places.{at_in}
use Rattle.rec_id.specs.Identity.{Identity}
use Rattle.rec_id.specs.declared.entry.Entry.{Entry}
use Rattle.rec_id.specs.declared.event.Event.TheVariants.{Answer}
use Rattle.rec_id.specs.declared.event.Event.{Event}
use Rattle.rec_id.specs.History.{answer_reach, end_of}
use Rattle.view_config.specs.Shape.{Dimensions}
use Rattle.log_facts.specs.Ghosts.{Ghost}
use Rattle.log_facts.specs.Good.{Moment}
use Rattle.log_facts.specs.Parts.{Parts}
use Rattle.log_facts.specs.Past.{ToldAs}
use Rattle.log_facts.specs.Signs.{Away, Filled, Lacking, Sign, Sort, Void, sign_of}
use Rattle.log_facts.specs.facts.OfReads.{AnswerFacts, PlaceTold}
use Rattle.reader_rows.proofs.Owners.{final_somewhere}
use Rattle.all_rows.specs.Records.{AreTold, IsTold}

-- what is told of a sign is a record with its bytes, or a no-op
told_of : (history : List Event) (id : Identity) (sort : Sort) (entry : Entry) → ToldAs history id sort entry → IsTold history entry
told_of history id Away entry t = absurd t
told_of history id Filled entry t = subst (IsTold history) (sym t.1) t.2
told_of history id Void entry t = subst (IsTold history) (sym t) tt
told_of history id Lacking entry t = absurd t

module _ (shape : Dimensions) (g : Ghost) (a : Parts) (moment : Moment shape g a) where
  place_told : (place : ℕ) (entry : Entry) → place < g.log.low → PlaceTold shape g.views g.log a.history a.shards place entry → IsTold a.history entry
  place_told place entry bound t =
      let there = final_somewhere shape g a moment t.shard place t.known bound in
      let sign : Sign = sign_of there.cell in
      told_of a.history sign.id sign.sort entry (t.tells there.node sign there.home there.some there.final (ap (option_map sign_of) there.at))

  module _ (client read from : ℕ) (entries : List Entry) (tail : Option ℕ) (i : In (Answer client read from entries tail) a.history) where
    facts : AnswerFacts shape g.views g.log a.history a.shards client read from entries tail
    facts = moment.agreed.told.of_reads.answers client read from entries tail i

    reach : answer_reach from entries tail ≤ g.log.low
    reach = moment.agreed.line.reached (Answer client read from entries tail) (answer_reach from entries tail) refl i

    -- each place that was told lies below what was reached
    within : (k : ℕ) → k < length entries → from + k < g.log.low
    within k below = by tail refl
      where
        whole : (xs : List Entry) → k < length xs → end_of from xs ≤ g.log.low → from + k < g.log.low
        whole [] few low = absurd (omega arith)
        whole (x ∷ xs) few low = omega arith

        by : (t : Option ℕ) → tail ≡ t → from + k < g.log.low
        by None is = whole entries below (subst (λ (o : Option ℕ). answer_reach from entries o ≤ g.log.low) is reach)
        by (Some t) is =
            let low : t ≤ g.log.low = subst (λ (o : Option ℕ). answer_reach from entries o ≤ g.log.low) is reach in
            let count = facts.count t is in
            omega arith

    pub entries_told : Each (IsTold a.history) entries
    entries_told = in_each (IsTold a.history) entries (λ entry j.
        let at = at_in entries entry j in
        place_told (from + at.0) entry (within at.0 (slice_get_within entries at.0 entry at.1)) (facts.told at.0 entry at.1))

  pub all_told : AreTold a.history
  all_told client read from entries tail i = entries_told client read from entries tail i
