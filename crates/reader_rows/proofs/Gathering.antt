-- The parts of all shards, put together, are what the read asked for.
use Rattle.std.proofs.Common.{◌≡◌, ℕ, zero, suc, ◌+◌, ◌-◌, ◌<◌, ◌≤◌, List, [], ◌∷◌, ◌++◌, length, Option, Some, None, Bool, true, false, inl, inr, refl, sym, ap, ◌∙◌, subst, arith}
use Rattle.std.specs.Prelude.{◌==◌, flat_map, slice_get, unwrap_or, if◌then◌else◌}
use Rattle.std.specs.List.{list_all, range_with_len}
use Rattle.std.specs.Option.{is_some, option_to_list}
use Rattle.std.proofs.lemmas.Option.{slice_get_within}
use Rattle.list_facts.specs.Lists.{In}
use Rattle.list_facts.proofs.Cases.{either}
use Rattle.list_facts.proofs.Members.{all_pass}
use Rattle.list_facts.proofs.Places.{at_in, below_at, in_at}
use Rattle.rec_id.specs.declared.entry.Entry.{Entry}
use Rattle.rec_id.specs.History.{answer_reach, asked_from, end_of}
use Rattle.view_config.specs.Shape.{Dimensions}
use Rattle.lazy_rules.specs.ReaderRules.{answered, at_stage, entries_in, entry_at, gathers, told_by_all}
use Rattle.lazy_rules.specs.ReaderState.{Fetch, Fetching, ReaderState}
use Rattle.lazy_rules.specs.Rows.{stays}
use Rattle.log_facts.specs.Finality.{TellsPlace}
use Rattle.log_facts.specs.Ghosts.{Ghost}
use Rattle.log_facts.specs.Good.{GoodReader, Moment}
use Rattle.log_facts.specs.Parts.{Parts}
use Rattle.log_facts.specs.facts.OfReads.{FetchNotes, IsReading, PlaceTold, ReaderFacts}
use Rattle.reader_rows.proofs.Answering.{CanAnswer, answered_good}
use Rattle.reader_rows.proofs.Owners.{IsOwned, owned}
use Rattle.reader_rows.proofs.Stepping.{keeps_good}

abbrev Told : Type 0
Told = List (ℕ × Entry)

-- what stands in the first of two lists is found there
entry_first : (xs ys : Told) (place : ℕ) (entry : Entry) → entry_at xs place ≡ Some entry → entry_at (xs ++ ys) place ≡ Some entry
entry_first [] ys place entry at = cc
entry_first (placed ∷ xs) ys place entry at = by (entry_first xs ys place entry) (placed.0 == place) at
  where
    by : (entry_at xs place ≡ Some entry → entry_at (xs ++ ys) place ≡ Some entry) → (b : Bool) → (if b then Some placed.1 else entry_at xs place) ≡ Some entry → (if b then Some placed.1 else entry_at (xs ++ ys) place) ≡ Some entry
    by more true e = e
    by more false e = more e

entry_next : (xs ys : Told) (place : ℕ) → entry_at xs place ≡ None → entry_at (xs ++ ys) place ≡ entry_at ys place
entry_next [] ys place none = refl
entry_next (placed ∷ xs) ys place none = by (entry_next xs ys place) (placed.0 == place) none
  where
    by : (entry_at xs place ≡ None → entry_at (xs ++ ys) place ≡ entry_at ys place) → (b : Bool) → (if b then Some placed.1 else entry_at xs place) ≡ None → (if b then Some placed.1 else entry_at (xs ++ ys) place) ≡ entry_at ys place
    by more true e = cc
    by more false e = more e

-- what one of the parts tells of a place, some part tells first
found : (Q : Entry → Type 0) (parts : List (Option Told)) (place : ℕ) →
    ((entries : Told) (entry : Entry) → In (Some entries) parts → entry_at entries place ≡ Some entry → Q entry) →
    (entries : Told) (entry : Entry) → In (Some entries) parts → entry_at entries place ≡ Some entry → (first : Entry) × (entry_at (told_by_all parts) place ≡ Some first) × Q first
found Q [] place each entries entry i at = absurd i
found Q (part ∷ parts) place each entries entry i at = by (λ j. found Q parts place (λ others other k. each others other (inr k)) entries entry j at) (entry_at (unwrap_or part []) place) refl
  where
    rest : (In (Some entries) parts → (first : Entry) × (entry_at (told_by_all parts) place ≡ Some first) × Q first) → In (Some entries) parts → entry_at (unwrap_or part []) place ≡ None → (first : Entry) × (entry_at (told_by_all (part ∷ parts)) place ≡ Some first) × Q first
    rest more j none = ((more j).0, entry_next (unwrap_or part []) (told_by_all parts) place none ∙ (more j).1, (more j).2)

    here : (one : Option Told) → part ≡ one → (first : Entry) → entry_at (unwrap_or one []) place ≡ Some first → Q first
    here None is first has = cc
    here (Some others) is first has = each others first (inl is) has

    by : (In (Some entries) parts → (first : Entry) × (entry_at (told_by_all parts) place ≡ Some first) × Q first) → (told : Option Entry) → entry_at (unwrap_or part []) place ≡ told → (first : Entry) × (entry_at (told_by_all (part ∷ parts)) place ≡ Some first) × Q first
    by more (Some first) has = (first, entry_first (unwrap_or part []) (told_by_all parts) place first has, here part refl first has)
    by more None none = elim i [
      | inl is ↦ let wrong : None ≡ Some entry = sym none ∙ ap (λ (o : Option Told). entry_at (unwrap_or o []) place) is ∙ at in cc
      | inr j ↦ rest more j none
    ]

-- where each place has an entry, the entries are as many as the places, each at its own
module _ (get : ℕ → Option Entry) where
  abbrev listed : ℕ → ℕ → List Entry
  listed from n = flat_map (λ place. option_to_list (get place)) (range_with_len from n)

  one_first : (from n : ℕ) (entry : Entry) → get from ≡ Some entry → listed from (suc n) ≡ entry ∷ listed (from + 1) n
  one_first from n entry at = ap (λ (o : Option Entry). option_to_list o ++ listed (from + 1) n) at

  pub all_listed : (n from : ℕ) → ((place : ℕ) → from ≤ place → place < from + n → (entry : Entry) × (get place ≡ Some entry)) → length (listed from n) ≡ n
  all_listed zero from each = refl
  all_listed (suc n) from each =
      let first = each from (omega arith) (omega arith) in
      let more = all_listed n (from + 1) (λ place least most. each place (omega arith) (omega arith)) in
      let is : length (listed from (suc n)) ≡ length (first.0 ∷ listed (from + 1) n) = ap length (one_first from n first.0 first.1) in
      omega arith

  pub listed_at : (n from : ℕ) → ((place : ℕ) → from ≤ place → place < from + n → (entry : Entry) × (get place ≡ Some entry)) → (k : ℕ) (entry : Entry) → slice_get (listed from n) k ≡ Some entry → (k < n) × (get (from + k) ≡ Some entry)
  listed_at zero from each k entry at = cc
  listed_at (suc n) from each k entry at =
      let first = each from (omega arith) (omega arith) in
      by first.0 first.1 (listed_at n (from + 1) (λ place least most. each place (omega arith) (omega arith))) k (subst (λ (xs : List Entry). slice_get xs k ≡ Some entry) (one_first from n first.0 first.1) at)
    where
      by : (first : Entry) → get from ≡ Some first → ((k : ℕ) (entry : Entry) → slice_get (listed (from + 1) n) k ≡ Some entry → (k < n) × (get (from + 1 + k) ≡ Some entry)) → (k : ℕ) → slice_get (first ∷ listed (from + 1) n) k ≡ Some entry → (k < suc n) × (get (from + k) ≡ Some entry)
      by first has more zero here =
          let same : from + 0 ≡ from = omega arith in
          (omega arith, ap get same ∙ has ∙ here)
      by first has others (suc j) here =
          let more = others j entry here in
          let below : j < n = more.0 in
          let same : from + suc j ≡ from + 1 + j = omega arith in
          (omega arith, ap get same ∙ more.1)

module _ (shape : Dimensions) (g : Ghost) (a : Parts) (c : ℕ) (moment : Moment shape g a) (r : ReaderState) (own : r.client ≡ c) (facts : ReaderFacts g.views a.history c r) (reach : r.reach ≤ g.log.low)
    (fetch : Fetch) (reading : IsReading a.history c fetch.number fetch.ask) (notes : FetchNotes shape g.views g.log a.history a.shards c fetch) where
  abbrev from : ℕ
  from = asked_from fetch.ask

  stays_fetching : GoodReader shape g a c (stays (at_stage r (Fetching fetch)))
  stays_fetching = keeps_good shape g a c moment (stays (at_stage r (Fetching fetch))) refl (record {
    facts = record { config = facts.config; reads = facts.reads; trims = facts.trims; stage = reading };
    notes = record { reach = reach; stage = notes };
  }) tt

  module _ (all : list_all is_some fetch.parts ≡ true) where
    -- each shard told its part
    part_of : (shard : ℕ) → shard < shape.shards → (entries : Told) × (slice_get fetch.parts shard ≡ Some (Some entries))
    part_of shard below =
        let there : shard < length fetch.parts = let count = notes.count in omega arith in
        let one = below_at fetch.parts shard there in
        by one.0 one.1 (all_pass is_some fetch.parts all one.0 (in_at fetch.parts shard one.0 one.1))
      where
        by : (part : Option Told) → slice_get fetch.parts shard ≡ Some part → is_some part ≡ true → (entries : Told) × (slice_get fetch.parts shard ≡ Some (Some entries))
        by None at some = cc
        by (Some entries) at some = (entries, at)

    below : fetch.end ≤ g.log.low
    below = let first = part_of 0 moment.is_shape.shards_least in (notes.parts 0 first.0 first.1).below

    -- of each place that is wanted an entry is told, which is what its shard has
    told : (place : ℕ) → from ≤ place → place < fetch.end → (entry : Entry) × (entry_at (told_by_all fetch.parts) place ≡ Some entry) × PlaceTold shape g.views g.log a.history a.shards place entry
    told place least most =
        let owner : IsOwned shape g a moment place = owned shape g a moment place (omega (arith, below)) in
        let part = part_of owner.shard owner.known in
        let entry = owner.told (entry_at part.0 place) ((notes.parts owner.shard part.0 part.1).told place least most) in
        found (PlaceTold shape g.views g.log a.history a.shards place) fetch.parts place each part.0 entry.0 (in_at fetch.parts owner.shard (Some part.0) part.1) entry.1
      where
        each : (entries : Told) (entry : Entry) → In (Some entries) fetch.parts → entry_at entries place ≡ Some entry → PlaceTold shape g.views g.log a.history a.shards place entry
        each entries entry i at =
            let index = at_in fetch.parts (Some entries) i in
            let known : index.0 < length fetch.parts = slice_get_within fetch.parts index.0 (Some entries) index.1 in
            record {
              shard = index.0;
              known = let count = notes.count in omega arith;
              tells = subst (λ (o : Option Entry). TellsPlace g.views g.log.high a.history a.shards index.0 place o) at ((notes.parts index.0 entries index.1).told place least most);
            }

    wanted : (place : ℕ) → from ≤ place → place < from + (fetch.end - from) → (entry : Entry) × (entry_at (told_by_all fetch.parts) place ≡ Some entry)
    wanted place least most = let one = told place least (omega arith) in (one.0, one.1)

    abbrev entries : List Entry
    entries = entries_in fetch.parts from fetch.end

    count : length entries ≡ fetch.end - from
    count = all_listed (entry_at (told_by_all fetch.parts)) (fetch.end - from) from wanted

    place_told : (k : ℕ) (entry : Entry) → slice_get entries k ≡ Some entry → PlaceTold shape g.views g.log a.history a.shards (from + k) entry
    place_told k entry at =
        let one = listed_at (entry_at (told_by_all fetch.parts)) (fetch.end - from) from wanted k entry at in
        let within : k < fetch.end - from = one.0 in
        let other = told (from + k) (omega arith) (omega arith) in
        let same : other.0 ≡ entry = let both : Some other.0 ≡ Some entry = sym other.1 ∙ one.1 in cc in
        subst (PlaceTold shape g.views g.log a.history a.shards (from + k)) same other.2

    end_below : (xs : List Entry) → length xs ≡ fetch.end - from → end_of from xs ≤ g.log.low
    end_below [] is = omega arith
    end_below (x ∷ xs) is = let low = below in let forward = notes.wants.forward in omega arith

    reach_below : (tail : Option ℕ) → fetch.tail ≡ tail → answer_reach from entries tail ≤ g.log.low
    reach_below None is = end_below entries count
    reach_below (Some t) is = notes.wants.below t is

    can : CanAnswer shape g a c fetch.number fetch.ask entries fetch.tail
    can = record {
      reading = reading;
      unforced = notes.wants.unforced;
      whole = λ none. let whole = notes.wants.whole none in let forward = notes.wants.forward in let many = count in omega arith;
      count = λ t is. let forced = notes.wants.forced t is in count ∙ ap (λ (n : ℕ). n - from) forced;
      covers = notes.wants.covers;
      below = reach_below fetch.tail refl;
      told = place_told;
    }

  pub gathers_good : GoodReader shape g a c (gathers r fetch)
  gathers_good = either (GoodReader shape g a c) (list_all is_some fetch.parts) (answered r fetch.number fetch.ask (entries_in fetch.parts from fetch.end) fetch.tail) (stays (at_stage r (Fetching fetch)))
      (λ all. answered_good shape g a c moment r own facts reach fetch.number fetch.ask (entries_in fetch.parts from fetch.end) fetch.tail (can all)) (λ e. stays_fetching)
