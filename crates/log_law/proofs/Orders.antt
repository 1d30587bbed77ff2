-- Clause (d) by numbers.
use Rattle.std.proofs.Common.{◌≡◌, ℕ, ◌-◌, ◌^◌, ◌<◌, ◌≤◌, List, length, map, Option, Some, inl, inr, sym, subst, arith}
use Rattle.std.specs.Prelude.{slice_index}
use Rattle.std.proofs.lemmas.Bool.{cases_lt}
use Rattle.std.proofs.lemmas.Option.{MatchOption-at_some, MatchOption-at_none}
use Rattle.std.proofs.lemmas.List.{length-map}
use Rattle.rec_id.specs.Identity.{Identity}
use Rattle.rec_id.specs.History.{finished_id, invoked_id, told_at}
use Rattle.rec_id.specs.Line.{id_at, StandsBelow}
use Rattle.rec_id.specs.Lawful.{OrderedAt}
use Rattle.rec_id.specs.declared.entry.Entry.{Entry}
use Rattle.rec_id.specs.declared.event.Event.{Event}
use Rattle.log_law.specs.declared.told.Told.TheVariants.{Invoked, Finished}
use Rattle.log_law.specs.declared.told.Names.TheVariants.{All}
use Rattle.log_law.specs.Keys.{key_at}
use Rattle.log_law.specs.Pairs.{IsAbove, IsFound}
use Rattle.log_law.proofs.Found.{found_like}
use Rattle.log_law.specs.Places.{StandsUnder, IsLimit, IsLimitOf, IsLowest, IsLowestOf}
use Rattle.log_law.specs.Told.{id_key, entry_key, event_key}
use Rattle.log_law.proofs.Indexing.{key_within}
use Rattle.log_law.proofs.ToldKeys.{keys_of_told, told_of_keys, keys_of_id, id_of_keys, key_cases}

-- in the words of the line

pub id_within : (line : List Entry) (p : ℕ) (id : Identity) → id_at line p ≡ Some id → p < length line
id_within line p id n = let w = key_within (map (entry_key All) line) p (id_key id) (keys_of_id line p id n) in omega (arith, length-map line (entry_key All))

pub stands_to : (line : List Entry) (id : Identity) (place : ℕ) → StandsUnder (map (entry_key All) line) (id_key id) place → StandsBelow line id place
stands_to line id place s = record { place = s.place; below = s.below; names = id_of_keys line s.place id s.stands }

pub stands_from : (line : List Entry) (id : Identity) (place : ℕ) → StandsBelow line id place → StandsUnder (map (entry_key All) line) (id_key id) place
stands_from line id place s = record { place = s.place; below = s.below; stands = keys_of_id line s.place id s.names }

pub stands_weaker : (line : List Entry) (id : Identity) (p q : ℕ) → p ≤ q → StandsBelow line id p → StandsBelow line id q
stands_weaker line id p q le s = record { place = s.place; below = let b = s.below in omega arith; names = s.names }

-- what the limit of an identity says
module _ (line : List Entry) (id : Identity) (limit : ℕ) (h : IsLimit (map (entry_key All) line) (id_key id) limit) where
  pub limit_to : (place : ℕ) → place < 2 ^ 64 - 1 → limit ≤ place → StandsBelow line id place
  limit_to place short le = stands_weaker line id limit place le (stands_to line id limit (h.stands (omega arith)))

  pub limit_from : (place : ℕ) → StandsBelow line id place → limit ≤ place
  limit_from place s = h.at_most place (stands_from line id place s)

-- what the lowest place of an identity says
module _ (line : List Entry) (id : Identity) (low : ℕ) (h : IsLowest (map (entry_key All) line) (id_key id) low) where
  pub low_to : (place r : ℕ) → r ≤ low → id_at line place ≡ Some id → r ≤ place
  low_to place r le s = let k = h.at_most place (keys_of_id line place id s) in omega arith

  pub low_from : (r : ℕ) → r ≤ 2 ^ 64 - 1 → ((place : ℕ) → id_at line place ≡ Some id → r ≤ place) → r ≤ low
  low_from r fits f = elim (cases_lt low (2 ^ 64 - 1)) [ inl lt ↦ f low (id_of_keys line low id (h.stands lt)) | inr ge ↦ omega arith ]

-- at each index that tells a key, the number is that key's limit; elsewhere it is 0
module _ (line : List Entry) (keys : List (Option (ℕ × ℕ))) (limits : List ℕ) (limited : (i : ℕ) → i < length keys → IsLimitOf (map (entry_key All) line) (key_at keys i) (slice_index limits i)) where
  pub limit_at : (i : ℕ) (key : ℕ × ℕ) → key_at keys i ≡ Some key → IsLimit (map (entry_key All) line) key (slice_index limits i)
  limit_at i key k =
      MatchOption-at_some (slice_index limits i ≡ 0) (λ (one : ℕ × ℕ). IsLimit (map (entry_key All) line) one (slice_index limits i)) key k
      (limited i (key_within keys i key k))

  -- it is no more than r where it is no more for the key that is told
  pub limit_le : (i r : ℕ) → i < length keys → ((key : ℕ × ℕ) → key_at keys i ≡ Some key → IsLimit (map (entry_key All) line) key (slice_index limits i) → slice_index limits i ≤ r) → slice_index limits i ≤ r
  limit_le i r inside f =
      key_cases (key_at keys i)
      (λ none. (let zero : slice_index limits i ≡ 0 = MatchOption-at_none (slice_index limits i ≡ 0) (λ (one : ℕ × ℕ). IsLimit (map (entry_key All) line) one (slice_index limits i)) none (limited i inside) in omega arith))
      (λ key k. f key k (limit_at i key k))

-- at each index that tells a key, the number is that key's lowest place; elsewhere it is the greatest
module _ (line : List Entry) (keys : List (Option (ℕ × ℕ))) (lows : List ℕ) (lowest : (j : ℕ) → j < length keys → IsLowestOf (map (entry_key All) line) (key_at keys j) (slice_index lows j)) where
  pub low_at : (j : ℕ) (key : ℕ × ℕ) → key_at keys j ≡ Some key → IsLowest (map (entry_key All) line) key (slice_index lows j)
  low_at j key k =
      MatchOption-at_some (slice_index lows j ≡ 2 ^ 64 - 1) (λ (one : ℕ × ℕ). IsLowest (map (entry_key All) line) one (slice_index lows j)) key k
      (lowest j (key_within keys j key k))

  pub le_low : (j r : ℕ) → j < length keys → r ≤ 2 ^ 64 - 1 → ((key : ℕ × ℕ) → key_at keys j ≡ Some key → IsLowest (map (entry_key All) line) key (slice_index lows j) → r ≤ slice_index lows j) → r ≤ slice_index lows j
  le_low j r inside fits f =
      key_cases (key_at keys j)
      (λ none. (let top : slice_index lows j ≡ 2 ^ 64 - 1 = MatchOption-at_none (slice_index lows j ≡ 2 ^ 64 - 1) (λ (one : ℕ × ℕ). IsLowest (map (entry_key All) line) one (slice_index lows j)) none (lowest j inside) in omega arith))
      (λ key k. f key k (low_at j key k))

module _ (history : List Event) (line : List Entry) (limits lows : List ℕ)
    (limited : (i : ℕ) → i < length (map (event_key Finished) history) → IsLimitOf (map (entry_key All) line) (key_at (map (event_key Finished) history) i) (slice_index limits i))
    (lowest : (j : ℕ) → j < length (map (event_key Invoked) history) → IsLowestOf (map (entry_key All) line) (key_at (map (event_key Invoked) history) j) (slice_index lows j))
    (long : length lows ≡ length (map (event_key Invoked) history)) (short : length line < 2 ^ 32) where
  pub ordered_to : (i j : ℕ) → IsAbove limits lows i j → OrderedAt history line i j
  ordered_to i j h = record {
    in_front = λ a b place lt f g n. (
        let invoked = keys_of_told invoked_id id_key history j b g in
        let w = key_within (map (event_key Invoked) history) j (id_key b) invoked in
        let inside = key_within (map (entry_key All) line) place (id_key b) (keys_of_id line place b n) in
        let le = h lt (omega arith) in
        limit_to line a (slice_index limits i) (limit_at line (map (event_key Finished) history) limits limited i (id_key a) (keys_of_told finished_id id_key history i a f)) place
        (omega (arith, length-map line (entry_key All)))
        (low_to line b (slice_index lows j) (low_at line (map (event_key Invoked) history) lows lowest j (id_key b) invoked) place (slice_index limits i) le n));
  }

  ordered_le : (i j : ℕ) → OrderedAt history line i j → i < j → (a b : Identity) → told_at finished_id history i ≡ Some a → told_at invoked_id history j ≡ Some b
      → IsLimit (map (entry_key All) line) (id_key a) (slice_index limits i) → IsLowest (map (entry_key All) line) (id_key b) (slice_index lows j) → slice_index limits i ≤ slice_index lows j
  ordered_le i j h lt a b f g limit low =
      low_from line b (slice_index lows j) low (slice_index limits i) limit.fits
      (λ place n. limit_from line a (slice_index limits i) limit place (h.in_front a b place lt f g n))

  pub ordered_from : (i j : ℕ) → OrderedAt history line i j → IsAbove limits lows i j
  ordered_from i j h lt inside =
      limit_le line (map (event_key Finished) history) limits limited i (slice_index lows j) (omega (arith, length-map history (event_key Finished), length-map history (event_key Invoked)))
      (λ ka ea limit. le_low line (map (event_key Invoked) history) lows lowest j (slice_index limits i) (omega arith) limit.fits
      (λ kb eb low. (
      let a = told_of_keys finished_id id_key history i ka ea in
      let b = told_of_keys invoked_id id_key history j kb eb in
      ordered_le i j h lt a.told b.told a.tells b.tells
      (subst (λ (k : ℕ × ℕ). IsLimit (map (entry_key All) line) k (slice_index limits i)) (sym a.is) limit)
      (subst (λ (k : ℕ × ℕ). IsLowest (map (entry_key All) line) k (slice_index lows j)) (sym b.is) low))))

-- what is found of the numbers is found of the clause
pub ordered_found :
    (history : List Event) (line : List Entry) (named finished invoked : List (Option (ℕ × ℕ))) (limits bounds lows low_bounds : List ℕ) (found : Option (ℕ × ℕ)) →
    named ≡ map (entry_key All) line → finished ≡ map (event_key Finished) history → invoked ≡ map (event_key Invoked) history → bounds ≡ limits → low_bounds ≡ lows →
    ((i : ℕ) → i < length finished → IsLimitOf named (key_at finished i) (slice_index limits i)) →
    ((j : ℕ) → j < length invoked → IsLowestOf named (key_at invoked j) (slice_index lows j)) →
    length lows ≡ length invoked → length line < 2 ^ 32 → IsFound (IsAbove bounds low_bounds) found → IsFound (OrderedAt history line) found
ordered_found history line named finished invoked limits bounds lows low_bounds found en ef ei eb el limited lowest long short f =
    let limited_there = rw (en, ef) at limited in
    let lowest_there = rw (en, ei) at lowest in
    let long_there = rw ei at long in
    let found_there = rw (eb, el) at f in
    found_like (IsAbove limits lows) (OrderedAt history line)
    (ordered_to history line limits lows limited_there lowest_there long_there short)
    (ordered_from history line limits lows limited_there lowest_there long_there short) found found_there
