-- Clause (h) by numbers.
use Rattle.std.proofs.Common.{◌≡◌, ℕ, ◌-◌, ◌^◌, ◌<◌, ◌≤◌, List, length, map, Option, Some, sym, subst, arith}
use Rattle.std.specs.Prelude.{slice_index}
use Rattle.rec_id.specs.Identity.{Identity}
use Rattle.rec_id.specs.History.{invoked_id, told_reach, told_at}
use Rattle.rec_id.specs.Lawful.{BehindReadAt}
use Rattle.rec_id.specs.declared.entry.Entry.{Entry}
use Rattle.rec_id.specs.declared.event.Event.{Event}
use Rattle.log_law.specs.declared.reaches.Reach.TheVariants.{Told}
use Rattle.log_law.specs.declared.told.Told.TheVariants.{Invoked}
use Rattle.log_law.specs.declared.told.Names.TheVariants.{All}
use Rattle.log_law.specs.Keys.{key_at}
use Rattle.log_law.specs.Pairs.{IsAbove, IsFound}
use Rattle.log_law.specs.Places.{IsLowest, IsLowestOf}
use Rattle.log_law.specs.Reaches.{reach_of}
use Rattle.log_law.specs.Told.{id_key, entry_key, event_key}
use Rattle.log_law.proofs.Found.{found_like}
use Rattle.log_law.proofs.Indexing.{key_within}
use Rattle.log_law.proofs.Numbers.{number_at, number_none, some_cases}
use Rattle.log_law.proofs.Orders.{low_to, low_from, low_at, le_low}
use Rattle.log_law.proofs.ToldKeys.{keys_of_told, told_of_keys}

module _ (history : List Event) (line : List Entry) (lows : List ℕ)
    (lowest : (j : ℕ) → j < length (map (event_key Invoked) history) → IsLowestOf (map (entry_key All) line) (key_at (map (event_key Invoked) history) j) (slice_index lows j))
    (long : length lows ≡ length (map (event_key Invoked) history)) where
  pub behind_to : (i j : ℕ) → IsAbove (map (reach_of Told) history) lows i j → BehindReadAt history line i j
  behind_to i j h = record {
    behind = λ reach place b lt r g n. (
        let invoked = keys_of_told invoked_id id_key history j b g in
        let w = key_within (map (event_key Invoked) history) j (id_key b) invoked in
        let le = h lt (omega arith) in
        let is = number_at told_reach history i reach r in
        low_to line b (slice_index lows j) (low_at line (map (event_key Invoked) history) lows lowest j (id_key b) invoked) place reach (omega arith) n);
  }

  behind_le : (i j reach : ℕ) → BehindReadAt history line i j → i < j → told_at told_reach history i ≡ Some reach → reach ≤ 2 ^ 64 - 1 → (b : Identity) → told_at invoked_id history j ≡ Some b
      → IsLowest (map (entry_key All) line) (id_key b) (slice_index lows j) → reach ≤ slice_index lows j
  behind_le i j reach h lt r fits b g low = low_from line b (slice_index lows j) low reach fits (λ place n. h.behind reach place b lt r g n)

  pub behind_from : ((i : ℕ) → slice_index (map (reach_of Told) history) i < 2 ^ 64) → (i j : ℕ) → BehindReadAt history line i j → IsAbove (map (reach_of Told) history) lows i j
  behind_from fits i j h lt inside =
      some_cases (told_at told_reach history i)
      (λ none. (let zero = number_none told_reach history i none in omega arith))
      (λ reach r. (
      let is = number_at told_reach history i reach r in
      let fit = fits i in
      let le : reach ≤ slice_index lows j =
      le_low line (map (event_key Invoked) history) lows lowest j reach (omega arith) (omega arith)
      (λ kb eb low. (let b = told_of_keys invoked_id id_key history j kb eb in
      behind_le i j reach h lt r (omega arith) b.told b.tells (subst (λ (k : ℕ × ℕ). IsLowest (map (entry_key All) line) k (slice_index lows j)) (sym b.is) low))) in
      omega arith))

pub behind_found :
    (history : List Event) (line : List Entry) (named invoked : List (Option (ℕ × ℕ))) (reaches bounds lows low_bounds : List ℕ) (found : Option (ℕ × ℕ)) →
    named ≡ map (entry_key All) line → invoked ≡ map (event_key Invoked) history → reaches ≡ map (reach_of Told) history → bounds ≡ reaches → low_bounds ≡ lows →
    ((j : ℕ) → j < length invoked → IsLowestOf named (key_at invoked j) (slice_index lows j)) →
    length lows ≡ length invoked → ((i : ℕ) → slice_index bounds i < 2 ^ 64) → IsFound (IsAbove bounds low_bounds) found → IsFound (BehindReadAt history line) found
behind_found history line named invoked reaches bounds lows low_bounds found en ei er eb el lowest long fits f =
    let lowest_there = rw (en, ei) at lowest in
    let long_there = rw ei at long in
    let found_there = rw (eb, el, er) at f in
    let fits_there = rw (eb, er) at fits in
    found_like (IsAbove (map (reach_of Told) history) lows) (BehindReadAt history line)
    (behind_to history line lows lowest_there long_there)
    (behind_from history line lows lowest_there long_there fits_there) found found_there
