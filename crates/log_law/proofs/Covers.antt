-- Clause (f) by numbers.
use Rattle.std.proofs.Common.{◌≡◌, ℕ, ◌+◌, ◌-◌, ◌^◌, ◌<◌, ◌≤◌, List, length, map, Option, Some, inl, inr, sym, ap, ◌∙◌, subst, arith}
use Rattle.std.specs.Prelude.{slice_index}
use Rattle.std.proofs.lemmas.Bool.{cases_lt}
use Rattle.std.proofs.lemmas.List.{length-map}
use Rattle.std.proofs.lemmas.Option.{MatchOption-at_some, MatchOption-at_none}
use Rattle.law_cases.proofs.Clauses.{told_within}
use Rattle.rec_id.specs.Identity.{Identity}
use Rattle.rec_id.specs.History.{Read, finished_id, begun_read, forced_tail, told_at}
use Rattle.rec_id.specs.Lawful.{CoveredAt}
use Rattle.rec_id.specs.declared.entry.Entry.{Entry}
use Rattle.rec_id.specs.declared.event.Event.{Event}
use Rattle.log_law.specs.declared.told.Told.TheVariants.{Finished}
use Rattle.log_law.specs.declared.told.Names.TheVariants.{All}
use Rattle.log_law.specs.Keys.{key_at}
use Rattle.log_law.specs.Pairs.{IsAbove, IsFound}
use Rattle.log_law.specs.Places.{IsLimit, IsLimitOf}
use Rattle.log_law.specs.Tails.{tail_key, forced_key, begun_key, IsTailFrom, IsLeastTail, IsLeastTailAt}
use Rattle.log_law.specs.Told.{id_key, read_key, entry_key, event_key}
use Rattle.log_law.proofs.Found.{found_like}
use Rattle.log_law.proofs.Numbers.{some_cases}
use Rattle.log_law.proofs.Orders.{limit_to, limit_from, limit_at, limit_le}
use Rattle.log_law.proofs.ToldKeys.{keys_of_told, told_of_keys, ToldWith, told_map, told_unmap, same_read}

-- an answer to the read, in the words of the history

pub forced_from : (history : List Event) (j : ℕ) (read : Read) (tail : ℕ) → told_at forced_tail history j ≡ Some (read, tail) → told_at forced_key history j ≡ Some (read_key read, tail)
forced_from history j read tail h = told_map forced_tail tail_key history j (read, tail) h

pub begun_from : (history : List Event) (b : ℕ) (read : Read) → told_at begun_read history b ≡ Some read → told_at begun_key history b ≡ Some (read_key read)
begun_from history b read h = told_map begun_read read_key history b read h

pub forced_to : (history : List Event) (j : ℕ) (read : Read) (tail : ℕ) → told_at forced_key history j ≡ Some (read_key read, tail) → told_at forced_tail history j ≡ Some (read, tail)
forced_to history j read tail h =
    let t = told_unmap forced_tail tail_key history j (read_key read, tail) h in
    let same_tail : t.told.1 ≡ tail = ap (λ (p : (ℕ × ℕ) × ℕ). p.1) t.is in
    let one : t.told.0 ≡ read = same_read t.told.0 read (ap (λ (p : (ℕ × ℕ) × ℕ). p.0) t.is) in
    t.tells ∙ ap Some (λ i. (one i, same_tail i))

-- the least tail of what begins at an index
module _ (history : List Event) (tails : List ℕ) (least : (b : ℕ) → b < length history → IsLeastTailAt history b (slice_index tails b)) where
  pub least_at : (b : ℕ) (key : ℕ × ℕ) → told_at begun_key history b ≡ Some key → IsLeastTail history (b + 1) key (slice_index tails b)
  least_at b key k =
      MatchOption-at_some (slice_index tails b ≡ 2 ^ 64 - 1) (λ (one : ℕ × ℕ). IsLeastTail history (b + 1) one (slice_index tails b)) key k
      (least b (told_within begun_key history b key k))

  taken : (b r : ℕ) → ((read : Read) (j tail : ℕ) → b < j → told_at begun_read history b ≡ Some read → told_at forced_tail history j ≡ Some (read, tail) → r ≤ tail) →
      (key : ℕ × ℕ) → ToldWith begun_read read_key history b key → IsTailFrom history (b + 1) key (slice_index tails b) → r ≤ slice_index tails b
  taken b r f key begun t =
      f begun.told t.index (slice_index tails b) (let a = t.after in omega arith) begun.tells
      (forced_to history t.index begun.told (slice_index tails b) (t.tells ∙ ap (λ (k : ℕ × ℕ). Some (k, slice_index tails b)) (sym begun.is)))

  pub le_least : (b r : ℕ) → b < length history → r ≤ 2 ^ 64 - 1 →
      ((read : Read) (j tail : ℕ) → b < j → told_at begun_read history b ≡ Some read → told_at forced_tail history j ≡ Some (read, tail) → r ≤ tail) → r ≤ slice_index tails b
  le_least b r inside fits f =
      some_cases (told_at begun_key history b)
      (λ none. (let top : slice_index tails b ≡ 2 ^ 64 - 1 = MatchOption-at_none (slice_index tails b ≡ 2 ^ 64 - 1) (λ (one : ℕ × ℕ). IsLeastTail history (b + 1) one (slice_index tails b)) none (least b inside) in omega arith))
      (λ key k. elim (cases_lt (slice_index tails b) (2 ^ 64 - 1)) [
        | inl lt ↦ taken b r f key (told_unmap begun_read read_key history b key k) ((least_at b key k).taken lt)
        | inr ge ↦ omega arith
      ])

module _ (history : List Event) (line : List Entry) (limits tails : List ℕ)
    (limited : (i : ℕ) → i < length (map (event_key Finished) history) → IsLimitOf (map (entry_key All) line) (key_at (map (event_key Finished) history) i) (slice_index limits i))
    (least : (b : ℕ) → b < length history → IsLeastTailAt history b (slice_index tails b)) (long : length tails ≡ length history) where
  pub covered_to : (i b : ℕ) → IsAbove limits tails i b → CoveredAt history line i b
  covered_to i b h = record {
    below = λ a read tail j lt later f g t. (
        let begins = begun_from history b read g in
        let answers = forced_from history j read tail t in
        let low = least_at history tails least b (read_key read) begins in
        let inside = told_within begun_key history b (read_key read) begins in
        let le = h lt (omega arith) in
        let le2 = low.at_most j tail (omega arith) answers in
        let short = low.short j tail (omega arith) answers in
        limit_to line a (slice_index limits i) (limit_at line (map (event_key Finished) history) limits limited i (id_key a) (keys_of_told finished_id id_key history i a f)) tail (omega arith) (omega arith));
  }

  covered_le : (i b : ℕ) → CoveredAt history line i b → i < b → b < length history → (a : Identity) → told_at finished_id history i ≡ Some a
      → IsLimit (map (entry_key All) line) (id_key a) (slice_index limits i) → slice_index limits i ≤ slice_index tails b
  covered_le i b h lt inside a f limit =
      le_least history tails least b (slice_index limits i) inside limit.fits
      (λ read j tail later g t. limit_from line a (slice_index limits i) limit tail (h.below a read tail j lt later f g t))

  pub covered_from : (i b : ℕ) → CoveredAt history line i b → IsAbove limits tails i b
  covered_from i b h lt inside =
      limit_le line (map (event_key Finished) history) limits limited i (slice_index tails b) (omega (arith, length-map history (event_key Finished)))
      (λ key e limit. (let a = told_of_keys finished_id id_key history i key e in
      covered_le i b h lt (omega arith) a.told a.tells (subst (λ (k : ℕ × ℕ). IsLimit (map (entry_key All) line) k (slice_index limits i)) (sym a.is) limit)))

pub covered_found :
    (history : List Event) (line : List Entry) (named finished : List (Option (ℕ × ℕ))) (limits bounds lows low_bounds : List ℕ) (found : Option (ℕ × ℕ)) →
    named ≡ map (entry_key All) line → finished ≡ map (event_key Finished) history → bounds ≡ limits → low_bounds ≡ lows →
    ((i : ℕ) → i < length finished → IsLimitOf named (key_at finished i) (slice_index limits i)) →
    ((b : ℕ) → b < length history → IsLeastTailAt history b (slice_index lows b)) →
    length lows ≡ length history → IsFound (IsAbove bounds low_bounds) found → IsFound (CoveredAt history line) found
covered_found history line named finished limits bounds lows low_bounds found en ef eb el limited least long f =
    let limited_there = rw (en, ef) at limited in
    let found_there = rw (eb, el) at f in
    found_like (IsAbove limits lows) (CoveredAt history line)
    (covered_to history line limits lows limited_there least long)
    (covered_from history line limits lows limited_there least long) found found_there
