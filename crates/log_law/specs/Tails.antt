use Rattle.std.specs.Prelude.{◌≡◌, ℕ, ◌+◌, ◌-◌, ◌^◌, ◌<◌, ◌≤◌, Bool, false, ◌&&◌, nat_lt, is_some, IsSome, Option, Some, None, List, min, cond, option_map, unwrap_or, length, slice_index}
use Rattle.std.specs.Option.{MatchOption}
use Rattle.std.specs.BTreeMap.{BTreeMap, get}
use Rattle.std.specs.Ordering.{is_eq}
use Rattle.rec_id.specs.History.{Read, begun_read, forced_tail, told_at}
use Rattle.rec_id.specs.declared.event.Event.{Event}
use Rattle.log_law.specs.Keys.{key_cmp}
use Rattle.log_law.specs.Told.{read_key}

abbrev pub tail_key : Read × ℕ → (ℕ × ℕ) × ℕ
tail_key told = (read_key told.0, told.1)

-- the key of the read whose answer is forced, and the tail that it gives
abbrev pub forced_key : Event → Option ((ℕ × ℕ) × ℕ)
forced_key event = option_map tail_key (forced_tail event)

abbrev pub begun_key : Event → Option (ℕ × ℕ)
begun_key event = option_map read_key (begun_read event)

-- from `from` on, a forced answer to the read gives this tail
pub record IsTailFrom (history : List Event) (from : ℕ) (key : ℕ × ℕ) (tail : ℕ) : Type 0 where
  pub index : ℕ
  pub after : from ≤ index
  pub tells : told_at forced_key history index ≡ Some (key, tail)

-- the least tail of the forced answers to the read from `from` on, and the greatest number of 64 bits where there is none
pub record IsLeastTail (history : List Event) (from : ℕ) (key : ℕ × ℕ) (least : ℕ) : Type 0 where
  pub at_most : (j tail : ℕ) → from ≤ j → told_at forced_key history j ≡ Some (key, tail) → least ≤ tail
  pub short : (j tail : ℕ) → from ≤ j → told_at forced_key history j ≡ Some (key, tail) → tail < 2 ^ 32
  pub taken : least < 2 ^ 64 - 1 → IsTailFrom history from key least

-- the least tail of the later forced answers to the read that begins at the index
abbrev pub IsLeastTailAt : List Event → ℕ → ℕ → Type 0
IsLeastTailAt history b least = MatchOption (told_at begun_key history b) (least ≡ 2 ^ 64 - 1) (λ key. IsLeastTail history (b + 1) key least)

-- what a map has as the least tail of a read
abbrev pub tail_in : BTreeMap (ℕ × ℕ) ℕ → ℕ × ℕ → ℕ
tail_in tails key = unwrap_or (get key_cmp tails key) (2 ^ 64 - 1)

-- the least tail of a read, beside one more forced answer
abbrev pub lowered : Option ((ℕ × ℕ) × ℕ) → ℕ × ℕ → ℕ → ℕ
lowered None key least = least
lowered (Some told) key least = cond (is_eq (key_cmp told.0 key)) (min least told.1) least

-- the maps and numbers of the indices from `from` on
pub record AreTailsFrom (history : List Event) (from : ℕ) (tails : BTreeMap (ℕ × ℕ) ℕ) (made : List ℕ) : Type 0 where
  pub long : length made ≡ length history
  pub each : (key : ℕ × ℕ) → IsLeastTail history from key (tail_in tails key)
  pub at : (b : ℕ) → from ≤ b → b < length history → IsLeastTailAt history b (slice_index made b)

-- an answer gives a tail below the reach to one of the reads that have begun
abbrev pub falls_below : BTreeMap (ℕ × ℕ) ℕ → Option ((ℕ × ℕ) × ℕ) → ℕ → Bool
falls_below begun None reach = false
falls_below begun (Some told) reach = nat_lt told.1 reach && is_some (get key_cmp begun told.0)

-- where a key was found last, beside one more begin at j
abbrev pub noted : Option (ℕ × ℕ) → ℕ → ℕ × ℕ → Option ℕ → Option ℕ
noted None j key old = old
noted (Some own) j key old = cond (is_eq (key_cmp own key)) (Some j) old

-- the forced answer at j gives a tail below the reach to a read that begins between the row and j
pub record Falls (history : List Event) (row reach j : ℕ) : Type 0 where
  pub key : ℕ × ℕ
  pub begin_index : ℕ
  pub tail : ℕ
  pub after : row < begin_index
  pub before : begin_index < j
  pub begins : told_at begun_key history begin_index ≡ Some key
  pub answers : told_at forced_key history j ≡ Some (key, tail)
  pub below : tail < reach

-- the first index after the row at which a tail falls, and the length where there is none
pub record IsFirstFall (history : List Event) (row reach j : ℕ) : Type 0 where
  pub within : j ≤ length history
  pub none : (k : ℕ) → k < j → ¬ Falls history row reach k
  pub falls : j < length history → Falls history row reach j

-- the map has the reads that begin between the row and j
pub record AreBegun (history : List Event) (row j : ℕ) (begun : BTreeMap (ℕ × ℕ) ℕ) : Type 0 where
  pub has : (b : ℕ) (key : ℕ × ℕ) → row < b → b < j → told_at begun_key history b ≡ Some key → IsSome (get key_cmp begun key)
  pub after : (b : ℕ) (key : ℕ × ℕ) → get key_cmp begun key ≡ Some b → row < b
  pub before : (b : ℕ) (key : ℕ × ℕ) → get key_cmp begun key ≡ Some b → b < j
  pub begins : (b : ℕ) (key : ℕ × ℕ) → get key_cmp begun key ≡ Some b → told_at begun_key history b ≡ Some key
