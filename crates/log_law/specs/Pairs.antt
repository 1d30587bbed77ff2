use Rattle.std.specs.Prelude.{◌≡◌, ℕ, ◌-◌, ◌^◌, ◌<◌, ◌≤◌, max, List, length, Option, slice_index}
use Rattle.std.specs.Option.{MatchOption}
use Rattle.rec_id.specs.Verdict.{IsPairBefore}

-- the first pair, by its first number and then by its second, of which P does not hold
pub record IsFirstBreach (P : ℕ → ℕ → Type 0) (first second : ℕ) : Type 0 where
  pub broken : ¬ P first second
  pub least : (i j : ℕ) → IsPairBefore i j first second → P i j

-- P holds of all pairs, or this is the first of which it does not
abbrev pub IsFound : (ℕ → ℕ → Type 0) → Option (ℕ × ℕ) → Type 0
IsFound P found = MatchOption found ((i j : ℕ) → P i j) (λ pair. IsFirstBreach P pair.0 pair.1)

-- where j is a later place than i, what lies lowest at j is no lower than the bound at i
abbrev pub IsAbove : List ℕ → List ℕ → ℕ → ℕ → Type 0
IsAbove bounds lows i j = i < j → j < length lows → slice_index bounds i ≤ slice_index lows j

-- a place later than the row has a number below the row's bound
pub record BreaksRow (bounds lows : List ℕ) (row : ℕ) : Type 0 where
  pub column : ℕ
  pub later : row < column
  pub inside : column < length lows
  pub below : slice_index lows column < slice_index bounds row

-- the first place from `from` on whose bound is not kept by all later ones, and the length where there is none
pub record IsFirstRow (bounds lows : List ℕ) (from row : ℕ) : Type 0 where
  pub within : row ≤ length lows
  pub above : (i j : ℕ) → from ≤ i → i < row → IsAbove bounds lows i j
  pub broken : row < length lows → BreaksRow bounds lows row

-- a place from `from` on has this number
pub record IsTakenFrom (lows : List ℕ) (from number : ℕ) : Type 0 where
  pub place : ℕ
  pub after : from ≤ place
  pub inside : place < length lows
  pub is : slice_index lows place ≡ number

-- the least of the numbers from `from` on, and the greatest number of 64 bits where there is none
pub record IsLeastFrom (lows : List ℕ) (from least : ℕ) : Type 0 where
  pub at_most : (j : ℕ) → from ≤ j → j < length lows → least ≤ slice_index lows j
  pub taken : least < 2 ^ 64 - 1 → IsTakenFrom lows from least

-- the first place from `from` on whose number is less than the bound, and the length where there is none
pub record IsFirstBelow (bound : ℕ) (lows : List ℕ) (from j : ℕ) : Type 0 where
  pub at_least : from ≤ length lows → from ≤ j
  pub none : (k : ℕ) → from ≤ k → k < j → k < length lows → bound ≤ slice_index lows k
  pub below : j < length lows → slice_index lows j < bound
  pub within : j ≤ max from (length lows)
