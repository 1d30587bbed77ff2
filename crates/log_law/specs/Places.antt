use Rattle.std.specs.Prelude.{◌≡◌, ℕ, ◌-◌, ◌^◌, ◌<◌, ◌≤◌, List, Option, Some}
use Rattle.std.specs.Option.{MatchOption}
use Rattle.log_law.specs.Keys.{key_at}

-- the key stands at a place below this one
pub record StandsUnder (keys : List (Option (ℕ × ℕ))) (key : ℕ × ℕ) (limit : ℕ) : Type 0 where
  pub place : ℕ
  pub below : place < limit
  pub stands : key_at keys place ≡ Some key

-- the number is at most a place exactly where the key stands below that place
pub record IsLimit (keys : List (Option (ℕ × ℕ))) (key : ℕ × ℕ) (limit : ℕ) : Type 0 where
  pub at_most : (place : ℕ) → StandsUnder keys key place → limit ≤ place
  pub stands : limit < 2 ^ 64 - 1 → StandsUnder keys key limit
  pub fits : limit ≤ 2 ^ 64 - 1

abbrev pub IsLimitOf : List (Option (ℕ × ℕ)) → Option (ℕ × ℕ) → ℕ → Type 0
IsLimitOf keys told limit = MatchOption told (limit ≡ 0) (λ key. IsLimit keys key limit)

-- the lowest place of the key, and the greatest number of 64 bits where there is none
pub record IsLowest (keys : List (Option (ℕ × ℕ))) (key : ℕ × ℕ) (low : ℕ) : Type 0 where
  pub at_most : (p : ℕ) → key_at keys p ≡ Some key → low ≤ p
  pub stands : low < 2 ^ 64 - 1 → key_at keys low ≡ Some key

abbrev pub IsLowestOf : List (Option (ℕ × ℕ)) → Option (ℕ × ℕ) → ℕ → Type 0
IsLowestOf keys told low = MatchOption told (low ≡ 2 ^ 64 - 1) (λ key. IsLowest keys key low)
