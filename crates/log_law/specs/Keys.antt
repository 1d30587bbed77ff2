use Rattle.std.specs.Prelude.{◌≡◌, ◌≢◌, ℕ, ◌+◌, ◌<◌, ◌≤◌, List, length, Option, Some, slice_index, unwrap_or}
use Rattle.std.specs.BTreeMap.{BTreeMap, get}
use Rattle.std.specs.declared.cmp.Ordering.{Ordering}
use Rattle.std.specs.Ordering.{nat_cmp, ordering_then}
use Rattle.rec_id.specs.History.{told_at}

-- A key is a client and the number of an append, of a read or of a trim of it. A list of keys has at each index of a
-- history, or at each place of a line, the key that is told there, if there is one.

-- the key at a place
abbrev pub key_at : List (Option (ℕ × ℕ)) → ℕ → Option (ℕ × ℕ)
key_at keys i = told_at (λ (told : Option (ℕ × ℕ)). told) keys i

-- the order of keys
abbrev pub key_cmp : ℕ × ℕ → ℕ × ℕ → Ordering
key_cmp x y = ordering_then (nat_cmp x.0 y.0) (nat_cmp x.1 y.1)

-- n is the first place from `from` on that has the key, or the length where there is none
pub record IsNext (keys : List (Option (ℕ × ℕ))) (from : ℕ) (key : ℕ × ℕ) (n : ℕ) : Type 0 where
  pub at_least : from ≤ n
  pub within : n ≤ length keys
  pub none : (k : ℕ) → from ≤ k → k < n → key_at keys k ≢ Some key
  pub stands : n < length keys → key_at keys n ≡ Some key

-- of the places from `from` on, the map has each key's first, and the list has the next one of the same key
pub record IsIndexed (keys : List (Option (ℕ × ℕ))) (from : ℕ) (firsts : BTreeMap (ℕ × ℕ) ℕ) (nexts : List ℕ) : Type 0 where
  pub long : length nexts ≡ length keys
  pub first : (key : ℕ × ℕ) → IsNext keys from key (unwrap_or (get key_cmp firsts key) (length keys))
  pub next : (k : ℕ) (key : ℕ × ℕ) → from ≤ k → key_at keys k ≡ Some key → IsNext keys (k + 1) key (slice_index nexts k)

-- two places, the later one second, have different keys
abbrev pub IsApart : List (Option (ℕ × ℕ)) → ℕ → ℕ → Type 0
IsApart keys p q = (key : ℕ × ℕ) → p < q → key_at keys p ≡ Some key → key_at keys q ≢ Some key
