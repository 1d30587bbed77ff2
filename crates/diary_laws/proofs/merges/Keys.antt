-- What a sort by a key gives: the time and the node's number in one.
use Rattle.std.proofs.Common.{ℕ, suc, ◌+◌, ◌*◌, ◌<◌, ◌≤◌, List, [], ◌∷◌, inl, inr, arith}
use Rattle.std.specs.Prelude.{nat_lt, length, slice_index_or}
use Rattle.std.proofs.lemmas.Bool.{ltb-true, ltb-false}
use Rattle.list_facts.specs.Lists.{Each}
use Rattle.list_facts.proofs.Cases.{by_test}
use Rattle.diary_laws.specs.Machines.{Step}
use Rattle.diary_laws.specs.Merges.{IsBefore, Ranked}
use Rattle.diary_laws.proofs.merges.Ranks.{each_of}

abbrev pub key_of : {S : Type 0} → Step S → ℕ
key_of x = 512 * x.time + x.node

module _ {S : Type 0} where
  before_by_key : (x y : Step S) → x.node < 512 → y.node < 512 → key_of x ≤ key_of y → IsBefore x y
  before_by_key x y few some least = by_test (nat_lt x.time y.time)
      (λ h. inl (ltb-true x.time y.time h))
      (λ h. let above = ltb-false x.time y.time h in inr (omega arith, omega arith))

  each_by_key : (x : Step S) (xs : List (Step S)) → x.node < 512 → Each (λ (y : Step S). y.node < 512) xs → Each (λ (y : Step S). key_of x ≤ key_of y) xs → Each (IsBefore x) xs
  each_by_key x [] few some h = tt
  each_by_key x (y ∷ ys) few some h = (before_by_key x y few some.0 h.0, each_by_key x ys few some.1 h.1)

  -- numbers of nodes are below 512
  pub ranked_by_key : (xs : List (Step S)) → Each (λ (x : Step S). x.node < 512) xs → ((i j : ℕ) (d : Step S) → i ≤ j → j < length xs → key_of (slice_index_or xs i d) ≤ key_of (slice_index_or xs j d)) → Ranked IsBefore xs
  ranked_by_key [] few up = tt
  ranked_by_key (x ∷ xs) few up = (
    each_by_key x xs few.0 few.1 (each_of (λ (y : Step S). key_of x ≤ key_of y) xs (λ k d within. up 0 (suc k) d (omega arith) (omega arith))),
    ranked_by_key xs few.1 (λ i j d le within. up (suc i) (suc j) d (omega arith) (omega arith)),
  )
