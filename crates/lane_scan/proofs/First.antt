-- The first place that passes a test: what is known after some places, and after a block of 8 more.
use Rattle.std.proofs.Common.{◌≡◌, ℕ, ◌+◌, ◌<◌, ◌≤◌, List, Bool, true, false, Some, None, length, get_or, ltb, sym, ap, ◌∙◌, inl, inr, arith}
use Rattle.std.specs.List.{position, position_or_len}
use Rattle.std.proofs.lemmas.Bool.{lt-ltb, le-ltb, cond-true, cond-false, cases_lt}
use Rattle.std.proofs.lemmas.List.Sums.{position_or_len_is}
use Rattle.std.proofs.lemmas.Simd.{run_in_chunk_fails, run_in_chunk_stops}
use lib.Lanes.{chunk}

-- no place below i passes
pub record NoneBelow (p : ℕ → Bool) (xs : List ℕ) (i : ℕ) : Type 0 where
  pub within : i ≤ length xs
  pub fails : (k : ℕ) → k < i → p (get_or xs k 0) ≡ false

module _ (p : ℕ → Bool) (xs : List ℕ) where
  pub position_found : (i : ℕ) → NoneBelow p xs i → i < length xs → p (get_or xs i 0) ≡ true → Some i ≡ position p xs
  position_found i before inside here =
      let first : position_or_len p xs ≡ i = position_or_len_is p xs i 0 before.within before.fails (λ _. here) in
      let found : position_or_len p xs < length xs = omega arith in
      sym (cond-true (ltb (position_or_len p xs) (length xs)) (Some (position_or_len p xs)) None (lt-ltb _ _ found) ∙ ap Some first)

  pub position_none : (i : ℕ) → NoneBelow p xs i → length xs ≤ i → None ≡ position p xs
  position_none i before past =
      let first : position_or_len p xs ≡ i = position_or_len_is p xs i 0 before.within before.fails (λ inside. absurd (omega arith)) in
      let missing : length xs ≤ position_or_len p xs = omega arith in
      sym (cond-false (ltb (position_or_len p xs) (length xs)) (Some (position_or_len p xs)) None (le-ltb _ _ missing))

  pub none_more : (i : ℕ) → NoneBelow p xs i → i < length xs → p (get_or xs i 0) ≡ false → NoneBelow p xs (i + 1)
  none_more i before inside here = record {
    within = omega arith;
    fails = λ k below. elim (cases_lt k i) [
      | inl earlier ↦ before.fails k earlier
      | inr later ↦ ap (λ j. p (get_or xs j 0)) (omega arith) ∙ here
    ];
  }

  module _ (at r : ℕ) (room : at + 8 ≤ length xs) (counted : r ≡ position_or_len p (chunk at 8 xs)) (before : NoneBelow p xs at) where
    upto : (m : ℕ) → m ≤ r → at + m ≤ length xs → NoneBelow p xs (at + m)
    upto m small inside = record {
      within = inside;
      fails = λ k below. elim (cases_lt k at) [
        | inl earlier ↦ before.fails k earlier
        | inr later ↦ run_in_chunk_fails p xs at 8 r 0 room counted k later (omega arith)
      ];
    }

    pub block_found : r < 8 → Some (at + r) ≡ position p xs
    block_found few = position_found (at + r) (upto r (omega arith) (omega arith)) (omega arith) (run_in_chunk_stops p xs at 8 r 0 room counted few)

    pub block_more : 8 ≤ r → NoneBelow p xs (at + 8)
    block_more none = upto 8 none room
