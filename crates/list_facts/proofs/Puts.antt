-- A function with another value at one number.
use Rattle.std.proofs.Common.{ap, ◌≡◌, ◌≢◌, ℕ, ◌<◌, List, length, get_or, Bool, true, false, refl, sym, subst, arith}
use Rattle.std.specs.Prelude.{◌==◌, slice_set, if◌then◌else◌}
use Rattle.std.proofs.lemmas.List.{get_or-set_same, get_or-set_other}
use Rattle.std.proofs.Math.Path.{fun_ext}
use Rattle.list_facts.specs.Lists.{put}

module _ {A : Type 0} where
  pub put_own : (f : ℕ → A) (me : ℕ) (x : A) → put f me x me ≡ x
  put_own f me x = grind arith

  pub put_other : (f : ℕ → A) (me : ℕ) (x : A) (n : ℕ) → n ≢ me → put f me x n ≡ f n
  put_other f me x n other = grind arith

  -- what holds of the new value, and elsewhere of the old ones, holds everywhere
  pub put_cases : (P : ℕ → A → Type 0) (f : ℕ → A) (me : ℕ) (x : A) → P me x → ((n : ℕ) → n ≢ me → P n (f n)) → (n : ℕ) → P n (put f me x n)
  put_cases P f me x own others n = by (n == me) refl
    where
      by : (b : Bool) → (n == me) ≡ b → P n (if b then x else f n)
      by true e = let same : n ≡ me = grind arith in subst (λ (k : ℕ). P k x) (sym same) own
      by false e = let other : n ≢ me = grind arith in others n other

  -- the members of a list by their places, d past its end
  pub at_set : (d : A) (xs : List A) (me : ℕ) (x : A) → me < length xs → (λ (n : ℕ). get_or (slice_set xs me x) n d) ≡ put (λ (n : ℕ). get_or xs n d) me x
  at_set d xs me x inside = fun_ext (λ n. by n (n == me) refl)
    where
      by : (n : ℕ) (b : Bool) → (n == me) ≡ b → get_or (slice_set xs me x) n d ≡ (if b then x else get_or xs n d)
      by n true e = let same : n ≡ me = grind arith in rw same (get_or-set_same xs me x d inside)
      by n false e = let other : n ≢ me = grind arith in get_or-set_other xs me n x d other

  -- the value that is there
  pub put_same : (f : ℕ → A) (me : ℕ) → put f me (f me) ≡ f
  put_same f me = fun_ext (λ n. by n (n == me) refl)
    where
      by : (n : ℕ) (b : Bool) → (n == me) ≡ b → (if b then f me else f n) ≡ f n
      by n true e = let same : n ≡ me = grind arith in ap f (sym same)
      by n false e = refl
