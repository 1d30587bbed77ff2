-- A fact about each view, after one of them is set.
use Rattle.std.proofs.Common.{◌≡◌, ◌≢◌, ℕ, zero, suc, List, [], ◌∷◌, ◌++◌, length, set, sym, ap, subst, ⊎_elim, refl}
use mathlib.Core.Option.{some, some-ne-none}
use lib.ListN.{get_elem?}
use Rattle.crossbeam_queue.proofs.Lists.{at_set}
use Rattle.link_queue.specs.declared.rule.Known.{Known}

-- the fact of each view, by its number
abbrev pub OfEach : (ℕ → Known → Type 0) → List Known → Type 0
OfEach F views = (number : ℕ) (v : Known) → get_elem? views number ≡ some v → F number v

pub each_set : (F : ℕ → Known → Type 0) (views : List Known) (number : ℕ) (w : Known) → F number w
    → ((other : ℕ) (u : Known) → other ≢ number → get_elem? views other ≡ some u → F other u) → OfEach F (set views number w)
each_set F views number w mine others j u e = ⊎_elim (λ (x : (j ≡ number) × (w ≡ u)). subst (λ (y : ℕ × Known). F y.0 y.1) (λ i. (sym x.0 i, x.1 i)) mine)
    (λ (x : (j ≢ number) × (get_elem? views j ≡ some u)). others j u x.0 x.1) (at_set views number j w u e)

-- a view that comes behind the others has their count as its number
pub at_end : (l : List Known) (a b : Known) (j : ℕ) → get_elem? l j ≢ some b → get_elem? (l ++ a ∷ []) j ≡ some b → j ≡ length l
at_end [] a b zero n e = refl
at_end [] a b (suc j) n e = absurd (some-ne-none b (sym e))
at_end (x ∷ xs) a b zero n e = absurd (n e)
at_end (x ∷ xs) a b (suc j) n e = ap suc (at_end xs a b j n e)
