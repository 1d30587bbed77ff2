-- The end of the last place in a bucket, and links that know it.
use Rattle.std.proofs.Common.{◌≡◌, ℕ, suc, zero, ◌+◌, ◌-◌, ◌<◌, ◌≤◌, List, cond, eqb, length, get_or, replicate, inl, inr, sym, ap, ◌∙◌, refl, arith, add-one}
use Rattle.std.proofs.lemmas.Bool.{cases_eq, eq-eqb, ne_eqb, cond-true, cond-false}
use Rattle.std.proofs.lemmas.List.{length-replicate, get_or-replicate, get_or-set_same, get_or-set_other}
use Rattle.std.proofs.Math.ListN.{set, length-set}
use Rattle.shard_store.specs.Links.{last_end, IsLinked}

module _ (tag_of : ℕ → ℕ) (tag : ℕ) where
  last_own : (n : ℕ) → tag_of n ≡ tag → last_end tag_of tag (suc n) ≡ suc n
  unfolding last_end
  last_own n own = cond-true (eqb (tag_of n) tag) (suc n) (last_end tag_of tag n) (eq-eqb (tag_of n) tag own)

  last_other : (n : ℕ) → (tag_of n ≡ tag → ⊥) → last_end tag_of tag (suc n) ≡ last_end tag_of tag n
  unfolding last_end
  last_other n other = cond-false (eqb (tag_of n) tag) (suc n) (last_end tag_of tag n) (ne_eqb (tag_of n) tag other)

  pub last_within : (n : ℕ) → last_end tag_of tag n ≤ n
  unfolding last_end
  last_within zero = omega arith
  last_within (suc n) = elim (cases_eq (tag_of n) tag) [
    | inl own ↦ omega (arith, last_own n own)
    | inr other ↦ omega (arith, last_other n other, last_within n)
  ]

  pub last_hits : (n : ℕ) → 0 < last_end tag_of tag n → tag_of (last_end tag_of tag n - 1) ≡ tag
  unfolding last_end
  last_hits zero some = absurd (omega arith)
  last_hits (suc n) some = elim (cases_eq (tag_of n) tag) [
    | inl own ↦
        let e : last_end tag_of tag (suc n) - 1 ≡ n = omega (arith, last_own n own) in
        ap tag_of e ∙ own
    | inr other ↦
        let e = last_other n other in
        ap (λ (m : ℕ). tag_of (m - 1)) e ∙ last_hits n (omega (arith, e))
  ]

  pub last_misses : (n place : ℕ) → last_end tag_of tag n ≤ place → place < n → tag_of place ≡ tag → ⊥
  unfolding last_end
  last_misses zero place past below same = omega arith
  last_misses (suc n) place past below same = elim (cases_eq (tag_of n) tag) [
    | inl own ↦ omega (arith, last_own n own)
    | inr other ↦ elim (cases_eq place n) [
      | inl here ↦ other (ap tag_of (sym here) ∙ same)
      | inr earlier ↦ last_misses n place (omega (arith, last_other n other)) (omega arith) same
    ]
  ]

pub last_same : (f g : ℕ → ℕ) (tag n : ℕ) → ((place : ℕ) → place < n → f place ≡ g place) → last_end f tag n ≡ last_end g tag n
unfolding last_end
last_same f g tag zero same = refl
last_same f g tag (suc n) same =
    ap (λ (t : ℕ). cond (eqb t tag) (suc n) (last_end f tag n)) (same n (omega arith))
    ∙ ap (λ (m : ℕ). cond (eqb (g n) tag) (suc n) m) (last_same f g tag n (λ place below. same place (omega arith)))

pub linked_none : (tag_of : ℕ → ℕ) (size : ℕ) (before : List ℕ) → IsLinked tag_of (replicate size 0) before 0
unfolding last_end
linked_none tag_of size before = record {
  head_is = λ tag inside. get_or-replicate size tag 0 0 (rw (length-replicate {A = ℕ} size 0) at inside);
  before_is = λ place below. absurd (omega arith);
}

pub linked_same : (f g : ℕ → ℕ) (heads before : List ℕ) (n : ℕ) → ((place : ℕ) → place < n → f place ≡ g place) → IsLinked f heads before n → IsLinked g heads before n
linked_same f g heads before n same linked = record {
  head_is = λ tag inside. linked.head_is tag inside ∙ last_same f g tag n same;
  before_is = λ place below.
      linked.before_is place below
      ∙ ap (λ (t : ℕ). last_end f t place) (same place below)
      ∙ last_same f g (g place) place (λ k earlier. same k (omega arith));
}

module _ (tag_of : ℕ → ℕ) (heads before after : List ℕ) (n : ℕ) where
  -- one place more
  pub linked_more : IsLinked tag_of heads before n → tag_of n < length heads
      → ((place : ℕ) → place < n → get_or after place 0 ≡ get_or before place 0) → get_or after n 0 ≡ get_or heads (tag_of n) 0
      → IsLinked tag_of (set heads (tag_of n) (n + 1)) after (n + 1)
  linked_more linked inside kept here = record {
    head_is = λ tag within. elim (cases_eq tag (tag_of n)) [
      | inl own ↦
          ap (λ (t : ℕ). get_or (set heads (tag_of n) (n + 1)) t 0) own
          ∙ get_or-set_same heads (tag_of n) (n + 1) 0 inside
          ∙ sym (rw (add-one n) (last_own tag_of tag n (sym own)))
      | inr other ↦
          get_or-set_other heads (tag_of n) tag (n + 1) 0 other
          ∙ linked.head_is tag (omega (arith, length-set heads (tag_of n) (n + 1)))
          ∙ sym (rw (add-one n) (last_other tag_of tag n (λ own. other (sym own))))
    ];
    before_is = λ place below. elim (cases_eq place n) [
      | inl last ↦
          ap (λ (k : ℕ). get_or after k 0) last ∙ here ∙ linked.head_is (tag_of n) inside
          ∙ ap (λ (k : ℕ). last_end tag_of (tag_of k) k) (sym last)
      | inr earlier ↦ kept place (omega arith) ∙ linked.before_is place (omega arith)
    ];
  }

  -- without the last place
  pub linked_less : IsLinked tag_of heads before (n + 1) → tag_of n < length heads
      → ((place : ℕ) → place < n → get_or after place 0 ≡ get_or before place 0)
      → IsLinked tag_of (set heads (tag_of n) (get_or before n 0)) after n
  linked_less linked inside kept = record {
    head_is = λ tag within. elim (cases_eq tag (tag_of n)) [
      | inl own ↦
          ap (λ (t : ℕ). get_or (set heads (tag_of n) (get_or before n 0)) t 0) own
          ∙ get_or-set_same heads (tag_of n) (get_or before n 0) 0 inside
          ∙ linked.before_is n (omega arith)
          ∙ ap (λ (t : ℕ). last_end tag_of t n) (sym own)
      | inr other ↦
          get_or-set_other heads (tag_of n) tag (get_or before n 0) 0 other
          ∙ linked.head_is tag (omega (arith, length-set heads (tag_of n) (get_or before n 0)))
          ∙ rw (add-one n) (last_other tag_of tag n (λ own. other (sym own)))
    ];
    before_is = λ place below. kept place below ∙ linked.before_is place (omega arith);
  }
