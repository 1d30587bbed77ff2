-- An index of keys, built from the last place to the first.
use Rattle.std.proofs.Common.{◌≡◌, ◌≢◌, ℕ, ◌+◌, ◌<◌, ◌≤◌, List, length, Option, Some, None, get_or, inl, inr, refl, sym, ap, ◌∙◌, subst, arith, cond, true, false, Bool}
use Rattle.std.specs.Prelude.{slice_index, slice_set, unwrap_or, option_and_then}
use Rattle.std.specs.BTreeMap.{BTreeMap, get, Updates}
use Rattle.std.specs.Ordering.{nat_cmp, ordering_reverse, is_eq}
use Rattle.std.specs.Cmp.{nat_cmp_total}
use Rattle.std.proofs.lemmas.Bool.{cases_eq}
use Rattle.std.proofs.lemmas.Option.{slice_get_read}
use Rattle.std.proofs.lemmas.Map.Lookups.{exact_pairs, exact_unsigned}
use Rattle.std.proofs.lemmas.List.{get_or-set_same, get_or-set_other, length-set}
use Rattle.std.specs.declared.cmp.Ordering.{Ordering}
use Rattle.std.specs.declared.cmp.Ordering.TheVariants.{Less, Equal, Greater}
use Rattle.law_cases.proofs.Clauses.{told_within}
use Rattle.log_law.specs.Keys.{key_at, key_cmp, IsNext, IsIndexed}

eq_is_equal : (o : Ordering) → is_eq o ≡ true → o ≡ Equal
eq_is_equal Less e = cc
eq_is_equal Equal e = refl
eq_is_equal Greater e = cc

own_reverse : (o : Ordering) → o ≡ ordering_reverse o → o ≡ Equal
own_reverse Less e = let wrong : Less ≡ Greater = e in cc
own_reverse Equal e = refl
own_reverse Greater e = let wrong : Greater ≡ Less = e in cc

same_cmp : (x : ℕ × ℕ) → is_eq (key_cmp x x) ≡ true
same_cmp x =
    let e = own_reverse (nat_cmp x.0 x.0) (nat_cmp_total.antisymm x.0 x.0) in
    let f = own_reverse (nat_cmp x.1 x.1) (nat_cmp_total.antisymm x.1 x.1) in
    rw (e, f) refl

-- keys that compare as equal are equal
pub equal_keys : (x y : ℕ × ℕ) → is_eq (key_cmp x y) ≡ true → x ≡ y
equal_keys x y e = exact_pairs nat_cmp nat_cmp exact_unsigned exact_unsigned x y (eq_is_equal (key_cmp x y) e)

-- keys that compare as different are different
pub apart_keys : (x y : ℕ × ℕ) → is_eq (key_cmp x y) ≡ false → x ≢ y
apart_keys x y e same = let g : is_eq (key_cmp x y) ≡ true = subst (λ (k : ℕ × ℕ). is_eq (key_cmp x k) ≡ true) same (same_cmp x) in cc

-- what is read at a place
pub read_key : (keys : List (Option (ℕ × ℕ))) (i : ℕ) (x : Option (ℕ × ℕ)) → i < length keys → x ≡ get_or keys i x → key_at keys i ≡ x
read_key keys i x lt e = ap (option_and_then (λ (o : Option (ℕ × ℕ)). o)) (slice_get_read keys (length keys) i x refl lt e)

pub next_skip : (keys : List (Option (ℕ × ℕ))) (i n : ℕ) (key : ℕ × ℕ) → key_at keys i ≢ Some key → IsNext keys (i + 1) key n → IsNext keys i key n
next_skip keys i n key apart h = record {
  at_least = let p = h.at_least in omega arith;
  within = h.within;
  none = λ k le lt. elim (cases_eq i k) [ inl e ↦ subst (λ (x : ℕ). key_at keys x ≢ Some key) e apart | inr ne ↦ h.none k (omega arith) lt ];
  stands = h.stands;
}

pub next_here : (keys : List (Option (ℕ × ℕ))) (i : ℕ) (key : ℕ × ℕ) → i < length keys → key_at keys i ≡ Some key → IsNext keys i key i
next_here keys i key lt e = record {
  at_least = omega arith;
  within = omega arith;
  none = λ k le lt2. absurd (omega arith);
  stands = λ _. e;
}

module _ (keys : List (Option (ℕ × ℕ))) (i : ℕ) (m : BTreeMap (ℕ × ℕ) ℕ) (nexts : List ℕ) (lt : i < length keys) (h : IsIndexed keys (i + 1) m nexts) where
  next_earlier : (k : ℕ) (key : ℕ × ℕ) → key_at keys i ≡ None → i ≤ k → key_at keys k ≡ Some key → IsNext keys (k + 1) key (slice_index nexts k)
  next_earlier k key e le s = elim (cases_eq i k) [
    | inl same ↦ absurd (let g : key_at keys i ≡ Some key = subst (λ (x : ℕ). key_at keys x ≡ Some key) (sym same) s in cc)
    | inr ne ↦ h.next k key (omega arith) s
  ]

  pub indexed_skip : key_at keys i ≡ None → IsIndexed keys i m nexts
  indexed_skip e = record {
    long = h.long;
    first = λ key. next_skip keys i _ key (λ s. cc) (h.first key);
    next = λ k key le s. next_earlier k key e le s;
  }

  module _ (key : ℕ × ℕ) (here : key_at keys i ≡ Some key) (n : BTreeMap (ℕ × ℕ) ℕ) (u : Updates key_cmp m n key (Some i)) where
    abbrev later : ℕ
    later = unwrap_or (get key_cmp m key) (length keys)

    first_more : (q : ℕ × ℕ) (b : Bool) → is_eq (key_cmp key q) ≡ b → IsNext keys i q (unwrap_or (cond b (Some i) (get key_cmp m q)) (length keys))
    first_more q true e = next_here keys i q lt (here ∙ ap Some (equal_keys key q e))
    first_more q false e = next_skip keys i _ q (λ s. apart_keys key q e (let g : Some key ≡ Some q = sym here ∙ s in cc)) (h.first q)

    next_more : (k : ℕ) (q : ℕ × ℕ) → i ≤ k → key_at keys k ≡ Some q → IsNext keys (k + 1) q (slice_index (slice_set nexts i later) k)
    next_more k q le s = elim (cases_eq k i) [
      | inl same ↦
          let there : key_at keys i ≡ Some q = subst (λ (x : ℕ). key_at keys x ≡ Some q) same s in
          let one : key ≡ q = (let g : Some key ≡ Some q = sym here ∙ there in cc) in
          let own : IsNext keys (i + 1) key (slice_index (slice_set nexts i later) i) = rw (get_or-set_same nexts i later 0 (omega (arith, h.long))) (h.first key) in
          subst (λ (x : ℕ × ℕ). IsNext keys (k + 1) x (slice_index (slice_set nexts i later) k)) one
          (subst (λ (x : ℕ). IsNext keys (x + 1) key (slice_index (slice_set nexts i later) x)) (sym same) own)
      | inr ne ↦ rw (get_or-set_other nexts i k later 0 ne) (h.next k q (omega arith) s)
    ]

    pub indexed_more : IsIndexed keys i n (slice_set nexts i later)
    indexed_more = record {
      long = length-set nexts i later ∙ h.long;
      first = λ q. rw (u.0 q) (first_more q (is_eq (key_cmp key q)) refl);
      next = next_more;
    }

pub key_within : (keys : List (Option (ℕ × ℕ))) (i : ℕ) (key : ℕ × ℕ) → key_at keys i ≡ Some key → i < length keys
key_within keys i key h = told_within (λ (o : Option (ℕ × ℕ)). o) keys i key h
