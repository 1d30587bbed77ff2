-- The least tails, from the last index to the first.
use Rattle.std.proofs.Common.{◌≡◌, ◌≢◌, ℕ, ◌+◌, ◌-◌, ◌^◌, ◌<◌, Bool, true, false, cond, min, List, length, Option, Some, None, inl, inr, refl, sym, ap, ◌∙◌, subst, arith}
use Rattle.std.specs.Prelude.{slice_index, slice_set}
use Rattle.std.specs.Option.{option_map_or, IfSome}
use Rattle.std.specs.BTreeMap.{BTreeMap}
use Rattle.std.specs.Ordering.{is_eq}
use Rattle.std.proofs.lemmas.Bool.{cases_eq, cases_lt}
use Rattle.std.proofs.lemmas.List.{get_or-set_same, get_or-set_other, length-set}
use Rattle.rec_id.specs.History.{told_at}
use Rattle.rec_id.specs.declared.event.Event.{Event}
use Rattle.log_law.specs.Keys.{key_cmp}
use Rattle.log_law.specs.Tails.{forced_key, begun_key, IsLeastTail, IsLeastTailAt, tail_in, lowered, AreTailsFrom}
use Rattle.log_law.proofs.Indexing.{equal_keys, apart_keys}

module _ (history : List Event) (b : ℕ) (key : ℕ × ℕ) (low : ℕ) (h : IsLeastTail history (b + 1) key low) where
  tail_skip : ((tail : ℕ) → told_at forced_key history b ≢ Some (key, tail)) → IsLeastTail history b key low
  tail_skip none = record {
    at_most = λ j tail le t. elim (cases_eq b j) [ inl e ↦ absurd (none tail (subst (λ (x : ℕ). told_at forced_key history x ≡ Some (key, tail)) (sym e) t)) | inr ne ↦ h.at_most j tail (omega arith) t ];
    short = λ j tail le t. elim (cases_eq b j) [ inl e ↦ absurd (none tail (subst (λ (x : ℕ). told_at forced_key history x ≡ Some (key, tail)) (sym e) t)) | inr ne ↦ h.short j tail (omega arith) t ];
    taken = λ lt. (let t = h.taken lt in record { index = t.index; after = let a = t.after in omega arith; tells = t.tells });
  }

  tail_take : (n : ℕ) → n < 2 ^ 32 → told_at forced_key history b ≡ Some (key, n) → IsLeastTail history b key (min low n)
  tail_take n short here = record {
    at_most = λ j tail le t. elim (cases_eq b j) [
      | inl e ↦ (let same : n ≡ tail = one tail j e t in omega arith)
      | inr ne ↦ (let k = h.at_most j tail (omega arith) t in omega arith)
    ];
    short = λ j tail le t. elim (cases_eq b j) [
      | inl e ↦ (let same : n ≡ tail = one tail j e t in omega arith)
      | inr ne ↦ h.short j tail (omega arith) t
    ];
    taken = λ lt. elim (cases_lt low n) [
      | inl less ↦ (let t = h.taken (omega arith) in let same : low ≡ min low n = omega arith in
          record { index = t.index; after = let a = t.after in omega arith; tells = subst (λ (x : ℕ). told_at forced_key history t.index ≡ Some (key, x)) same t.tells })
      | inr more ↦ (let same : n ≡ min low n = omega arith in
          record { index = b; after = omega arith; tells = subst (λ (x : ℕ). told_at forced_key history b ≡ Some (key, x)) same here })
    ];
  }
    where
      one : (tail j : ℕ) → b ≡ j → told_at forced_key history j ≡ Some (key, tail) → n ≡ tail
      one tail j e t = let g : Some (key, n) ≡ Some (key, tail) = sym here ∙ subst (λ (x : ℕ). told_at forced_key history x ≡ Some (key, tail)) (sym e) t in ap (λ (o : Option ((ℕ × ℕ) × ℕ)). option_map_or (λ (p : (ℕ × ℕ) × ℕ). p.1) o 0) g

  by_key : (own : ℕ × ℕ) (n : ℕ) → n < 2 ^ 32 → told_at forced_key history b ≡ Some (own, n) → (t : Bool) → is_eq (key_cmp own key) ≡ t → IsLeastTail history b key (cond t (min low n) low)
  by_key own n short here true e = tail_take n short (subst (λ (k : ℕ × ℕ). told_at forced_key history b ≡ Some (k, n)) (equal_keys own key e) here)
  by_key own n short here false e = tail_skip (λ tail t. apart_keys own key e (let g : Some (own, n) ≡ Some (key, tail) = sym here ∙ t in ap (λ (o : Option ((ℕ × ℕ) × ℕ)). option_map_or (λ (p : (ℕ × ℕ) × ℕ). p.0) o own) g))

  pub tail_step : (o : Option ((ℕ × ℕ) × ℕ)) → told_at forced_key history b ≡ o → IfSome o (λ told. told.1 < 2 ^ 32) → IsLeastTail history b key (lowered o key low)
  tail_step None here fits = tail_skip (λ tail t. (let g : None ≡ Some (key, tail) = sym here ∙ t in cc))
  tail_step (Some told) here fits = by_key told.0 told.1 fits here (is_eq (key_cmp told.0 key)) refl

pub tail_at : (history : List Event) (b : ℕ) (tails : BTreeMap (ℕ × ℕ) ℕ) → ((key : ℕ × ℕ) → IsLeastTail history (b + 1) key (tail_in tails key))
    → (o : Option (ℕ × ℕ)) → told_at begun_key history b ≡ o → IsLeastTailAt history b (option_map_or (tail_in tails) o (2 ^ 64 - 1))
tail_at history b tails h None e = rw e refl
tail_at history b tails h (Some key) e = rw e (h key)

pub tails_step :
    (history : List Event) (b : ℕ) (tails after : BTreeMap (ℕ × ℕ) ℕ) (made : List ℕ) (begun : Option (ℕ × ℕ)) (forced : Option ((ℕ × ℕ) × ℕ)) →
    b < length history → AreTailsFrom history (b + 1) tails made → told_at begun_key history b ≡ begun → told_at forced_key history b ≡ forced → IfSome forced (λ told. told.1 < 2 ^ 32) →
    ((key : ℕ × ℕ) → tail_in after key ≡ lowered forced key (tail_in tails key)) → AreTailsFrom history b after (slice_set made b (option_map_or (tail_in tails) begun (2 ^ 64 - 1)))
tails_step history b tails after made begun forced inside h eb ef fits f = record {
  long = length-set made b _ ∙ h.long;
  each = λ key. subst (λ (n : ℕ). IsLeastTail history b key n) (sym (f key)) (tail_step history b key (tail_in tails key) (h.each key) forced ef fits);
  at = λ k le lt. elim (cases_eq k b) [
    | inl e ↦ subst (λ (x : ℕ). IsLeastTailAt history x (slice_index (slice_set made b (option_map_or (tail_in tails) begun (2 ^ 64 - 1))) x)) (sym e)
        (subst (λ (x : ℕ). IsLeastTailAt history b x) (sym (get_or-set_same made b (option_map_or (tail_in tails) begun (2 ^ 64 - 1)) 0 (omega (arith, h.long)))) (tail_at history b tails h.each begun eb))
    | inr ne ↦ subst (λ (x : ℕ). IsLeastTailAt history k x) (sym (get_or-set_other made b k (option_map_or (tail_in tails) begun (2 ^ 64 - 1)) 0 ne)) (h.at k (omega arith) lt)
  ];
}
