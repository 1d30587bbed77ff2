-- A list that rises by time is the only one with its members, and with its counts of each time, that doesn't fall.
use Rattle.std.proofs.Common.{◌≡◌, ℕ, ◌<◌, ◌≤◌, List, [], ◌∷◌, Bool, true, false, cond, All, IsPermutation, inl, inr, refl, sym, ap, ◌∙◌, arith, eq-eqb, ne_eqb}
use Rattle.std.specs.Prelude.{◌==◌, ◌&&◌, sum_by, filter}
use Rattle.std.proofs.lemmas.List.Elements.{All-cons, All-nil, All-head, All-tail}
use Rattle.std.proofs.lemmas.List.Sorted.{All-permutation, IsPermutation-sym, sum_by-IsPermutation}
use Rattle.std.proofs.lemmas.List.Sums.{sum_by-cons}
use Rattle.list_facts.specs.Lists.{In, Each}
use Rattle.list_facts.proofs.Members.{each_in, in_each, each_weaker, in_filter, filter_in}
use Rattle.world_facts.proofs.goes.Sends.{each_filter}
use Rattle.diary_laws.specs.Merges.{Ranked}

module _ {A : Type 0} where
  -- a permutation keeps what holds of each member
  all_of : (P : A → Type 0) (xs : List A) → Each P xs → All P xs
  all_of P [] h = All-nil P
  all_of P (x ∷ xs) h = All-cons P x xs h.0 (all_of P xs h.1)

  pub each_of : (P : A → Type 0) (xs : List A) → All P xs → Each P xs
  each_of P [] h = tt
  each_of P (x ∷ xs) h = (All-head P x xs h, each_of P xs (All-tail P x xs h))

  pub each_permuted : (P : A → Type 0) (xs ys : List A) → IsPermutation xs ys → Each P xs → Each P ys
  each_permuted P xs ys same h = each_of P ys (All-permutation P xs ys same (all_of P xs h))

  pub in_permuted : (xs ys : List A) → IsPermutation xs ys → (x : A) → In x ys → In x xs
  in_permuted xs ys same x there = each_in (λ (y : A). In y xs) ys (each_permuted (λ (y : A). In y xs) xs ys same (in_each (λ (y : A). In y xs) xs (λ y k. k))) x there

  pub in_merged : (xs ys : List A) → IsPermutation xs ys → (x : A) → In x xs → In x ys
  in_merged xs ys same x there = in_permuted ys xs (IsPermutation-sym xs ys same) x there

  -- ranked lists
  pub ranked_weaker : (R S : A → A → Type 0) → ((x y : A) → R x y → S x y) → (xs : List A) → Ranked R xs → Ranked S xs
  ranked_weaker R S f [] h = tt
  ranked_weaker R S f (x ∷ xs) h = (each_weaker (R x) (S x) (f x) xs h.0, ranked_weaker R S f xs h.1)

  pub ranked_filter : (R : A → A → Type 0) (p : A → Bool) (xs : List A) → Ranked R xs → Ranked R (filter p xs)
  ranked_filter R p [] h = tt
  ranked_filter R p (x ∷ xs) h = by (p x) (each_filter (R x) p xs h.0) (ranked_filter R p xs h.1)
    where
      by : (b : Bool) → Each (R x) (filter p xs) → Ranked R (filter p xs) → Ranked R (cond b (x ∷ filter p xs) (filter p xs))
      by true first rest = (first, rest)
      by false first rest = rest

abbrev one : Bool → ℕ
one b = cond b 1 0

module _ {A : Type 0} (time : A → ℕ) where
  abbrev Rises : A → A → Type 0
  Rises x y = time x < time y

  abbrev Stays : A → A → Type 0
  Stays x y = time x ≤ time y

  -- how many members have this time
  abbrev hits : ℕ → A → ℕ
  hits t x = one (time x == t)

  hit : (x : A) (t : ℕ) → time x ≡ t → hits t x ≡ 1
  hit x t same = ap one (eq-eqb (time x) t same)

  missed : (x : A) (t : ℕ) → t < time x → hits t x ≡ 0
  missed x t later = ap one (ne_eqb (time x) t (omega arith))

  none_later : (t : ℕ) (xs : List A) → Each (λ (x : A). t < time x) xs → sum_by (hits t) xs ≡ 0
  none_later t [] h = refl
  none_later t (x ∷ xs) h = let first = missed x t h.0 in let rest = none_later t xs h.1 in let both = sum_by-cons (hits t) x xs in omega arith

  some_there : (t : ℕ) (x : A) (xs : List A) → In x xs → time x ≡ t → 1 ≤ sum_by (hits t) xs
  some_there t x [] there same = absurd there
  some_there t x (y ∷ ys) (inl e) same = let first = hit y t (ap time e ∙ same) in let both = sum_by-cons (hits t) y ys in omega arith
  some_there t x (y ∷ ys) (inr there) same = let rest = some_there t x ys there same in let both = sum_by-cons (hits t) y ys in omega arith

  same_list : (xs ys : List A) → Ranked Rises xs → Ranked Stays ys → ((x : A) → In x ys → In x xs) → ((t : ℕ) → sum_by (hits t) ys ≡ sum_by (hits t) xs) → ys ≡ xs
  same_list [] [] up weak into counts = refl
  same_list [] (y ∷ ys) up weak into counts = absurd (into y (inl refl))
  same_list (x ∷ xs) [] up weak into counts =
      let none = counts (time x) in
      let some = some_there (time x) x (x ∷ xs) (inl refl) refl in
      let empty : sum_by (hits (time x)) [] ≡ 0 = refl in
      absurd (omega arith)
  same_list (x ∷ xs) (y ∷ ys) up weak into counts =
      let same : x ≡ y = first (into y (inl refl)) in
      ap (λ (z : A). z ∷ ys) (sym same) ∙ ap (λ (zs : List A). x ∷ zs) (same_list xs ys up.1 weak.1 (λ z there. later same z there (into z (inr there))) (λ t. rest same t))
    where
      first : In y (x ∷ xs) → x ≡ y
      first (inl e) = e
      first (inr behind) =
          let above : time x < time y = each_in (Rises x) xs up.0 y behind in
          let none = none_later (time x) (y ∷ ys) (above, each_weaker (Stays y) (λ (z : A). time x < time z) (λ z h. omega arith) ys weak.0) in
          let some = some_there (time x) x (x ∷ xs) (inl refl) refl in
          let same = counts (time x) in
          absurd (omega arith)

      rest : x ≡ y → (t : ℕ) → sum_by (hits t) ys ≡ sum_by (hits t) xs
      rest same t =
          let a = counts t in
          let b = sum_by-cons (hits t) x xs in
          let c = sum_by-cons (hits t) y ys in
          let d = ap (hits t) same in
          omega arith

      later : x ≡ y → (z : A) → In z ys → In z (x ∷ xs) → In z xs
      later same z there (inr behind) = behind
      later same z there (inl e) =
          let some = some_there (time x) z ys there (sym (ap time e)) in
          let none = none_later (time x) xs up.0 in
          let equal = rest same (time x) in
          absurd (omega arith)

  -- the members that pass a test
  passes : (p : A → Bool) (t : ℕ) (xs : List A) → sum_by (hits t) (filter p xs) ≡ sum_by (λ (x : A). one (p x && (time x == t))) xs
  passes p t [] = refl
  passes p t (x ∷ xs) = by (passes p t xs) (p x) refl
    where
      by : sum_by (hits t) (filter p xs) ≡ sum_by (λ (z : A). one (p z && (time z == t))) xs → (b : Bool) → p x ≡ b → sum_by (hits t) (filter p (x ∷ xs)) ≡ sum_by (λ (z : A). one (p z && (time z == t))) (x ∷ xs)
      by e true is =
          let kept : filter p (x ∷ xs) ≡ x ∷ filter p xs = ap (λ (b : Bool). cond b (x ∷ filter p xs) (filter p xs)) is in
          let a = ap (sum_by (hits t)) kept in
          let b = sum_by-cons (hits t) x (filter p xs) in
          let c = sum_by-cons (λ (z : A). one (p z && (time z == t))) x xs in
          let d : one (p x && (time x == t)) ≡ hits t x = ap (λ (b : Bool). one (b && (time x == t))) is in
          omega arith
      by e false is =
          let kept : filter p (x ∷ xs) ≡ filter p xs = ap (λ (b : Bool). cond b (x ∷ filter p xs) (filter p xs)) is in
          let a = ap (sum_by (hits t)) kept in
          let c = sum_by-cons (λ (z : A). one (p z && (time z == t))) x xs in
          let d : one (p x && (time x == t)) ≡ 0 = ap (λ (b : Bool). one (b && (time x == t))) is in
          omega arith

  -- what passes a test in a list that doesn't fall is what passes it in another list of the same members, where that rises
  pub same_passes : (p : A → Bool) (xs ys : List A) → IsPermutation xs ys → Ranked Rises (filter p xs) → Ranked Stays ys → filter p ys ≡ filter p xs
  same_passes p xs ys same up weak =
      same_list (filter p xs) (filter p ys) up (ranked_filter Stays p ys weak)
      (λ x there. let k = in_filter p ys x there in filter_in p xs x (in_permuted xs ys same x k.0) k.1)
      (λ t. passes p t ys ∙ sum_by-IsPermutation (λ (x : A). one (p x && (time x == t))) xs ys same ∙ sym (passes p t xs))
