-- Lists that go on at their end: their fronts, and what stands there.
use Rattle.std.proofs.Common.{◌≡◌, ℕ, zero, suc, ◌≤◌, List, [], ◌∷◌, ◌++◌, length, take, inl, inr, refl, sym, ap, subst, arith}
use Rattle.list_facts.specs.Lists.{Front, In}
use Rattle.rec_id.specs.Identity.{Identity}
use Rattle.lazy_rules.specs.Ids.{ids_of}
use Rattle.lazy_rules.specs.SeqState.{SeqState}
use Rattle.log_facts.specs.Finality.{line_ids}

module _ {A : Type 0} where
  pub take_more : (n : ℕ) (xs ys : List A) → n ≤ length xs → take n (xs ++ ys) ≡ take n xs
  take_more zero xs ys le = refl
  take_more (suc n) [] ys le = absurd (omega arith)
  take_more (suc n) (x ∷ xs) ys le = ap (λ (zs : List A). x ∷ zs) (take_more n xs ys (omega arith))

  pub take_front : (n : ℕ) (xs ys : List A) → Front xs ys → n ≤ length xs → take n ys ≡ take n xs
  take_front n xs ys front le = subst (λ (zs : List A). take n zs ≡ take n xs) (sym front.is) (take_more n xs front.rest le)

  -- all of a list
  pub take_whole : (n : ℕ) (xs : List A) → length xs ≤ n → take n xs ≡ xs
  take_whole zero [] le = refl
  take_whole zero (x ∷ xs) le = absurd (omega arith)
  take_whole (suc n) [] le = refl
  take_whole (suc n) (x ∷ xs) le = ap (λ (zs : List A). x ∷ zs) (take_whole n xs (omega arith))

  -- a front of a front
  pub take_shorter : (k n : ℕ) (xs : List A) → k ≤ n → take k (take n xs) ≡ take k xs
  take_shorter zero n xs le = refl
  take_shorter (suc k) zero xs le = absurd (omega arith)
  take_shorter (suc k) (suc n) [] le = refl
  take_shorter (suc k) (suc n) (x ∷ xs) le = ap (λ (ys : List A). x ∷ ys) (take_shorter k n xs (omega arith))

  pub in_front : (m n : ℕ) (xs : List A) (x : A) → m ≤ n → In x (take m xs) → In x (take n xs)
  in_front zero n xs x le h = absurd h
  in_front (suc m) zero xs x le h = absurd (omega arith)
  in_front (suc m) (suc n) [] x le h = absurd h
  in_front (suc m) (suc n) (z ∷ zs) x le (inl e) = inl e
  in_front (suc m) (suc n) (z ∷ zs) x le (inr h) = inr (in_front m n zs x (omega arith) h)

  pub in_whole : (n : ℕ) (xs : List A) (x : A) → In x (take n xs) → In x xs
  in_whole zero xs x h = absurd h
  in_whole (suc n) [] x h = absurd h
  in_whole (suc n) (z ∷ zs) x (inl e) = inl e
  in_whole (suc n) (z ∷ zs) x (inr h) = inr (in_whole n zs x h)

  pub length_front : (xs ys : List A) → Front xs ys → length xs ≤ length ys
  length_front xs ys front = subst (λ (zs : List A). length xs ≤ length zs) (sym front.is) (longer xs front.rest)
    where
      longer : (xs ys : List A) → length xs ≤ length (xs ++ ys)
      longer [] ys = omega arith
      longer (x ∷ xs) ys = let more = longer xs ys in omega arith

-- who has so much of the line has the same line when that goes on
pub line_same : (line later : List Identity) (s : SeqState) → Front line later → s.bound ≤ length line → line_ids later s ≡ line_ids line s
line_same line later s front le = ap (λ (ids : List Identity). ids ++ ids_of s.pending) (take_front s.bound line later front le)

-- who begins like a list that is long enough is long enough
pub begins_long : {A : Type 0} (n : ℕ) (xs ys : List A) → take n xs ≡ take n ys → n ≤ length ys → n ≤ length xs
begins_long n xs ys same le =
    let one = length_take_le n ys le in
    let two : length (take n xs) ≡ length (take n ys) = ap length same in
    let three = shorter n xs in
    omega arith
  where
    shorter : {A : Type 0} (n : ℕ) (xs : List A) → length (take n xs) ≤ length xs
    shorter zero xs = omega arith
    shorter (suc n) [] = omega arith
    shorter (suc n) (x ∷ xs) = let less = shorter n xs in omega arith

    length_take_le : {A : Type 0} (n : ℕ) (xs : List A) → n ≤ length xs → length (take n xs) ≡ n
    length_take_le zero xs le = refl
    length_take_le (suc n) [] le = absurd (omega arith)
    length_take_le (suc n) (x ∷ xs) le = let less = length_take_le n xs (omega arith) in omega arith
