-- Lists by their places, counted from some place on.
use Rattle.std.proofs.Common.{◌≡◌, ◌⊎◌, ℕ, zero, suc, ◌+◌, ◌<◌, ◌≤◌, List, [], ◌∷◌, ◌++◌, length, take, Some, None, slice_get, inl, inr, refl, sym, ap, ◌∙◌, subst, arith}
use Rattle.log_facts.specs.Handed.{EachFrom}

module _ {A : Type 0} where
  -- ---- what holds of each member and its place
  pub each_from_weaker : (P Q : ℕ → A → Type 0) → ((place : ℕ) (x : A) → P place x → Q place x) → (place : ℕ) (xs : List A) → EachFrom P place xs → EachFrom Q place xs
  each_from_weaker P Q f place [] h = tt
  each_from_weaker P Q f place (x ∷ xs) h = (f place x h.0, each_from_weaker P Q f (place + 1) xs h.1)

  pub each_from_at : (P : ℕ → A → Type 0) (place : ℕ) (xs : List A) → EachFrom P place xs → (k : ℕ) (x : A) → slice_get xs k ≡ Some x → P (place + k) x
  each_from_at P place [] h k x e = cc
  each_from_at P place (z ∷ zs) h zero x e =
      let is : z ≡ x = cc in
      let here : place ≡ place + 0 = omega arith in
      subst (λ (n : ℕ). P n x) here (subst (P place) is h.0)
  each_from_at P place (z ∷ zs) h (suc k) x e =
      let there : place + 1 + k ≡ place + suc k = omega arith in
      subst (λ (n : ℕ). P n x) there (each_from_at P (place + 1) zs h.1 k x e)

  pub each_from_first : (P : ℕ → A → Type 0) (xs : List A) → EachFrom P 0 xs → (k : ℕ) (x : A) → slice_get xs k ≡ Some x → P k x
  each_from_first P xs h k x e =
      let is : 0 + k ≡ k = omega arith in
      subst (λ (n : ℕ). P n x) is (each_from_at P 0 xs h k x e)

  pub at_each_from : (P : ℕ → A → Type 0) (place : ℕ) (xs : List A) → ((k : ℕ) (x : A) → slice_get xs k ≡ Some x → P (place + k) x) → EachFrom P place xs
  at_each_from P place [] f = tt
  at_each_from P place (z ∷ zs) f =
      let here : place + 0 ≡ place = omega arith in (
        subst (λ (n : ℕ). P n z) here (f 0 z refl),
        at_each_from P (place + 1) zs (λ k x e. let there : place + suc k ≡ place + 1 + k = omega arith in subst (λ (n : ℕ). P n x) there (f (suc k) x e)),
      )

  pub each_from_append : (P : ℕ → A → Type 0) (place : ℕ) (xs ys : List A) → EachFrom P place xs → EachFrom P (place + length xs) ys → EachFrom P place (xs ++ ys)
  each_from_append P place [] ys h k = let is : place + 0 ≡ place = omega arith in subst (λ (n : ℕ). EachFrom P n ys) is k
  each_from_append P place (z ∷ zs) ys h k =
      let is : place + suc (length zs) ≡ place + 1 + length zs = omega arith in
      (h.0, each_from_append P (place + 1) zs ys h.1 (subst (λ (n : ℕ). EachFrom P n ys) is k))

  -- ---- members of a list in two parts, and of its front
  pub at_left : (xs ys : List A) (k : ℕ) (x : A) → slice_get xs k ≡ Some x → slice_get (xs ++ ys) k ≡ Some x
  at_left [] ys k x e = cc
  at_left (z ∷ zs) ys zero x e = e
  at_left (z ∷ zs) ys (suc k) x e = at_left zs ys k x e

  pub at_right : (xs ys : List A) (k : ℕ) (x : A) → slice_get ys k ≡ Some x → slice_get (xs ++ ys) (length xs + k) ≡ Some x
  at_right [] ys k x e = let is : k ≡ 0 + k = omega arith in subst (λ (n : ℕ). slice_get ys n ≡ Some x) is e
  at_right (z ∷ zs) ys k x e =
      let is : suc (length zs + k) ≡ suc (length zs) + k = omega arith in
      subst (λ (n : ℕ). slice_get (z ∷ (zs ++ ys)) n ≡ Some x) is (at_right zs ys k x e)

  -- the place of a member of the right part
  pub record IsBehind (xs ys : List A) (k : ℕ) (x : A) : Type 0 where
    pub place : ℕ
    pub is : k ≡ length xs + place
    pub stands : slice_get ys place ≡ Some x

  pub at_append : (xs ys : List A) (k : ℕ) (x : A) → slice_get (xs ++ ys) k ≡ Some x → ((k < length xs) × (slice_get xs k ≡ Some x)) ⊎ IsBehind xs ys k x
  at_append [] ys k x e = inr (record { place = k; is = omega arith; stands = e })
  at_append (z ∷ zs) ys zero x e = inl (omega arith, e)
  at_append (z ∷ zs) ys (suc k) x e = elim (at_append zs ys k x e) [
    | inl left ↦ let lt = left.0 in inl (omega arith, left.1)
    | inr right ↦ let is = right.is in inr (record { place = right.place; is = omega arith; stands = right.stands })
  ]

  pub at_take : (n : ℕ) (xs : List A) (k : ℕ) (x : A) → slice_get (take n xs) k ≡ Some x → (k < n) × (slice_get xs k ≡ Some x)
  at_take zero xs k x e = cc
  at_take (suc n) [] k x e = cc
  at_take (suc n) (z ∷ zs) zero x e = (omega arith, e)
  at_take (suc n) (z ∷ zs) (suc k) x e = let later = at_take n zs k x e in let lt = later.0 in (omega arith, later.1)

  pub take_at : (n : ℕ) (xs : List A) (k : ℕ) (x : A) → k < n → slice_get xs k ≡ Some x → slice_get (take n xs) k ≡ Some x
  take_at zero xs k x lt e = absurd (omega arith)
  take_at (suc n) [] k x lt e = cc
  take_at (suc n) (z ∷ zs) zero x lt e = e
  take_at (suc n) (z ∷ zs) (suc k) x lt e = take_at n zs k x (omega arith) e

  -- lists that have the same below a place begin alike
  pub take_same : (n : ℕ) (xs ys : List A) → n ≤ length xs → ((k : ℕ) (x : A) → k < n → slice_get xs k ≡ Some x → slice_get ys k ≡ Some x) → take n xs ≡ take n ys
  take_same zero xs ys le f = refl
  take_same (suc n) [] ys le f = absurd (omega arith)
  take_same (suc n) (x ∷ xs) [] le f = let wrong : None ≡ Some x = f 0 x (omega arith) refl in cc
  take_same (suc n) (x ∷ xs) (y ∷ ys) le f =
      let first : y ≡ x = let e : Some y ≡ Some x = f 0 x (omega arith) refl in cc in
      let rest = take_same n xs ys (omega arith) (λ k z lt e. f (suc k) z (omega arith) e) in
      ap (λ (zs : List A). x ∷ zs) rest ∙ ap (λ (z : A). z ∷ take n ys) (sym first)
