-- What stands in a list, and what holds of each member.
use Rattle.std.proofs.Common.{◌≡◌, ◌⊎◌, List, [], ◌∷◌, ◌++◌, map, Bool, true, false, cond, inl, inr, refl, sym, ap, ◌∙◌, subst}
use Rattle.std.specs.List.{list_any, list_all, filter}
use Rattle.std.proofs.lemmas.Bool.{and_parts, or_cases}
use Rattle.list_facts.specs.Lists.{In, Each}

module _ {A : Type 0} where
  pub in_left : (x : A) (xs ys : List A) → In x xs → In x (xs ++ ys)
  in_left x [] ys h = absurd h
  in_left x (z ∷ zs) ys (inl e) = inl e
  in_left x (z ∷ zs) ys (inr h) = inr (in_left x zs ys h)

  pub in_right : (x : A) (xs ys : List A) → In x ys → In x (xs ++ ys)
  in_right x [] ys h = h
  in_right x (z ∷ zs) ys h = inr (in_right x zs ys h)

  pub in_cases : (x : A) (xs ys : List A) → In x (xs ++ ys) → In x xs ⊎ In x ys
  in_cases x [] ys h = inr h
  in_cases x (z ∷ zs) ys (inl e) = inl (inl e)
  in_cases x (z ∷ zs) ys (inr h) = elim (in_cases x zs ys h) [ inl k ↦ inl (inr k) | inr k ↦ inr k ]

  -- the last member
  pub in_last : (x : A) (xs : List A) → In x (xs ++ x ∷ [])
  in_last x xs = in_right x xs (x ∷ []) (inl refl)

  -- what stands in a list with one more member
  pub in_more : (x y : A) (xs : List A) → In x (xs ++ y ∷ []) → In x xs ⊎ (y ≡ x)
  in_more x y xs h = elim (in_cases x xs (y ∷ []) h) [ inl k ↦ inl k | inr k ↦ elim k [ inl e ↦ inr e | inr none ↦ absurd none ] ]

  pub each_left : (P : A → Type 0) (xs ys : List A) → Each P (xs ++ ys) → Each P xs
  each_left P [] ys h = tt
  each_left P (z ∷ zs) ys h = (h.0, each_left P zs ys h.1)

  pub each_append : (P : A → Type 0) (xs ys : List A) → Each P xs → Each P ys → Each P (xs ++ ys)
  each_append P [] ys h k = k
  each_append P (z ∷ zs) ys h k = (h.0, each_append P zs ys h.1 k)

  pub each_weaker : (P Q : A → Type 0) → ((x : A) → P x → Q x) → (xs : List A) → Each P xs → Each Q xs
  each_weaker P Q f [] h = tt
  each_weaker P Q f (z ∷ zs) h = (f z h.0, each_weaker P Q f zs h.1)

  pub each_in : (P : A → Type 0) (xs : List A) → Each P xs → (x : A) → In x xs → P x
  each_in P [] h x m = absurd m
  each_in P (z ∷ zs) h x (inl e) = subst P e h.0
  each_in P (z ∷ zs) h x (inr k) = each_in P zs h.1 x k

  pub in_each : (P : A → Type 0) (xs : List A) → ((x : A) → In x xs → P x) → Each P xs
  in_each P [] f = tt
  in_each P (z ∷ zs) f = (f z (inl refl), in_each P zs (λ x k. f x (inr k)))

  -- a test that computes whether a member passes
  pub in_passes : (p : A → Bool) (xs : List A) → list_any p xs ≡ true → (x : A) × (In x xs) × (p x ≡ true)
  in_passes p [] h = let wrong : false ≡ true = h in cc
  in_passes p (z ∷ zs) h = elim (or_cases (p z) (list_any p zs) h) [
    | inl one ↦ (z, inl refl, one)
    | inr later ↦ let k = in_passes p zs later in (k.0, inr k.1, k.2)
  ]

  -- a test that computes whether all pass
  pub all_pass : (p : A → Bool) (xs : List A) → list_all p xs ≡ true → (x : A) → In x xs → p x ≡ true
  all_pass p [] h x m = absurd m
  all_pass p (z ∷ zs) h x (inl e) = ap p (sym e) ∙ (and_parts (p z) (list_all p zs) h).0
  all_pass p (z ∷ zs) h x (inr m) = all_pass p zs (and_parts (p z) (list_all p zs) h).1 x m

  -- of what passes a test
  pub in_filter : (p : A → Bool) (xs : List A) (x : A) → In x (filter p xs) → In x xs × (p x ≡ true)
  in_filter p [] x h = absurd h
  in_filter p (z ∷ zs) x h = by (in_filter p zs x) (p z) refl h
    where
      by : (In x (filter p zs) → In x zs × (p x ≡ true)) → (b : Bool) → p z ≡ b → In x (cond b (z ∷ filter p zs) (filter p zs)) → In x (z ∷ zs) × (p x ≡ true)
      by rest true e (inl same) = (inl same, sym (ap p same) ∙ e)
      by rest true e (inr k) = let r = rest k in (inr r.0, r.1)
      by rest false e k = let r = rest k in (inr r.0, r.1)

  pub filter_in : (p : A → Bool) (xs : List A) (x : A) → In x xs → p x ≡ true → In x (filter p xs)
  filter_in p [] x h e = absurd h
  filter_in p (z ∷ zs) x h e = by (λ m. filter_in p zs x m e) (p z) refl h
    where
      by : (In x zs → In x (filter p zs)) → (b : Bool) → p z ≡ b → In x (z ∷ zs) → In x (cond b (z ∷ filter p zs) (filter p zs))
      by rest true f (inl same) = inl same
      by rest true f (inr k) = inr (rest k)
      by rest false f (inl same) = let wrong : false ≡ true = sym f ∙ ap p same ∙ e in cc
      by rest false f (inr k) = rest k

module _ {A B : Type 0} (f : A → B) where
  pub in_map : (x : A) (xs : List A) → In x xs → In (f x) (map f xs)
  in_map x [] m = absurd m
  in_map x (z ∷ zs) (inl e) = inl (ap f e)
  in_map x (z ∷ zs) (inr h) = inr (in_map x zs h)

  pub in_mapped : (y : B) (xs : List A) → In y (map f xs) → (x : A) × (In x xs) × (f x ≡ y)
  in_mapped y [] h = absurd h
  in_mapped y (z ∷ zs) (inl e) = (z, inl refl, e)
  in_mapped y (z ∷ zs) (inr h) = let k = in_mapped y zs h in (k.0, inr k.1, k.2)

  pub each_map : (P : B → Type 0) (xs : List A) → Each (λ x. P (f x)) xs → Each P (map f xs)
  each_map P [] h = tt
  each_map P (z ∷ zs) h = (h.0, each_map P zs h.1)
