-- Two lists that show the same: what moves the members of one moves those of the other.
use Rattle.std.proofs.Common.{◌≡◌, ◌<◌, ◌≤◌, ℕ, zero, suc, List, [], ◌∷◌, length, map, IsPermutation, refl, sym, ap, ◌∙◌, subst, arith}
use Rattle.std.specs.Prelude.{slice_set, slice_index_or}
use Rattle.std.specs.List.{swap}
use Rattle.std.proofs.lemmas.List.{length-map, map-set, get_or-map}
use Rattle.std.proofs.lemmas.List.Edits.{length-swap}
use Rattle.std.proofs.lemmas.List.Sorted.{IsPermutation-keeps, IsPermutation-refl, IsPermutation-swap, IsPermutation-trans, length_permutation}

map-swap : {A B : Type 0} (f : A → B) (xs : List A) (i j : ℕ) → i < length xs → j < length xs → map f (swap xs i j) ≡ swap (map f xs) i j
map-swap f [] i j a b = refl
map-swap f (x ∷ xs) i j a b =
    map-set f (slice_set (x ∷ xs) i (slice_index_or (x ∷ xs) j x)) j (slice_index_or (x ∷ xs) i x)
    ∙ ap (λ l. slice_set l j (f (slice_index_or (x ∷ xs) i x))) (map-set f (x ∷ xs) i (slice_index_or (x ∷ xs) j x))
    ∙ ap (λ y. slice_set (slice_set (map f (x ∷ xs)) i y) j (f (slice_index_or (x ∷ xs) i x))) (sym (get_or-map f (x ∷ xs) j x (f x) b))
    ∙ ap (λ y. slice_set (slice_set (map f (x ∷ xs)) i (slice_index_or (map f (x ∷ xs)) j (f x))) j y) (sym (get_or-map f (x ∷ xs) i x (f x) a))

module _ {A B C : Type 0} (f : A → C) (g : B → C) (xs : List A) where
  -- another order of xs, which shows what these do
  pub record Follows (ys : List B) : Type 0 where
    pub order : List A
    pub same : IsPermutation xs order
    pub shows : map f order ≡ map g ys

  moved : (ys : List B) (i j : ℕ) → i < length ys → j < length ys → Follows ys → Follows (swap ys i j)
  moved ys i j a b h =
      let long : length h.order ≡ length ys = sym (length-map h.order f) ∙ ap length h.shows ∙ length-map ys g in
      let c : i < length h.order = omega arith in
      let d : j < length h.order = omega arith in
      record {
        order = swap h.order i j;
        same = IsPermutation-trans xs h.order (swap h.order i j) h.same (IsPermutation-swap h.order (swap h.order i j) i j c d refl);
        shows = map-swap f h.order i j c d ∙ ap (λ l. swap l i j) h.shows ∙ sym (map-swap g ys i j a b);
      }

  pub permuted_along : (ys zs : List B) → map f xs ≡ map g ys → IsPermutation ys zs → Follows zs
  permuted_along ys zs same perm = IsPermutation-keeps ys Follows (record { order = xs; same = IsPermutation-refl xs; shows = same }) moved zs perm
