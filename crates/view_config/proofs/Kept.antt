-- Nodes that aren't suspected: when there are none, and the first so many of them.
use Rattle.std.proofs.Common.{◌≡◌, ℕ, ◌+◌, ◌-◌, ◌≤◌, min, List, [], ◌∷◌, ◌++◌, length, take, drop, Bool, true, false, not, eqb, refl, ap, sym, ◌∙◌, arith, length-append}
use Rattle.std.specs.List.{filter, list_all}
use Rattle.std.proofs.lemmas.Grind.{common_steps}
use Rattle.std.proofs.lemmas.List.{length-take, take-append-drop, take_all}
use Rattle.std.proofs.lemmas.List.Elements.{filter-append}
use Rattle.std.proofs.lemmas.List.Filters.{length-filter_both}
use Rattle.view_config.specs.Without.{is_among, all_suspected, unsuspected, replaced}
use Rattle.std.proofs.Math.Seq.{take-append_seam, take-append-add}

module _ {X : Type 0} (p : X → Bool) where
  -- where all pass the others are none
  none_left : (xs : List X) → list_all p xs ≡ true → length (filter (λ x. not (p x)) xs) ≡ 0
  none_left [] all = refl
  none_left (x ∷ xs) all = grind (arith, common_steps, none_left xs)

  -- where not all pass there is another
  some_left : (xs : List X) → list_all p xs ≡ false → 1 ≤ length (filter (λ x. not (p x)) xs)
  some_left [] all = let wrong : true ≡ false = all in cc
  some_left (x ∷ xs) all = grind (arith, common_steps, some_left xs)

  pub fewer : (xs : List X) → length (filter p xs) ≤ length xs
  fewer xs = omega (arith, length-filter_both p (λ x. not (p x)) (λ x. refl) xs)

  -- there are no more that pass than there are
  pub all_kept : (xs : List X) → take (length xs) (filter p xs) ≡ filter p xs
  all_kept xs = take_all (length xs) (filter p xs) (fewer xs)

  -- once so many pass, they are the first so many
  pub first_kept : (xs : List X) (i n : ℕ) → length (filter p (take i xs)) ≡ n → filter p (take i xs) ≡ take n (filter p xs)
  first_kept xs i n many =
      let parts : filter p (take i xs) ++ filter p (drop i xs) ≡ filter p xs = sym (filter-append p (take i xs) (drop i xs)) ∙ ap (filter p) (take-append-drop i xs) in
      sym (ap (take n) (sym parts) ∙ ap (λ k. take k (filter p (take i xs) ++ filter p (drop i xs))) (sym many) ∙ take-append_seam (filter p (take i xs)) (filter p (drop i xs)))

-- a list that is no longer than n, filled up to n from another one
pub filled : {X : Type 0} (xs ys : List X) (n : ℕ) → length xs ≤ n → xs ++ take (n - length xs) ys ≡ take n (xs ++ ys)
filled xs ys n fits = let e : length xs + (n - length xs) ≡ n = omega arith in sym (ap (λ k. take k (xs ++ ys)) (sym e) ∙ take-append-add xs ys (n - length xs))

module _ (suspects spares nodes : List ℕ) where
  both : length (replaced suspects spares nodes) ≡ min (length nodes) (length (unsuspected suspects nodes) + length (unsuspected suspects spares))
  both = length-take (length nodes) (unsuspected suspects nodes ++ unsuspected suspects spares) ∙ ap (min (length nodes)) (length-append (unsuspected suspects nodes) (unsuspected suspects spares))

  -- a replica is left where one isn't suspected
  pub leaves_some : 1 ≤ length nodes → all_suspected suspects nodes ≡ false → false ≡ eqb (length (replaced suspects spares nodes)) 0
  leaves_some many other = grind (arith, both, some_left (is_among suspects) nodes other)

  -- where all are suspected it depends on the spares
  pub leaves_spares : 1 ≤ length nodes → all_suspected suspects nodes ≡ true → all_suspected suspects spares ≡ eqb (length (replaced suspects spares nodes)) 0
  leaves_spares many all = by_case (all_suspected suspects spares) refl
    where
      by_case : (b : Bool) → all_suspected suspects spares ≡ b → b ≡ eqb (length (replaced suspects spares nodes)) 0
      by_case true e = grind (arith, both, none_left (is_among suspects) nodes all, none_left (is_among suspects) spares e)
      by_case false e = grind (arith, both, none_left (is_among suspects) nodes all, some_left (is_among suspects) spares e)
