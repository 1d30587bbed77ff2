-- The identities that stand first in an order.
use Rattle.std.proofs.Common.{◌≡◌, ℕ, zero, suc, ◌+◌, ◌-◌, ◌≤◌, List, [], ◌∷◌, ◌++◌, length, map, take, drop, Some, refl, sym, ap, ◌∙◌, arith}
use Rattle.std.specs.Prelude.{slice_get, slice_range, slice_set}
use Rattle.std.proofs.lemmas.List.{drop-take}
use Rattle.rec_id.specs.Identity.{Identity}
use Rattle.rec_id.specs.declared.item.Body.{Body}
use Rattle.rec_id.specs.declared.item.Cell.{Cell}
use Rattle.lazy_rules.specs.WorldRules.{ids_in}

module _ {A : Type 0} where
  pub take_front : (n : ℕ) (xs ys : List A) → n ≤ length xs → take n (xs ++ ys) ≡ take n xs
  take_front zero xs ys h = refl
  take_front (suc n) [] ys h = absurd (omega (arith, h))
  take_front (suc n) (x ∷ xs) ys h = ap (λ (zs : List A). x ∷ zs) (take_front n xs ys (omega (arith, h)))

  pub take_less : (n m : ℕ) (xs : List A) → n ≤ m → take n (take m xs) ≡ take n xs
  take_less zero m xs h = refl
  take_less (suc n) zero xs h = absurd (omega (arith, h))
  take_less (suc n) (suc m) [] h = refl
  take_less (suc n) (suc m) (x ∷ xs) h = ap (λ (zs : List A). x ∷ zs) (take_less n m xs (omega (arith, h)))

-- another body at a place leaves the identities
pub ids_with_body : (order : List Cell) (place : ℕ) (cell : Cell) (body : Body) → slice_get order place ≡ Some cell → ids_in (slice_set order place (record cell { body = body })) ≡ ids_in order
ids_with_body [] place cell body h = refl
ids_with_body (x ∷ xs) zero cell body h = let same : x ≡ cell = cc in ap (λ (c : Cell). c.id ∷ ids_in xs) (sym same)
ids_with_body (x ∷ xs) (suc place) cell body h = ap (λ (ids : List Identity). x.id ∷ ids) (ids_with_body xs place cell body h)

-- a change of bodies leaves the identities
pub ids_mapped : (f : Cell → Cell) → ((c : Cell) → (f c).id ≡ c.id) → (order : List Cell) → ids_in (map f order) ≡ ids_in order
ids_mapped f same [] = refl
ids_mapped f same (x ∷ xs) = ap (λ (id : Identity). id ∷ ids_in (map f xs)) (same x) ∙ ap (λ (ids : List Identity). x.id ∷ ids) (ids_mapped f same xs)

pub ids_append : (xs ys : List Cell) → ids_in (xs ++ ys) ≡ ids_in xs ++ ids_in ys
ids_append [] ys = refl
ids_append (x ∷ xs) ys = ap (λ (ids : List Identity). x.id ∷ ids) (ids_append xs ys)

pub ids_take : (n : ℕ) (xs : List Cell) → ids_in (take n xs) ≡ take n (ids_in xs)
ids_take zero xs = refl
ids_take (suc n) [] = refl
ids_take (suc n) (x ∷ xs) = ap (λ (ids : List Identity). x.id ∷ ids) (ids_take n xs)

pub ids_drop : (n : ℕ) (xs : List Cell) → ids_in (drop n xs) ≡ drop n (ids_in xs)
ids_drop zero xs = refl
ids_drop (suc n) [] = refl
ids_drop (suc n) (x ∷ xs) = ids_drop n xs

-- a part below a place depends on what stands below it
part_of : (from count : ℕ) (xs : List Cell) → ids_in (slice_range xs from (from + count)) ≡ drop from (take (from + count) (ids_in xs))
part_of from count xs =
    let long : from + count - from ≡ count = omega arith in
    ids_take (from + count - from) (drop from xs)
    ∙ ap (λ (n : ℕ). take n (ids_in (drop from xs))) long
    ∙ ap (take count) (ids_drop from xs)
    ∙ sym (drop-take from count (ids_in xs))

pub same_part : (stable from count : ℕ) (xs ys : List Cell) → from + count ≤ stable → take stable (ids_in ys) ≡ take stable (ids_in xs) → ids_in (slice_range ys from (from + count)) ≡ ids_in (slice_range xs from (from + count))
same_part stable from count xs ys within same =
    part_of from count ys
    ∙ ap (drop from) (sym (take_less (from + count) stable (ids_in ys) within) ∙ ap (take (from + count)) same ∙ take_less (from + count) stable (ids_in xs) within)
    ∙ sym (part_of from count xs)
