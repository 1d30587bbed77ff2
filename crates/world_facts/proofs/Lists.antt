-- Lists with a member put where it was, and the members of lists that are made by a rule.
use Rattle.std.proofs.Common.{◌≡◌, ℕ, zero, suc, ◌+◌, ◌*◌, ◌<◌, List, [], ◌∷◌, map, get_or, Bool, true, false, Option, Some, None, refl, sym, ap, ◌∙◌, arith}
use Rattle.std.specs.Prelude.{◌-◌, ◌==◌, ◌/◌, if◌then◌else◌, slice_get, slice_set, replicate}
use Rattle.std.specs.List.{range_with_len}
use Rattle.std.proofs.Math.Nat.{div-lt_iff_lt-mul}
use Rattle.std.proofs.lemmas.Nat.{div-mul-add}
use Rattle.std.proofs.lemmas.List.FromFn.{get_or-map-range_with_len, length-map-range_with_len}
use Rattle.std.proofs.lemmas.Option.{get_or_from_slice_get, slice_get_within}
use Rattle.list_facts.specs.Lists.{In, Each}
use Rattle.list_facts.proofs.Places.{in_at}

module _ {A : Type 0} where
  pub set_same : (xs : List A) (i : ℕ) (x : A) → slice_get xs i ≡ Some x → slice_set xs i x ≡ xs
  set_same [] i x h = refl
  set_same (z ∷ zs) zero x h = let e : z ≡ x = cc in ap (λ (y : A). y ∷ zs) (sym e)
  set_same (z ∷ zs) (suc i) x h = ap (λ (ys : List A). z ∷ ys) (set_same zs i x h)

  pub each_get_or : (P : A → Type 0) (xs : List A) → Each P xs → (d : A) → P d → (i : ℕ) → P (get_or xs i d)
  each_get_or P [] h d own i = own
  each_get_or P (z ∷ zs) h d own zero = h.0
  each_get_or P (z ∷ zs) h d own (suc i) = each_get_or P zs h.1 d own i

  pub each_same : (P : A → Type 0) (x : A) → P x → (n : ℕ) → Each P (replicate n x)
  each_same P x h zero = tt
  each_same P x h (suc n) = (h, each_same P x h n)

  -- the member at a place of a list that is made by a rule
  pub made_at : (f : ℕ → A) (n i : ℕ) (x : A) → slice_get (map f (range_with_len 0 n)) i ≡ Some x → (i < n) × (x ≡ f i)
  made_at f n i x h =
      let within = slice_get_within (map f (range_with_len 0 n)) i x h in
      let long = length-map-range_with_len f 0 n in
      let there : i < n = omega arith in
      (there, sym (get_or_from_slice_get (map f (range_with_len 0 n)) i x x h) ∙ get_or-map-range_with_len f 0 n i i x there (omega arith))

  -- message k of those that were sent, from 1 on
  pub numbered_in : (xs : List A) (k : ℕ) (x : A) → (if k == 0 then None else slice_get xs (k - 1)) ≡ Some x → In x xs
  numbered_in xs k x h = by (k == 0) h
    where
      by : (b : Bool) → (if b then None else slice_get xs (k - 1)) ≡ Some x → In x xs
      by true no_such = let wrong : None ≡ Some x = no_such in cc
      by false is = in_at xs (k - 1) x is

-- a place by its row and column
pub place_below : (rows columns i j : ℕ) → i < rows → j < columns → i * columns + j < rows * columns
place_below rows columns i j below aside =
    let some : 0 < columns = omega arith in
    let row : (i * columns + j) / columns ≡ i = div-mul-add i columns j aside in
    (div-lt_iff_lt-mul {k = columns} {x = i * columns + j} {y = rows} some).0 (omega arith)

-- a test that is passed by nothing
pub not_then : {A : Type 0} (b : Bool) (x : A) (y : Option A) → (if b then Some x else y) ≡ None → y ≡ None
not_then true x y h = cc
not_then false x y h = h
