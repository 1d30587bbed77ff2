-- Stores that are cut off and go on.
use Rattle.std.proofs.Common.{◌≡◌, ℕ, zero, suc, not, cond, ◌||◌, ltb, ◌+◌, ◌-◌, ◌<◌, ◌≤◌, List, [], ◌∷◌, ◌++◌, Bool, true, false, Option, Some, None, inl, inr, length, get_or, map, take, drop, sym, ap, ◌∙◌, refl, arith}
use Rattle.std.specs.List.{slice_get, between, position, position_or_len, list_any, range_with_len}
use Rattle.std.specs.Prelude.{◌≢◌, min, option_map}
use Rattle.std.proofs.Math.ListN.{set, length-set}
use Rattle.std.proofs.lemmas.Bool.{cases_lt, lt-ltb, le-ltb, cond-true, cond-false}
use Rattle.std.proofs.lemmas.Slice.{between_to_end}
use Rattle.std.proofs.lemmas.Option.{slice_get_within, slice_get-get_or, get_or_from_slice_get, slice_get-map, unwrap_or-slice_get}
use Rattle.std.proofs.lemmas.List.FromFn.{get_or-map-range_with_len}
use Rattle.view_config.specs.Shape.{Dimensions}
use Rattle.view_config.specs.Config.{initial_config, first_copies}
use Rattle.lazy_rules.specs.Roles.{replicas_at}
use Rattle.std.proofs.lemmas.List.{length-take-le, length-append, drop_at, drop_all, take_all, get_or-set_same, get_or-set_other, get_or_append_left, get_or-append-add, get_or-take}
use Rattle.rec_id.specs.declared.item.Body.{Body}
use Rattle.rec_id.specs.declared.item.Body.TheVariants.{Elsewhere, Kept, Noop, Open, Gone}
use Rattle.rec_id.specs.Identity.{Identity}
use Rattle.rec_id.specs.declared.item.Cell.{Cell}
use Rattle.rec_id.specs.declared.item.Item.{Item}
use Rattle.lazy_rules.specs.Store.{Store, cut, extend, give_back, recut, recut_cells, fill, with_body, closed, closed_cell, is_open, first_open, open_to_noop}
use Rattle.list_facts.proofs.Positions.{position_some, position_past}
use Rattle.shard_store.specs.Places.{open_from}
use Rattle.shard_store.proofs.CellBodies.{none_open}
use Rattle.view_config.specs.declared.edition.Mode.{Mode}
use Rattle.view_config.specs.declared.edition.Mode.TheVariants.{M, St}
use Rattle.shard_store.specs.Settling.{cells_of, drafts, settled, settled_all, held_after, held_beside_all, given_back}
use Rattle.shard_store.proofs.Extensions.{count_drafts, recut_is, recut_cells_is, grown}

-- the order after a cut, and cells behind it
pub recut_order : (store : Store) (from : ℕ) (cells : List Cell) → (recut_cells store from cells).order ≡ take from store.order ++ cells
recut_order store from cells = ap (λ (s : Store). s.order) (recut_cells_is store from cells)

-- the cells that items become are those that come of the items
pub recut_same : (store : Store) (from : ℕ) (items : List Item) → from ≤ length store.order → recut_cells store from (cells_of store from items) ≡ recut store from items
recut_same store from items inside =
    let front = take from store.order in
    let held = given_back store.mode front store.held (drop from store.order) in
    let rest = settled_all held (drafts store.mode store.shard store.shards from items) in
    let is : cells_of store from items ≡ rest =
    ap (λ (s : Store). drop from s.order) (recut_is store from items inside) ∙ drop_at front rest from (length-take-le from store.order inside) in
    recut_cells_is store from (cells_of store from items)
    ∙ ap (λ (l : List Cell). grown store (front ++ l) (held_beside_all held l)) is
    ∙ sym (recut_is store from items inside)

length_settled : (held : List (Identity × List ℕ)) (cells : List Cell) → length (settled_all held cells) ≡ length cells
length_settled held [] = refl
length_settled held (cell ∷ cells) = omega (arith, length_settled (held_after held (settled held cell)) cells)

pub cells_count : (store : Store) (from : ℕ) (items : List Item) → from ≤ length store.order → length (cells_of store from items) ≡ length items
cells_count store from items inside =
    let front = take from store.order in
    let held = given_back store.mode front store.held (drop from store.order) in
    let all = drafts store.mode store.shard store.shards from items in
    ap (λ (s : Store). length (drop from s.order)) (recut_is store from items inside)
    ∙ ap (λ (l : List Cell). length l) (drop_at front (settled_all held all) from (length-take-le from store.order inside))
    ∙ length_settled held all
    ∙ count_drafts store.mode store.shard store.shards from items all refl

nothing_back : (mode : Mode) (store : Store) → give_back mode store [] ≡ store
nothing_back M store = refl
nothing_back St store = refl

-- nothing is cut off at the end
uncut : (store : Store) → cut store (length store.order) ≡ store
uncut store =
    ap (λ (l : List Cell). give_back store.mode (record store { order = l }) (drop (length store.order) store.order)) (take_all (length store.order) store.order (omega arith))
    ∙ ap (λ (l : List Cell). give_back store.mode store l) (drop_all (length store.order) store.order (omega arith))
    ∙ nothing_back store.mode store

pub extend_same : (store : Store) (items : List Item) → recut_cells store (length store.order) (cells_of store (length store.order) items) ≡ extend store items
extend_same store items =
    recut_same store (length store.order) items (omega arith) ∙ ap (λ (s : Store). extend s items) (uncut store)

-- ---- members of a list that is changed
get_set_same : {X : Type 0} (xs : List X) (i : ℕ) (x y : X) → slice_get xs i ≡ Some x → slice_get (set xs i y) i ≡ Some y
get_set_same xs i x y here =
    let inside = slice_get_within xs i x here in
    slice_get-get_or (set xs i y) i y (omega (arith, length-set xs i y, inside)) ∙ ap Some (get_or-set_same xs i y y inside)

get_set_other : {X : Type 0} (xs : List X) (i j : ℕ) (x y : X) → j ≢ i → slice_get xs j ≡ Some x → slice_get (set xs i y) j ≡ Some x
get_set_other xs i j x y apart here =
    let inside = slice_get_within xs j x here in
    slice_get-get_or (set xs i y) j x (omega (arith, length-set xs i y, inside)) ∙ ap Some (get_or-set_other xs i j y x apart ∙ get_or_from_slice_get xs j x x here)

-- ---- the cells of a store that is changed
pub filled_here : (store : Store) (place : ℕ) (bytes : List ℕ) (cell : Cell) → slice_get store.order place ≡ Some cell
    → slice_get (fill store place bytes).order place ≡ Some (record { id = cell.id; body = Kept bytes })
filled_here store place bytes cell here =
    ap (λ (o : Option Cell). slice_get (with_body store.order place (Kept bytes) o) place) here
    ∙ get_set_same store.order place cell (record { id = cell.id; body = Kept bytes }) here

pub filled_other : (store : Store) (filled place : ℕ) (bytes : List ℕ) (cell : Cell) → place ≢ filled → slice_get store.order place ≡ Some cell
    → slice_get (fill store filled bytes).order place ≡ Some cell
filled_other store filled place bytes cell apart here = by_cell (slice_get store.order filled)
  where
    by_cell : (o : Option Cell) → slice_get (with_body store.order filled (Kept bytes) o) place ≡ Some cell
    by_cell None = here
    by_cell (Some other) = get_set_other store.order filled place cell (record { id = other.id; body = Kept bytes }) apart here

pub closed_at : (cells : List Cell) (place : ℕ) (cell : Cell) → slice_get cells place ≡ Some cell → slice_get (map closed_cell cells) place ≡ Some (closed_cell cell)
closed_at cells place cell here = slice_get-map closed_cell cells place ∙ ap (λ (o : Option Cell). option_map closed_cell o) here

pub cell_before : (cells others : List Cell) (from place : ℕ) (cell : Cell) → place < from → from ≤ length cells → slice_get cells place ≡ Some cell → slice_get (take from cells ++ others) place ≡ Some cell
cell_before cells others from place cell before inside here =
    let count = length-take-le from cells inside in
    slice_get-get_or (take from cells ++ others) place cell (omega (arith, length-append (take from cells) others, count, before))
    ∙ ap Some (get_or_append_left (take from cells) others cell place (omega (arith, count, before)) ∙ get_or-take from cells place cell before ∙ get_or_from_slice_get cells place cell cell here)

pub cell_behind : (cells others : List Cell) (from place : ℕ) (cell : Cell) → from ≤ place → from ≤ length cells → slice_get others (place - from) ≡ Some cell → slice_get (take from cells ++ others) place ≡ Some cell
cell_behind cells others from place cell behind inside here =
    let count = length-take-le from cells inside in
    let within = slice_get_within others (place - from) cell here in
    let there : length (take from cells) + (place - from) ≡ place = omega (arith, count, behind) in
    slice_get-get_or (take from cells ++ others) place cell (omega (arith, length-append (take from cells) others, count, within, behind))
    ∙ ap (λ (n : ℕ). Some (get_or (take from cells ++ others) n cell)) (sym there)
    ∙ ap Some (get_or-append-add (take from cells) others (place - from) cell ∙ get_or_from_slice_get others (place - from) cell cell here)

-- ---- a range that goes past the end
pub range_clipped : (cells : List Cell) (from to : ℕ) → between from (min to (length cells)) cells ≡ between from to cells
range_clipped cells from to = elim (cases_lt to (length cells)) [
  | inl inside ↦ ap (λ (n : ℕ). between from n cells) (omega arith)
  | inr past ↦
      let whole : min to (length cells) ≡ length cells = omega arith in
      ap (λ (n : ℕ). between from n cells) whole ∙ between_to_end cells from (length cells) (omega arith) ∙ sym (between_to_end cells from to past)
]

-- ---- the first open place
closed_shut : (body : Body) → is_open (closed body) ≡ false
closed_shut Elsewhere = refl
closed_shut (Kept bytes) = refl
closed_shut Noop = refl
closed_shut Open = refl
closed_shut Gone = refl

all_shut : (n : ℕ) (cells : List Cell) → open_from n (map closed_cell cells) ≡ []
all_shut n [] = refl
all_shut n (cell ∷ cells) = rw (closed_shut cell.body) (all_shut (n + 1) cells)

pub none_left : (store : Store) → None ≡ first_open (open_to_noop store)
none_left store = sym (none_open 0 (map closed_cell store.order) (all_shut 0 store.order))

module _ {X : Type 0} (p : X → Bool) where
  front_first : (from : ℕ) (xs ys : List X) → position_or_len p xs < from → position_or_len p xs < length xs → position_or_len p (take from xs ++ ys) ≡ position_or_len p xs
  front_first zero xs ys before inside = absurd (omega arith)
  front_first (suc from) [] ys before inside = absurd (omega arith)
  front_first (suc from) (x ∷ xs) ys before inside = by_test (p x) (front_first from xs ys) before inside
    where
      by_test : (b : Bool) → (position_or_len p xs < from → position_or_len p xs < length xs → position_or_len p (take from xs ++ ys) ≡ position_or_len p xs)
          → cond (not b) (1 + position_or_len p xs) 0 < suc from → cond (not b) (1 + position_or_len p xs) 0 < suc (length xs)
          → cond (not b) (1 + position_or_len p (take from xs ++ ys)) 0 ≡ cond (not b) (1 + position_or_len p xs) 0
      by_test true rest before inside = refl
      by_test false rest before inside = ap (λ (n : ℕ). 1 + n) (rest (omega arith) (omega arith))

  behind_first : (from : ℕ) (xs ys : List X) → from ≤ length xs → from ≤ position_or_len p xs → position_or_len p (take from xs ++ ys) ≡ from + position_or_len p ys
  behind_first zero xs ys inside behind = omega arith
  behind_first (suc from) [] ys inside behind = absurd (omega arith)
  behind_first (suc from) (x ∷ xs) ys inside behind = by_test (p x) (behind_first from xs ys) behind
    where
      by_test : (b : Bool) → (from ≤ length xs → from ≤ position_or_len p xs → position_or_len p (take from xs ++ ys) ≡ from + position_or_len p ys)
          → suc from ≤ cond (not b) (1 + position_or_len p xs) 0
          → cond (not b) (1 + position_or_len p (take from xs ++ ys)) 0 ≡ suc from + position_or_len p ys
      by_test true rest behind = absurd (omega arith)
      by_test false rest behind = omega (arith, rest (omega arith) (omega arith))

  some_first : (xs : List X) (n : ℕ) → position_or_len p xs ≡ n → n < length xs → Some n ≡ position p xs
  some_first xs n is inside =
      ap Some (sym is) ∙ sym (cond-true (ltb (position_or_len p xs) (length xs)) (Some (position_or_len p xs)) None (lt-ltb _ _ (omega (arith, is, inside))))

  none_first : (xs : List X) → length xs ≤ position_or_len p xs → None ≡ position p xs
  none_first xs past = sym (cond-false (ltb (position_or_len p xs) (length xs)) (Some (position_or_len p xs)) None (le-ltb _ _ past))

  within_first : (from : ℕ) (xs : List X) → list_any p (take from xs) ≡ true → (position_or_len p xs < from) × (position_or_len p xs < length xs)
  within_first zero xs some = absurd cc
  within_first (suc from) [] some = absurd cc
  within_first (suc from) (x ∷ xs) some = by_test (p x) (within_first from xs) some
    where
      by_test : (b : Bool) → (list_any p (take from xs) ≡ true → (position_or_len p xs < from) × (position_or_len p xs < length xs))
          → (b || list_any p (take from xs)) ≡ true → (cond (not b) (1 + position_or_len p xs) 0 < suc from) × (cond (not b) (1 + position_or_len p xs) 0 < suc (length xs))
      by_test true rest some = (omega arith, omega arith)
      by_test false rest some = (omega (arith, (rest some).0), omega (arith, (rest some).1))

  pub past_first : (from : ℕ) (xs : List X) → list_any p (take from xs) ≡ false → from ≤ length xs → from ≤ position_or_len p xs
  past_first zero xs none inside = omega arith
  past_first (suc from) [] none inside = absurd (omega arith)
  past_first (suc from) (x ∷ xs) none inside = by_test (p x) (past_first from xs) none
    where
      by_test : (b : Bool) → (list_any p (take from xs) ≡ false → from ≤ length xs → from ≤ position_or_len p xs)
          → (b || list_any p (take from xs)) ≡ false → suc from ≤ cond (not b) (1 + position_or_len p xs) 0
      by_test true rest none = absurd cc
      by_test false rest none = omega (arith, rest none (omega arith))

  -- the first one stands before the cut
  pub first_before : (from : ℕ) (xs ys : List X) → list_any p (take from xs) ≡ true → from ≤ length xs → position p xs ≡ position p (take from xs ++ ys)
  first_before from xs ys some inside =
      let at = within_first from xs some in
      sym (some_first xs (position_or_len p xs) refl at.1)
      ∙ some_first (take from xs ++ ys) (position_or_len p xs) (front_first from xs ys at.0 at.1)
      (omega (arith, length-append (take from xs) ys, length-take-le from xs inside, at.0))

  -- none stands before the cut
  pub first_behind : (from : ℕ) (xs ys : List X) (place : ℕ) → from ≤ position_or_len p xs → from ≤ length xs → Some place ≡ position p ys → Some (from + place) ≡ position p (take from xs ++ ys)
  first_behind from xs ys place behind inside found =
      let at = position_some p ys place found in
      some_first (take from xs ++ ys) (from + place)
      (behind_first from xs ys inside behind ∙ ap (λ (n : ℕ). from + n) (sym at.1))
      (omega (arith, length-append (take from xs) ys, length-take-le from xs inside, at.0, at.1))

  pub none_behind : (from : ℕ) (xs ys : List X) → from ≤ position_or_len p xs → from ≤ length xs → None ≡ position p ys → None ≡ position p (take from xs ++ ys)
  none_behind from xs ys behind inside missing =
      none_first (take from xs ++ ys)
      (omega (arith, behind_first from xs ys inside behind, length-append (take from xs) ys, length-take-le from xs inside, position_past p ys missing))

-- the replicas of a shard at first
pub initial_replicas : (shape : Dimensions) (shard : ℕ) → shard < shape.shards → replicas_at (initial_config shape) shard ≡ first_copies shape.copies shard
initial_replicas shape shard inside =
    unwrap_or-slice_get (map (first_copies shape.copies) (range_with_len 0 shape.shards)) shard []
    ∙ get_or-map-range_with_len (first_copies shape.copies) 0 shape.shards shard shard [] inside (omega arith)
