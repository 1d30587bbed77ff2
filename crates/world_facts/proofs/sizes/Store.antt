-- The sizes of what a shard replica stores.
use Rattle.world_facts.specs.Sizes.{IsBody, IsCell, IsSentCell, IsPlaced, AreHanded, DueBytes, IsOwn, line_limit}
use Rattle.rec_id.specs.declared.item.Body.{Body}
use Rattle.rec_id.specs.declared.item.Body.TheVariants.{Elsewhere, Kept, Noop, Open, Gone}
use Rattle.lazy_msgs.specs.FrameLimits.{BytesFit, IsTwo}
use Rattle.rec_id.specs.declared.item.Cell.{Cell}
use Rattle.view_config.specs.Shape.{Dimensions}
use Rattle.list_facts.specs.Lists.{Each}
use Rattle.rec_id.specs.Identity.{Identity, same_id}
use Rattle.world_facts.specs.SizesOf.{IsHeld, StoreSized}
use Rattle.rec_id.specs.declared.item.Item.{Item}
use Rattle.view_config.specs.declared.edition.Mode.TheVariants.{M, St}
use Rattle.view_config.specs.declared.edition.Mode.{Mode}
use Rattle.lazy_rules.specs.Store.{Store, bytes_in, cell_for, closed_cell, entries_from, entry_in, extend_cells, filled_or_open, give_back, given_up, given_up_cell, held_beside, held_bytes, hold_again, hold_cells, is_open, is_own, open_to_noop, placed_entry, recut_cells, with_body, with_cell, cut, extend, fill, has, hold, recut, closed, trim}
use Rattle.list_facts.proofs.Members.{each_append, each_map, each_weaker}
use Rattle.list_facts.proofs.Places.{each_at}
use Rattle.world_facts.proofs.sizes.Flight.{each_drop}
use Rattle.world_facts.proofs.goes.Sends.{each_filter}
use Rattle.list_facts.proofs.Changes.{each_set}
use Rattle.world_facts.proofs.goes.WithoutNamed.{each_take}
use Rattle.lazy_rules.specs.Items.{is_whole}
use Rattle.std.proofs.lemmas.List.{length-drop, length-map, length-take, length-take-le}
use Rattle.std.specs.List.{list_any}
use Rattle.std.specs.Option.{option_or}
use Rattle.std.proofs.lemmas.Bool.{or_parts}
use Rattle.std.proofs.Common.{arith, drop, length, map, not, refl, subst, take, ◌≡◌, ◌+◌, ◌≤◌, ◌++◌, ◌∷◌, ◌∙◌, [], true, false, zero, suc, None, Some, ℕ, List, length-append, Option, Bool, length-set}
use Rattle.list_facts.proofs.Cases.{either}
use Rattle.std.specs.Prelude.{max, slice_get, ◌&&◌, ◌==◌, ◌%◌, if◌then◌else◌}

-- a store with so many cells
pub record Stored (shape : Dimensions) (store : Store) (cells : ℕ) : Type 0 where
  pub sized : StoreSized shape store
  pub long : length store.order ≡ cells

module _ (shape : Dimensions) where
  -- an order that is no shorter, and other held data
  pub store_grown : (store : Store) → StoreSized shape store → (order : List Cell) (held : List (Identity × List ℕ)) → Each (IsCell shape) order → Each (IsHeld shape) held → length store.order ≤ length order → length order ≤ line_limit
      → StoreSized shape (record store { order = order; held = held })
  store_grown store h order held cells beside grows long =
      let stable = h.stable in
      record { order = cells; held = beside; long = long; stable = omega arith; floor = h.floor; two = h.two }

  held_beside_kept : (body : Body) (held : List (Identity × List ℕ)) (id : Identity) → Each (IsHeld shape) held → Each (IsHeld shape) (held_beside body held id)
  held_beside_kept (Kept bytes) held id h = each_filter (IsHeld shape) (λ (one : Identity × List ℕ). not (same_id one.0 id)) held h
  held_beside_kept Elsewhere held id h = h
  held_beside_kept Noop held id h = h
  held_beside_kept Open held id h = h
  held_beside_kept Gone held id h = h

  cell_more : (store : Store) (cell : Cell) → StoreSized shape store → IsCell shape cell → length store.order + 1 ≤ line_limit → Stored shape (with_cell store cell) (length store.order + 1)
  cell_more store cell h own room =
      let long = length-append store.order (cell ∷ []) in
      record {
        sized = store_grown store h (store.order ++ cell ∷ []) (held_beside cell.body store.held cell.id) (each_append (IsCell shape) store.order (cell ∷ []) h.order (own, tt)) (held_beside_kept cell.body store.held cell.id h.held) (omega arith) (omega arith);
        long = omega arith;
      }

  pub cells_more : (cells : List Cell) (store : Store) → StoreSized shape store → Each (IsCell shape) cells → length store.order + length cells ≤ line_limit → Stored shape (extend_cells store cells) (length store.order + length cells)
  cells_more [] store h own room = record { sized = h; long = omega arith }
  cells_more (cell ∷ cells) store h own room =
      let one = cell_more store cell h own.0 (omega arith) in
      let first = one.long in
      let more = cells_more cells (with_cell store cell) one.sized own.1 (omega arith) in
      let rest = more.long in
      record { sized = more.sized; long = omega arith }

  -- the cell of an item
  found : (held : List (Identity × List ℕ)) (id : Identity) → Each (IsHeld shape) held → (bytes : List ℕ) → held_bytes held id ≡ Some bytes → BytesFit shape.edition bytes
  found [] id h bytes is = let wrong : None ≡ Some bytes = is in absurd (let no : ⊥ = cc in no)
  found (one ∷ others) id h bytes is = by (λ e. found others id h.1 bytes e) (same_id one.0 id) is
    where
      by : (held_bytes others id ≡ Some bytes → BytesFit shape.edition bytes) → (b : Bool) → (if b then Some one.1 else held_bytes others id) ≡ Some bytes → BytesFit shape.edition bytes
      by later true e = let same : one.1 ≡ bytes = cc in subst (BytesFit shape.edition) same h.0.bytes
      by later false e = later e

  chosen : (o : Option (List ℕ)) → ((bytes : List ℕ) → o ≡ Some bytes → BytesFit shape.edition bytes) → IsBody shape.edition (filled_or_open o)
  chosen None f = tt
  chosen (Some bytes) f = f bytes refl

  due_fits : (due : Bool) (o : Option (List ℕ)) → DueBytes due shape.edition o → (bytes : List ℕ) → o ≡ Some bytes → BytesFit shape.edition bytes
  due_fits true None h bytes is = absurd h
  due_fits true (Some own) h bytes is = let same : own ≡ bytes = cc in subst (BytesFit shape.edition) same h
  due_fits false None h bytes is = let wrong : None ≡ Some bytes = is in absurd (let no : ⊥ = cc in no)
  due_fits false (Some own) h bytes is = absurd h

  first_of_two : (o p : Option (List ℕ)) → ((bytes : List ℕ) → o ≡ Some bytes → BytesFit shape.edition bytes) → ((bytes : List ℕ) → p ≡ Some bytes → BytesFit shape.edition bytes) → (bytes : List ℕ) → option_or o p ≡ Some bytes → BytesFit shape.edition bytes
  first_of_two None p f g bytes is = g bytes is
  first_of_two (Some own) p f g bytes is = f bytes is

  item_cell : (store : Store) (item : Item) (due : Bool) → StoreSized shape store → IsOwn shape item.id → DueBytes due shape.edition item.bytes → IsCell shape (cell_for store item)
  item_cell store item due h own bytes = record {
    id = own;
    body = either (IsBody shape.edition) (is_own store (length store.order) item.id) (filled_or_open (option_or item.bytes (held_bytes store.held item.id))) Elsewhere
        (λ k. chosen (option_or item.bytes (held_bytes store.held item.id)) (first_of_two item.bytes (held_bytes store.held item.id) (due_fits due item.bytes bytes) (found store.held item.id h.held)))
        (λ k. tt);
  }

  pub items_more : (shard place : ℕ) (items : List Item) (store : Store) → StoreSized shape store → AreHanded shape shard place items → length store.order + length items ≤ line_limit → Stored shape (extend store items) (length store.order + length items)
  items_more shard place [] store h own room = record { sized = h; long = omega arith }
  items_more shard place (item ∷ items) store h own room =
      let one = cell_more store (cell_for store item) h (item_cell store item (is_whole shape.mode && place % shape.shards == shard) h own.0.id own.0.bytes) (omega arith) in
      let first = one.long in
      let more = items_more shard (place + 1) items (with_cell store (cell_for store item)) one.sized own.1 (omega arith) in
      let rest = more.long in
      record { sized = more.sized; long = omega arith }

  -- data is held
  pub hold_more : (store : Store) (id : Identity) (bytes : List ℕ) → StoreSized shape store → IsOwn shape id → BytesFit shape.edition bytes → Stored shape (hold store id bytes) (length store.order)
  hold_more store id bytes h own fits =
      either (λ (x : Store). Stored shape x (length store.order)) (has store id) store (record store { held = store.held ++ (id, bytes) ∷ [] })
      (λ k. record { sized = h; long = refl })
      (λ k. record {
        sized = store_grown store h store.order (store.held ++ (id, bytes) ∷ []) h.order (each_append (IsHeld shape) store.held ((id, bytes) ∷ []) h.held (record { id = own; bytes = fits }, tt)) (omega arith) h.long;
        long = refl;
      })

  hold_body : (store : Store) (id : Identity) (body : Body) → StoreSized shape store → IsOwn shape id → IsBody shape.edition body → Stored shape (hold_again store id (bytes_in body)) (length store.order)
  hold_body store id (Kept bytes) h own fits = hold_more store id bytes h own fits
  hold_body store id Elsewhere h own fits = record { sized = h; long = refl }
  hold_body store id Noop h own fits = record { sized = h; long = refl }
  hold_body store id Open h own fits = record { sized = h; long = refl }
  hold_body store id Gone h own fits = record { sized = h; long = refl }

  hold_all : (cells : List Cell) (store : Store) → StoreSized shape store → Each (IsCell shape) cells → Stored shape (hold_cells store cells) (length store.order)
  hold_all [] store h own = record { sized = h; long = refl }
  hold_all (cell ∷ cells) store h own =
      let one = hold_body store cell.id cell.body h own.0.id own.0.body in
      let more = hold_all cells (hold_again store cell.id (bytes_in cell.body)) one.sized own.1 in
      record { sized = more.sized; long = more.long ∙ one.long }

  gives_back : (mode : Mode) (store : Store) (cells : List Cell) → StoreSized shape store → Each (IsCell shape) cells → Stored shape (give_back mode store cells) (length store.order)
  gives_back M store cells h own = record { sized = h; long = refl }
  gives_back St store cells h own = hold_all cells store h own

  -- the order is cut off behind what is final
  pub cut_kept : (store : Store) (from : ℕ) → StoreSized shape store → store.stable ≤ from → from ≤ length store.order → Stored shape (cut store from) from
  cut_kept store from h least most =
      let long = length-take-le from store.order most in
      let limit = h.long in
      let shorter : StoreSized shape (record store { order = take from store.order }) = record {
        order = each_take (IsCell shape) from store.order h.order;
        held = h.held;
        long = omega arith;
        stable = omega arith;
        floor = h.floor;
        two = h.two;
      } in
      let back = gives_back store.mode (record store { order = take from store.order }) (drop from store.order) shorter (each_drop (IsCell shape) from store.order h.order) in
      record { sized = back.sized; long = back.long ∙ long }

  pub recut_kept : (store : Store) (from shard : ℕ) (items : List Item) → StoreSized shape store → store.stable ≤ from → from ≤ length store.order → AreHanded shape shard from items → from + length items ≤ line_limit → Stored shape (recut store from items) (from + length items)
  recut_kept store from shard items h least most own room =
      let first = cut_kept store from h least most in
      let long = first.long in
      let more = items_more shard from items (cut store from) first.sized own (omega arith) in
      let rest = more.long in
      record { sized = more.sized; long = omega arith }

  pub recut_cells_kept : (store : Store) (from : ℕ) (cells : List Cell) → StoreSized shape store → store.stable ≤ from → from ≤ length store.order → Each (IsCell shape) cells → from + length cells ≤ line_limit → Stored shape (recut_cells store from cells) (from + length cells)
  recut_cells_kept store from cells h least most own room =
      let first = cut_kept store from h least most in
      let long = first.long in
      let more = cells_more cells (cut store from) first.sized own (omega arith) in
      let rest = more.long in
      record { sized = more.sized; long = omega arith }

  -- an open cell is filled
  with_body_kept : (order : List Cell) (place : ℕ) (bytes : List ℕ) → Each (IsCell shape) order → BytesFit shape.edition bytes → (o : Option Cell) → slice_get order place ≡ o → Each (IsCell shape) (with_body order place (Kept bytes) o)
  with_body_kept order place bytes h fits None is = h
  with_body_kept order place bytes h fits (Some cell) is =
      each_set (IsCell shape) order place (record cell { body = Kept bytes }) h (record { id = (each_at (IsCell shape) order h place cell is).id; body = fits })

  with_body_long : (order : List Cell) (place : ℕ) (body : Body) (o : Option Cell) → length (with_body order place body o) ≡ length order
  with_body_long order place body None = refl
  with_body_long order place body (Some cell) = length-set order place (record cell { body = body })

  pub fill_kept : (store : Store) (place : ℕ) (bytes : List ℕ) → StoreSized shape store → BytesFit shape.edition bytes → Stored shape (fill store place bytes) (length store.order)
  fill_kept store place bytes h fits =
      let long = with_body_long store.order place (Kept bytes) (slice_get store.order place) in
      let limit = h.long in
      record {
        sized = store_grown store h (with_body store.order place (Kept bytes) (slice_get store.order place)) store.held (with_body_kept store.order place bytes h.order fits (slice_get store.order place) refl) h.held (omega arith) (omega arith);
        long = long;
      }

  -- open cells become no-ops
  closed_body : (body : Body) → IsBody shape.edition body → IsBody shape.edition (closed body)
  closed_body Open h = tt
  closed_body Elsewhere h = h
  closed_body (Kept bytes) h = h
  closed_body Noop h = h
  closed_body Gone h = h

  pub noops_kept : (store : Store) → StoreSized shape store → Stored shape (open_to_noop store) (length store.order)
  noops_kept store h =
      let long = length-map store.order closed_cell in
      let limit = h.long in
      record {
        sized = store_grown store h (map closed_cell store.order) store.held
            (each_map closed_cell (IsCell shape) store.order (each_weaker (IsCell shape) (λ (cell : Cell). IsCell shape (closed_cell cell)) (λ cell k. record { id = k.id; body = closed_body cell.body k.body }) store.order h.order))
            h.held (omega arith) (omega arith);
        long = long;
      }

  -- data is given up
  given_body : IsTwo shape.edition → (body : Body) → IsBody shape.edition body → IsBody shape.edition (given_up body)
  given_body two Open h = tt
  given_body two Elsewhere h = h
  given_body two (Kept bytes) h = two
  given_body two Noop h = h
  given_body two Gone h = h

  pub trim_kept : (store : Store) (to : ℕ) → StoreSized shape store → to ≤ store.stable → IsTwo shape.edition → Stored shape (trim store to) (length store.order)
  trim_kept store to h most two =
      let floor = max store.floor to in
      let old = h.floor in
      let stable = h.stable in
      let limit = h.long in
      let kept = length-drop floor store.order in
      let given = length-map (take floor store.order) given_up_cell in
      let short = length-take floor store.order in
      let long = length-append (map given_up_cell (take floor store.order)) (drop floor store.order) in
      let same : length (map given_up_cell (take floor store.order) ++ drop floor store.order) ≡ length store.order = omega arith in
      record {
        sized = record {
          order = each_append (IsCell shape) (map given_up_cell (take floor store.order)) (drop floor store.order)
              (each_map given_up_cell (IsCell shape) (take floor store.order)
              (each_weaker (IsCell shape) (λ (cell : Cell). IsCell shape (given_up_cell cell)) (λ cell k. record { id = k.id; body = given_body two cell.body k.body }) (take floor store.order) (each_take (IsCell shape) floor store.order h.order)))
              (each_drop (IsCell shape) floor store.order h.order);
          held = h.held;
          long = omega arith;
          stable = omega arith;
          floor = omega arith;
          two = λ k. two;
        };
        long = same;
      }

  -- the entries of a part
  entry_placed : (place : ℕ) (cell : Cell) (body : Body) → place ≤ line_limit → IsOwn shape cell.id → IsBody shape.edition body → Each (IsPlaced shape) (placed_entry place (entry_in cell.id body))
  entry_placed place cell (Kept bytes) most own fits = (record { place = most; entry = (own, fits) }, tt)
  entry_placed place cell Noop most own fits = (record { place = most; entry = own }, tt)
  entry_placed place cell Elsewhere most own fits = tt
  entry_placed place cell Open most own fits = tt
  entry_placed place cell Gone most own fits = tt

  entry_few : (place : ℕ) (id : Identity) (body : Body) → length (placed_entry place (entry_in id body)) ≤ 1
  entry_few place id (Kept bytes) = omega arith
  entry_few place id Noop = omega arith
  entry_few place id Elsewhere = omega arith
  entry_few place id Open = omega arith
  entry_few place id Gone = omega arith

  pub entries_placed : (place : ℕ) (cells : List Cell) → (1 ≤ length cells → place + length cells ≤ line_limit) → Each (IsCell shape) cells → Each (IsPlaced shape) (entries_from place cells)
  entries_placed place [] most h = tt
  entries_placed place (cell ∷ cells) most h =
      let end = most (omega arith) in
      each_append (IsPlaced shape) (placed_entry place (entry_in cell.id cell.body)) (entries_from (place + 1) cells)
      (entry_placed place cell cell.body (omega arith) h.0.id h.0.body) (entries_placed (place + 1) cells (λ some. omega arith) h.1)

  pub entries_few : (place : ℕ) (cells : List Cell) → length (entries_from place cells) ≤ length cells
  entries_few place [] = omega arith
  entries_few place (cell ∷ cells) =
      let one = entry_few place cell.id cell.body in
      let rest = entries_few (place + 1) cells in
      let both = length-append (placed_entry place (entry_in cell.id cell.body)) (entries_from (place + 1) cells) in
      omega arith

  -- cells without an open one
  pub closed_cells : (cells : List Cell) → Each (IsCell shape) cells → list_any (λ (cell : Cell). is_open cell.body) cells ≡ false → Each (IsSentCell shape) cells
  closed_cells [] h none = tt
  closed_cells (cell ∷ cells) h none =
      let parts = or_parts (is_open cell.body) (list_any (λ (cell : Cell). is_open cell.body) cells) none in
      (record { sized = h.0; closed = parts.0 }, closed_cells cells h.1 parts.1)

pub any_taken : {A : Type 0} (p : A → Bool) (n : ℕ) (xs : List A) → list_any p xs ≡ false → list_any p (take n xs) ≡ false
any_taken p zero xs h = refl
any_taken p (suc n) [] h = refl
any_taken p (suc n) (x ∷ xs) h = let parts = or_parts (p x) (list_any p xs) h in rw (parts.0) (any_taken p n xs parts.1)

pub any_dropped : {A : Type 0} (p : A → Bool) (n : ℕ) (xs : List A) → list_any p xs ≡ false → list_any p (drop n xs) ≡ false
any_dropped p zero xs h = h
any_dropped p (suc n) [] h = refl
any_dropped p (suc n) (x ∷ xs) h = any_dropped p n xs (or_parts (p x) (list_any p xs) h).1
