-- What a store does to the front of its order: the identities below its stable number stay.
use Rattle.std.proofs.Common.{◌≡◌, ℕ, ◌≤◌, List, [], ◌∷◌, ◌++◌, length, map, max, take, drop, Option, Some, None, refl, sym, ap, ◌∙◌, arith, length-append, length-set}
use Rattle.std.specs.Prelude.{slice_get}
use Rattle.std.proofs.lemmas.List.{length-map, length-take-le, take-append-drop}
use Rattle.list_facts.proofs.Cases.{either}
use Rattle.rec_id.specs.Identity.{Identity}
use Rattle.rec_id.specs.declared.item.Body.{Body}
use Rattle.rec_id.specs.declared.item.Body.TheVariants.{Kept}
use Rattle.rec_id.specs.declared.item.Cell.{Cell}
use Rattle.rec_id.specs.declared.item.Item.{Item}
use Rattle.view_config.specs.declared.edition.Mode.{Mode}
use Rattle.view_config.specs.declared.edition.Mode.TheVariants.{M, St}
use Rattle.lazy_rules.specs.Store.{Store, bytes_in, cell_for, closed_cell, cut, extend, extend_cells, fill, give_back, given_up_cell, has, hold, hold_again, hold_cells, open_to_noop, raise_stable, recut, recut_cells, trim, with_body, with_cell}
use Rattle.lazy_rules.specs.WorldRules.{ids_in}
use Rattle.diary_laws.proofs.shards.Orders.{take_front, take_less, ids_with_body, ids_mapped, ids_append, ids_take}

-- the order reaches the stable number, and begins with these identities, as many as this, which are stable
pub record Firm (count : ℕ) (front : List Identity) (store : Store) : Type 0 where
  pub long : store.stable ≤ length store.order
  pub least : count ≤ store.stable
  pub is : take count (ids_in store.order) ≡ front

module _ (count : ℕ) (front : List Identity) where
  abbrev F : Store → Type 0
  F = Firm count front

  -- another order that is no shorter than what is stable, with the same identities so far
  pub firm_order : (store : Store) → F store → (next : Store) → next.stable ≡ store.stable → store.stable ≤ length next.order → take count (ids_in next.order) ≡ take count (ids_in store.order) → F next
  firm_order store h next stable long same = let least = h.least in record { long = omega arith; least = omega arith; is = same ∙ h.is }

  firm_cell : (store : Store) (cell : Cell) → F store → F (with_cell store cell)
  firm_cell store cell h =
      let long = h.long in
      let least = h.least in
      let more = length-append store.order (cell ∷ []) in
      let ids = length-map store.order (λ (c : Cell). c.id) in
      firm_order store h (with_cell store cell) refl (omega arith) (ap (take count) (ids_append store.order (cell ∷ [])) ∙ take_front count (ids_in store.order) (cell.id ∷ []) (omega arith))

  pub firm_cells : (cells : List Cell) (store : Store) → F store → F (extend_cells store cells)
  firm_cells [] store h = h
  firm_cells (cell ∷ cells) store h = firm_cells cells (with_cell store cell) (firm_cell store cell h)

  pub firm_items : (items : List Item) (store : Store) → F store → F (extend store items)
  firm_items [] store h = h
  firm_items (item ∷ items) store h = firm_items items (with_cell store (cell_for store item)) (firm_cell store (cell_for store item) h)

  -- held data is beside the order
  pub firm_hold : (store : Store) (id : Identity) (bytes : List ℕ) → F store → F (hold store id bytes)
  firm_hold store id bytes h =
      either F (has store id) store (record store { held = store.held ++ (id, bytes) ∷ [] })
      (λ k. h) (λ k. record { long = h.long; least = h.least; is = h.is })

  firm_again : (store : Store) (id : Identity) (o : Option (List ℕ)) → F store → F (hold_again store id o)
  firm_again store id None h = h
  firm_again store id (Some bytes) h = firm_hold store id bytes h

  firm_hold_cells : (cells : List Cell) (store : Store) → F store → F (hold_cells store cells)
  firm_hold_cells [] store h = h
  firm_hold_cells (cell ∷ cells) store h = firm_hold_cells cells (hold_again store cell.id (bytes_in cell.body)) (firm_again store cell.id (bytes_in cell.body) h)

  firm_back : (mode : Mode) (store : Store) (cells : List Cell) → F store → F (give_back mode store cells)
  firm_back M store cells h = h
  firm_back St store cells h = firm_hold_cells cells store h

  -- the order is cut off no further down than what is stable
  pub firm_cut : (store : Store) (from : ℕ) → store.stable ≤ from → from ≤ length store.order → F store → F (cut store from)
  firm_cut store from above within h =
      let least = h.least in
      let long = length-take-le from store.order within in
      firm_back store.mode (record store { order = take from store.order }) (drop from store.order)
      (firm_order store h (record store { order = take from store.order }) refl (omega arith)
      (ap (take count) (ids_take from store.order) ∙ take_less count from (ids_in store.order) (omega arith)))

  pub firm_recut : (store : Store) (from : ℕ) (items : List Item) → store.stable ≤ from → from ≤ length store.order → F store → F (recut store from items)
  firm_recut store from items above within h = firm_items items (cut store from) (firm_cut store from above within h)

  pub firm_recut_cells : (store : Store) (from : ℕ) (cells : List Cell) → store.stable ≤ from → from ≤ length store.order → F store → F (recut_cells store from cells)
  firm_recut_cells store from cells above within h = firm_cells cells (cut store from) (firm_cut store from above within h)

  -- bodies change in their places
  body_ids : (order : List Cell) (place : ℕ) (body : Body) (o : Option Cell) → slice_get order place ≡ o → ids_in (with_body order place body o) ≡ ids_in order
  body_ids order place body None is = refl
  body_ids order place body (Some cell) is = ids_with_body order place cell body is

  body_long : (order : List Cell) (place : ℕ) (body : Body) (o : Option Cell) → length (with_body order place body o) ≡ length order
  body_long order place body None = refl
  body_long order place body (Some cell) = length-set order place (record cell { body = body })

  pub firm_fill : (store : Store) (place : ℕ) (bytes : List ℕ) → F store → F (fill store place bytes)
  firm_fill store place bytes h =
      let long = h.long in
      let same = body_long store.order place (Kept bytes) (slice_get store.order place) in
      firm_order store h (fill store place bytes) refl (omega arith) (ap (take count) (body_ids store.order place (Kept bytes) (slice_get store.order place) refl))

  pub firm_noops : (store : Store) → F store → F (open_to_noop store)
  firm_noops store h =
      let long = h.long in
      let same = length-map store.order closed_cell in
      firm_order store h (open_to_noop store) refl (omega arith) (ap (take count) (ids_mapped closed_cell (λ c. refl) store.order))

  pub firm_trim : (store : Store) (to : ℕ) → F store → F (trim store to)
  firm_trim store to h =
      let floor = max store.floor to in
      let long = h.long in
      let ids : ids_in (map given_up_cell (take floor store.order) ++ drop floor store.order) ≡ ids_in store.order =
      ids_append (map given_up_cell (take floor store.order)) (drop floor store.order)
      ∙ ap (λ (xs : List Identity). xs ++ ids_in (drop floor store.order)) (ids_mapped given_up_cell (λ c. refl) (take floor store.order))
      ∙ sym (ids_append (take floor store.order) (drop floor store.order))
      ∙ ap ids_in (take-append-drop floor store.order) in
      let one = length-map (map given_up_cell (take floor store.order) ++ drop floor store.order) (λ (c : Cell). c.id) in
      let two = length-map store.order (λ (c : Cell). c.id) in
      let same = ap length ids in
      firm_order store h (trim store to) refl (omega arith) (ap (take count) ids)

  -- the stable number rises within the order
  pub firm_raise : (store : Store) (to : ℕ) → store.stable ≤ to → to ≤ length store.order → F store → F (raise_stable store to)
  firm_raise store to above within h = let least = h.least in record { long = within; least = omega arith; is = h.is }
