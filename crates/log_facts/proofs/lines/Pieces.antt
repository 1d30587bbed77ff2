-- A line by its two pieces: what is bound, and the items that follow.
use Rattle.std.proofs.Common.{◌≡◌, ℕ, zero, suc, ◌+◌, List, [], ◌∷◌, map, length, Option, Some, None, slice_get, refl, ap, ◌∙◌, arith}
use Rattle.std.specs.Prelude.{unwrap_or}
use Rattle.rec_id.specs.Identity.{Identity, shard_of}
use Rattle.rec_id.specs.Line.{named_id}
use Rattle.rec_id.specs.declared.entry.Entry.TheVariants.{Kept as KeptEntry}
use Rattle.rec_id.specs.declared.item.Body.{Body}
use Rattle.rec_id.specs.declared.item.Body.TheVariants.{Elsewhere, Kept, Noop, Open, Gone}
use Rattle.rec_id.specs.declared.item.Cell.{Cell}
use Rattle.rec_id.specs.declared.item.Item.{Item}
use Rattle.view_config.specs.declared.edition.Mode.{Mode}
use Rattle.view_config.specs.declared.edition.Mode.TheVariants.{M, St}
use Rattle.view_config.specs.Shape.{Dimensions}
use Rattle.lazy_rules.specs.Ids.{ids_of}
use Rattle.lazy_rules.specs.Lines.{bound_entry, bound_entries, data_of, entry_of, entry_with, item_entry}
use Rattle.lazy_rules.specs.Store.{Store}
use Rattle.lazy_rules.specs.WorldRules.{ids_in}

-- the identity of an entry is that of the place or the item that it is made for
pub named_entry : (id : Identity) (body : Body) → named_id (entry_of id body) ≡ id
named_entry id Elsewhere = refl
named_entry id (Kept bytes) = refl
named_entry id Noop = refl
named_entry id Open = refl
named_entry id Gone = refl

named_with : (id : Identity) (bytes : Option (List ℕ)) → named_id (entry_with id bytes) ≡ id
named_with id None = refl
named_with id (Some bytes) = refl

-- the entry of an item in each mode
pub item_whole : (shape : Dimensions) (stores : List (Option Store)) (item : Item) → shape.mode ≡ M → item_entry shape stores item ≡ KeptEntry item.id (unwrap_or item.bytes [])
item_whole shape stores item is = ap (λ (mode : Mode). item_entry (record shape { mode = mode }) stores item) is

pub item_apart : (shape : Dimensions) (stores : List (Option Store)) (item : Item) → shape.mode ≡ St → item_entry shape stores item ≡ entry_with item.id (data_of stores (shard_of item.id shape.shards) item.id)
item_apart shape stores item is = ap (λ (mode : Mode). item_entry (record shape { mode = mode }) stores item) is

named_item : (shape : Dimensions) (stores : List (Option Store)) (item : Item) → named_id (item_entry shape stores item) ≡ item.id
named_item shape stores item = by shape.mode refl
  where
    by : (mode : Mode) → shape.mode ≡ mode → named_id (item_entry shape stores item) ≡ item.id
    by M is = ap named_id (item_whole shape stores item is)
    by St is = ap named_id (item_apart shape stores item is) ∙ named_with item.id (data_of stores (shard_of item.id shape.shards) item.id)

module _ (shape : Dimensions) (stores : List (Option Store)) where
  pub named_bound : (place : ℕ) (cells : List Cell) → map named_id (bound_entries shape stores place cells) ≡ ids_in cells
  named_bound place [] = refl
  named_bound place (cell ∷ cells) =
      ap (λ (id : Identity). id ∷ map named_id (bound_entries shape stores (place + 1) cells)) (named_entry cell.id _)
      ∙ ap (λ (ids : List Identity). cell.id ∷ ids) (named_bound (place + 1) cells)

  pub named_items : (items : List Item) → map named_id (map (item_entry shape stores) items) ≡ ids_of items
  named_items [] = refl
  named_items (item ∷ items) =
      ap (λ (id : Identity). id ∷ map named_id (map (item_entry shape stores) items)) (named_item shape stores item)
      ∙ ap (λ (ids : List Identity). item.id ∷ ids) (named_items items)

  -- the entry of a bound place
  pub bound_at : (place : ℕ) (cells : List Cell) (k : ℕ) (cell : Cell) → slice_get cells k ≡ Some cell → slice_get (bound_entries shape stores place cells) k ≡ Some (bound_entry shape stores (place + k) cell.id)
  bound_at place [] k cell e = cc
  bound_at place (first ∷ cells) zero cell e =
      let is : first ≡ cell = cc in
      let here : place ≡ place + 0 = omega arith in
      ap (λ (c : Cell). Some (bound_entry shape stores place c.id)) is ∙ ap (λ (n : ℕ). Some (bound_entry shape stores n cell.id)) here
  bound_at place (first ∷ cells) (suc k) cell e =
      let there : place + 1 + k ≡ place + suc k = omega arith in
      bound_at (place + 1) cells k cell e ∙ ap (λ (n : ℕ). Some (bound_entry shape stores n cell.id)) there

  pub length_bound : (place : ℕ) (cells : List Cell) → length (bound_entries shape stores place cells) ≡ length cells
  length_bound place [] = refl
  length_bound place (cell ∷ cells) = ap suc (length_bound (place + 1) cells)
