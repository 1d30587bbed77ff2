-- The entries of a line: below its bound those that the shards have, and behind it those of its items.
use Rattle.std.proofs.Common.{◌≡◌, ◌≢◌, ℕ, ◌+◌, ◌<◌, ◌≤◌, List, [], Option, Some, None, slice_get, refl, sym, ap, ◌∙◌, subst, arith}
use Rattle.std.specs.Prelude.{unwrap_or, option_and_then}
use Rattle.std.specs.Option.{option_map_or}
use Rattle.std.proofs.Math.Nat.{mod-lt}
use Rattle.list_facts.specs.Lists.{Each}
use Rattle.list_facts.proofs.Places.{each_at}
use Rattle.rec_id.specs.Identity.{Identity, shard_of}
use Rattle.rec_id.specs.declared.entry.Entry.TheVariants.{Kept as KeptEntry}
use Rattle.rec_id.specs.declared.item.Body.{Body}
use Rattle.rec_id.specs.declared.item.Body.TheVariants.{Elsewhere, Kept, Noop, Open, Gone}
use Rattle.rec_id.specs.declared.item.Cell.{Cell}
use Rattle.rec_id.specs.declared.item.Item.{Item}
use Rattle.rec_id.specs.declared.marks.Marks.{Marks}
use Rattle.view_config.specs.declared.edition.Mode.{Mode}
use Rattle.view_config.specs.declared.edition.Mode.TheVariants.{M, St}
use Rattle.view_config.specs.Shape.{Dimensions}
use Rattle.lazy_rules.specs.ClientRules.{carried}
use Rattle.lazy_rules.specs.Lines.{body_at, bound_entry, data_of, entry_of, entry_with, first_stores, item_entry, lost_shard, order_of, owner_of}
use Rattle.lazy_rules.specs.Store.{Store, bytes_of}
use Rattle.lazy_rules.specs.WorldState.{WorldState}
use Rattle.log_facts.specs.Ghosts.{Ghost}
use Rattle.log_facts.specs.Handed.{BodyBegun, BodyFloored, BodyPlaced, CellBegun, CellFloored, CellPlaced}
use Rattle.log_facts.specs.Parts.{home_of}
use Rattle.log_facts.specs.Past.{IsTrimAsked}
use Rattle.log_facts.specs.Signs.{Lacking, sort_of}
use Rattle.log_facts.specs.facts.OfLine.{Held, IsWhole}
use Rattle.log_facts.proofs.Places.{each_from_first}
use Rattle.log_facts.proofs.lines.Acknowledged.{shard_known, some_shard}
use Rattle.log_facts.proofs.lines.Clauses.{EntryShown}
use Rattle.log_facts.proofs.lines.Data.{data_begun}
use Rattle.log_facts.proofs.lines.Finals.{FinalCell, IsAgreed, a, at_home, final, final_cell, first_of_shard, there}
use Rattle.log_facts.proofs.lines.Pieces.{item_apart, item_whole}
use Rattle.log_facts.proofs.lines.Stores.{IsFirst}

-- who goes on with the line: what it has is bound no less far than is final for good, and no further than is final
pub record IsHeld (shape : Dimensions) (g : Ghost) (w : WorldState) (bound : ℕ) (window : List Marks) (items : List Item) : Type 0 where
  pub held : Held shape w.history g.log.line bound window items
  pub whole : Each (IsWhole shape w.history) items
  pub least : g.log.low ≤ bound
  pub most : bound ≤ g.log.high

module _ (shape : Dimensions) (g : Ghost) (w : WorldState) (is : IsAgreed shape g w) (spared : lost_shard w ≡ None) where
  abbrev pub stores : List (Option Store)
  stores = first_stores w

  -- every place has a shard that owns it
  pub owner_known : (place : ℕ) (id : Identity) → owner_of shape place id < shape.shards
  owner_known place id = by shape.mode
    where
      by : (mode : Mode) → owner_of (record shape { mode = mode }) place id < shape.shards
      by M = mod-lt place {m = shape.shards} (some_shard shape g w is)
      by St = shard_known shape g w is id

  -- the order and the bodies of a shard are those of its first replica
  pub order_is : (shard d : ℕ) → IsFirst w shard d → order_of stores shard ≡ ((a shape g w is).shards d).store.order
  order_is shard d first = ap (λ (o : Option Store). option_map_or (λ store. store.order) o []) first.has

  pub body_is : (shard d place : ℕ) (cell : Cell) → IsFirst w shard d → slice_get ((a shape g w is).shards d).store.order place ≡ Some cell → body_at stores shard place ≡ cell.body
  body_is shard d place cell first here =
      ap (λ (order : List Cell). option_map_or (λ (c : Cell). c.body) (slice_get order place) Open) (order_is shard d first)
      ∙ ap (λ (o : Option Cell). option_map_or (λ (c : Cell). c.body) o Open) here

  -- what a final cell of the owner is made an entry of
  pub record OwnCell (place : ℕ) (id : Identity) : Type 0 where
    pub node : ℕ
    pub first : IsFirst w (owner_of shape place id) node
    pub final : FinalCell g.log.line ((a shape g w is).shards node) place
    pub same : final.cell.id ≡ id

  pub own_cell : (place : ℕ) (id : Identity) → place < g.log.high → slice_get g.log.line place ≡ Some id → OwnCell place id
  own_cell place id below here =
      let first = first_of_shard shape g w is spared (owner_of shape place id) (owner_known place id) in
      let at = final_cell shape g w is first.node place (there shape g w is (owner_of shape place id) first.node first.is.listed) (final shape g w is (owner_of shape place id) first.node place first.is.listed below) in
      record { node = first.node; first = first.is; final = at; same = let both : Some at.cell.id ≡ Some id = sym at.in_line ∙ here in cc }

  pub own_entry : (place : ℕ) (id : Identity) (own : OwnCell place id) → bound_entry shape stores place id ≡ entry_of id own.final.cell.body
  own_entry place id own = ap (entry_of id) (body_is (owner_of shape place id) own.node place own.final.cell own.first own.final.here)

  -- its data is the owner's
  pub own_placed : (place : ℕ) (id : Identity) (own : OwnCell place id) → BodyPlaced shape (owner_of shape place id) (owner_of shape place id) own.final.cell.body
  own_placed place id own =
      let placed : CellPlaced shape (home_of own.node) place own.final.cell = each_from_first (CellPlaced shape (home_of own.node)) ((a shape g w is).shards own.node).store.order (is.agreed.shards.stores own.node).placed place own.final.cell own.final.here in
      let homed = subst (λ (n : ℕ). BodyPlaced shape n (owner_of shape place own.final.cell.id) own.final.cell.body) (at_home shape g w is (owner_of shape place id) own.node own.first.listed) placed in
      subst (λ (x : Identity). BodyPlaced shape (owner_of shape place id) (owner_of shape place x) own.final.cell.body) own.same homed

  pub own_begun : (place : ℕ) (id : Identity) (own : OwnCell place id) → BodyBegun w.history id own.final.cell.body
  own_begun place id own =
      let begun : CellBegun w.history own.final.cell = each_at (CellBegun w.history) ((a shape g w is).shards own.node).store.order (is.agreed.bytes own.node).cells place own.final.cell own.final.here in
      subst (λ (x : Identity). BodyBegun w.history x own.final.cell.body) own.same begun

  -- what was given up was asked to be
  own_gone : (place : ℕ) (id : Identity) (own : OwnCell place id) → own.final.cell.body ≡ Gone → IsTrimAsked w.history (place + 1)
  own_gone place id own gone =
      let store = ((a shape g w is).shards own.node).store in
      let floored : CellFloored store.floor place own.final.cell = each_from_first (CellFloored store.floor) store.order (is.agreed.shards.stores own.node).floored place own.final.cell own.final.here in
      let below : place < store.floor = subst (BodyFloored store.floor place) gone floored in
      let asked = (is.agreed.bytes own.node).asked (omega arith) in
      let far = asked.at_least in
      record { client = asked.client; read = asked.read; asked = asked.asked; stands = asked.stands; at_least = omega arith }

  pub bound_shown : (place : ℕ) (id : Identity) → place < g.log.high → slice_get g.log.line place ≡ Some id → EntryShown w.history place (bound_entry shape stores place id)
  bound_shown place id below here =
      let own = own_cell place id below here in
      subst (EntryShown w.history place) (sym (own_entry place id own)) (by own own.final.cell.body refl (own_placed place id own) (own_begun place id own) own.final.decided)
    where
      by : (own : OwnCell place id) (body : Body) → own.final.cell.body ≡ body → BodyPlaced shape (owner_of shape place id) (owner_of shape place id) body → BodyBegun w.history id body → sort_of body ≢ Lacking → EntryShown w.history place (entry_of id body)
      by own Elsewhere e placed begun decided = absurd (placed refl)
      by own (Kept bytes) e placed begun decided = begun
      by own Noop e placed begun decided = begun
      by own Open e placed begun decided = absurd (decided refl)
      by own Gone e placed begun decided = (begun, own_gone place id own e)

  -- ---- items

  -- the data of a record is what the first replica of its shard has
  pub data_is : (id : Identity) (d : ℕ) → IsFirst w (shard_of id shape.shards) d → data_of stores (shard_of id shape.shards) id ≡ bytes_of ((a shape g w is).shards d).store id
  data_is id d first = ap (λ (o : Option Store). option_and_then (λ store. bytes_of store id) o) first.has

  pub item_shown : (place : ℕ) (item : Item) → IsWhole shape w.history item → EntryShown w.history place (item_entry shape stores item)
  item_shown place item whole = by shape.mode refl
    where
      by_data : (o : Option (List ℕ)) → data_of stores (shard_of item.id shape.shards) item.id ≡ o → EntryShown w.history place (entry_with item.id o)
      by_data None e = record { bytes = whole.own; stands = whole.begun }
      by_data (Some bytes) e =
          let first = first_of_shard shape g w is spared (shard_of item.id shape.shards) (shard_known shape g w is item.id) in
          data_begun w.history ((a shape g w is).shards first.node).store (is.agreed.bytes first.node) item.id bytes (sym (data_is item.id first.node first.is) ∙ e)

      by : (mode : Mode) → shape.mode ≡ mode → EntryShown w.history place (item_entry shape stores item)
      by M e =
          let has : item.bytes ≡ Some whole.own = whole.has ∙ ap (λ (mode : Mode). carried mode whole.own) e in
          subst (EntryShown w.history place) (sym (item_whole shape stores item e ∙ ap (λ (o : Option (List ℕ)). KeptEntry item.id (unwrap_or o [])) has)) whole.begun
      by St e = subst (EntryShown w.history place) (sym (item_apart shape stores item e)) (by_data (data_of stores (shard_of item.id shape.shards) item.id) refl)
