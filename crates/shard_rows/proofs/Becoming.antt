-- What cells items become behind an order.
use Rattle.std.proofs.Common.{◌≡◌, ◌⊎◌, ℕ, ◌+◌, List, [], ◌∷◌, length, cond, Bool, true, false, Option, Some, None, inl, inr, refl, sym, ap, ◌∙◌, subst, arith, length-append}
use Rattle.std.specs.Prelude.{◌%◌, ◌==◌, ◌&&◌, if◌then◌else◌}
use Rattle.std.specs.Option.{option_or}
use Rattle.std.proofs.lemmas.Bool.{eq-eqb, eqb-true}
use Rattle.std.proofs.lemmas.Bool.{eqb-false}
use Rattle.list_facts.specs.Lists.{Each, In}
use Rattle.list_facts.proofs.Members.{each_in, in_each}
use Rattle.rec_id.specs.Identity.{Identity, same_id, shard_of}
use Rattle.rec_id.specs.declared.event.Event.{Event}
use Rattle.rec_id.specs.declared.event.Event.TheVariants.{Invoke}
use Rattle.rec_id.specs.declared.item.Body.{Body}
use Rattle.rec_id.specs.declared.item.Body.TheVariants.{Elsewhere, Noop, Open, Gone}
use Rattle.rec_id.specs.declared.item.Cell.{Cell}
use Rattle.rec_id.specs.declared.item.Item.{Item}
use Rattle.view_config.specs.Shape.{Dimensions}
use Rattle.view_config.specs.declared.edition.Mode.{Mode}
use Rattle.view_config.specs.declared.edition.Mode.TheVariants.{M, St}
use Rattle.lazy_rules.specs.Ids.{ids_of}
use Rattle.lazy_rules.specs.Items.{is_whole}
use Rattle.lazy_rules.specs.Lines.{owner_of}
use Rattle.lazy_rules.specs.Store.{Store, cell_for, extend, extend_cells, filled_or_open, held_bytes, is_own, is_own_by, with_cell}
use Rattle.lazy_rules.specs.WorldRules.{ids_in}
use Rattle.log_facts.specs.Handed.{CellBegun, CellPlaced, EachFrom, ItemGiven}
use Rattle.log_facts.proofs.Identities.{same_is}
use Rattle.shard_rows.proofs.Extending.{extend_held, extend_none}

-- the cells that items become
abbrev pub cells_for : Store → List Item → List Cell
cells_for x [] = []
cells_for x (item ∷ items) = cell_for x item ∷ cells_for (with_cell x (cell_for x item)) items

pub extend_is : (items : List Item) (x : Store) → extend x items ≡ extend_cells x (cells_for x items)
extend_is [] x = refl
extend_is (item ∷ items) x = extend_is items (with_cell x (cell_for x item))

pub cells_ids : (items : List Item) (x : Store) → ids_in (cells_for x items) ≡ ids_of items
cells_ids [] x = refl
cells_ids (item ∷ items) x = ap (λ (ids : List Identity). item.id ∷ ids) (cells_ids items (with_cell x (cell_for x item)))

pub cells_length : (items : List Item) (x : Store) → length (cells_for x items) ≡ length items
cells_length [] x = refl
cells_length (item ∷ items) x = let rest = cells_length items (with_cell x (cell_for x item)) in omega arith

-- what is held of a record was held under its identity
held_in : (held : List (Identity × List ℕ)) (id : Identity) (bytes : List ℕ) → held_bytes held id ≡ Some bytes → (one : Identity × List ℕ) × (In one held) × (one.0 ≡ id) × (one.1 ≡ bytes)
held_in [] id bytes h = cc
held_in (one ∷ others) id bytes h = by (λ e. held_in others id bytes e) (same_id one.0 id) refl h
  where
    by : (held_bytes others id ≡ Some bytes → (other : Identity × List ℕ) × (In other others) × (other.0 ≡ id) × (other.1 ≡ bytes)) → (b : Bool) → same_id one.0 id ≡ b → cond b (Some one.1) (held_bytes others id) ≡ Some bytes → (other : Identity × List ℕ) × (In other (one ∷ others)) × (other.0 ≡ id) × (other.1 ≡ bytes)
    by rest true e f = (one, inl refl, same_is one.0 id e, let is : Some one.1 ≡ Some bytes = f in cc)
    by rest false e f = let k = rest f in (k.0, inr k.1, k.2, k.3)

-- a body that is added: where it belongs, of an append that began; never a no-op, and never given up
abbrev pub IsFresh : Body → Type 0
IsFresh Noop = ⊥
IsFresh Gone = ⊥
IsFresh _ = Unit {0}

pub record FreshCell (shape : Dimensions) (history : List Event) (shard place : ℕ) (cell : Cell) : Type 0 where
  pub placed : CellPlaced shape shard place cell
  pub begun : CellBegun history cell
  pub fresh : IsFresh cell.body

own_by : (mode : Mode) (x : Store) (shards shard place : ℕ) (id : Identity) → x.shards ≡ shards → x.shard ≡ shard →
    is_own_by mode x place id ≡ (elim mode [ M ↦ place % shards | St ↦ shard_of id shards ] == shard)
own_by M x shards shard place id counts is = ap (λ (n : ℕ). place % n == x.shard) counts ∙ ap (λ (n : ℕ). place % shards == n) is
own_by St x shards shard place id counts is = ap (λ (n : ℕ). shard_of id n == x.shard) counts ∙ ap (λ (n : ℕ). shard_of id shards == n) is

module _ (shape : Dimensions) (history : List Event) (shard : ℕ) where
  -- what has to be known of a store to which items are added
  pub record Takes (x : Store) : Type 0 where
    pub mode : x.mode ≡ shape.mode
    pub shards : x.shards ≡ shape.shards
    pub shard_is : x.shard ≡ shard
    pub held : Each (λ (one : Identity × List ℕ). In (Invoke one.0 one.1) history) x.held

  module _ (x : Store) (takes : Takes x) (item : Item) (given : ItemGiven shape history shard (length x.order) item) where
    abbrev place : ℕ
    place = length x.order

    own_is : is_own x place item.id ≡ (owner_of shape place item.id == shard)
    own_is = ap (λ (m : Mode). is_own_by m x place item.id) takes.mode ∙ own_by shape.mode x shape.shards shard place item.id takes.shards takes.shard_is

    -- bytes that came with the item, or were held
    begun_bytes : (bytes : List ℕ) → option_or item.bytes (held_bytes x.held item.id) ≡ Some bytes → In (Invoke item.id bytes) history
    begun_bytes bytes is = by item.bytes refl is
      where
        own_only : (b : Bool) (bytes : List ℕ) → (if b then Some given.own else None) ≡ Some bytes → given.own ≡ bytes
        own_only true bytes e = cc
        own_only false bytes e = cc

        by : (o : Option (List ℕ)) → item.bytes ≡ o → option_or o (held_bytes x.held item.id) ≡ Some bytes → In (Invoke item.id bytes) history
        by None e f =
            let one = held_in x.held item.id bytes f in
            let stands : In (Invoke one.0.0 one.0.1) history = each_in (λ (k : Identity × List ℕ). In (Invoke k.0 k.1) history) x.held takes.held one.0 one.1 in
            subst (λ (k : Identity). In (Invoke k bytes) history) one.2 (subst (λ (bs : List ℕ). In (Invoke one.0.0 bs) history) one.3 stands)
        by (Some came) e f =
            let same : came ≡ bytes = cc in
            let own : given.own ≡ came = own_only (is_whole shape.mode && place % shape.shards == shard) came (sym given.has ∙ e) in
            subst (λ (bs : List ℕ). In (Invoke item.id bs) history) (own ∙ same) given.begun

    -- where none came and none was held, it comes by itself
    apart : owner_of shape place item.id ≡ shard → option_or item.bytes (held_bytes x.held item.id) ≡ None → shape.mode ≡ St
    apart own none = by shape.mode refl own given.has
      where
        came : (o : Option (List ℕ)) → option_or o (held_bytes x.held item.id) ≡ None → o ≡ None
        came None e = refl
        came (Some bytes) e = cc

        due : (b : Bool) → b ≡ true → item.bytes ≡ (if b then Some given.own else None) → ⊥
        due true e f = let wrong : Some given.own ≡ None = sym f ∙ came item.bytes none in cc
        due false e f = cc

        by : (mode : Mode) → shape.mode ≡ mode → elim mode [ M ↦ place % shape.shards | St ↦ shard_of item.id shape.shards ] ≡ shard → item.bytes ≡ (if is_whole mode && place % shape.shards == shard then Some given.own else None) → shape.mode ≡ St
        by M e own has = absurd (due (place % shape.shards == shard) (eq_true own) has)
          where
            eq_true : place % shape.shards ≡ shard → (place % shape.shards == shard) ≡ true
            eq_true e = eq-eqb (place % shape.shards) shard e
        by St e own has = e

    fresh_cell : FreshCell shape history shard place (cell_for x item)
    fresh_cell = subst (λ (b : Bool). FreshCell shape history shard place (record { id = item.id; body = if b then filled_or_open (option_or item.bytes (held_bytes x.held item.id)) else Elsewhere })) (sym own_is)
        (by (owner_of shape place item.id == shard) refl)
      where
        filled : owner_of shape place item.id ≡ shard → (o : Option (List ℕ)) → option_or item.bytes (held_bytes x.held item.id) ≡ o → FreshCell shape history shard place (record { id = item.id; body = filled_or_open o })
        filled own None e = record { placed = (own, apart own e); begun = record { bytes = given.own; stands = given.begun }; fresh = tt }
        filled own (Some bytes) e = record { placed = own; begun = begun_bytes bytes e; fresh = tt }

        by : (b : Bool) → (owner_of shape place item.id == shard) ≡ b → FreshCell shape history shard place (record { id = item.id; body = if b then filled_or_open (option_or item.bytes (held_bytes x.held item.id)) else Elsewhere })
        by true e = filled (eqb-true (owner_of shape place item.id) shard e) (option_or item.bytes (held_bytes x.held item.id)) refl
        by false e = record { placed = eqb-false (owner_of shape place item.id) shard e; begun = record { bytes = given.own; stands = given.begun }; fresh = tt }

    -- of what is awaited nothing is held
    open_lacks : (cell_for x item).body ≡ Open → held_bytes x.held item.id ≡ None
    open_lacks = by (is_own x place item.id)
      where
        none : (o p : Option (List ℕ)) → filled_or_open (option_or o p) ≡ Open → p ≡ None
        none None None e = refl
        none None (Some bytes) e = cc
        none (Some bytes) p e = cc

        by : (b : Bool) → (if b then filled_or_open (option_or item.bytes (held_bytes x.held item.id)) else Elsewhere) ≡ Open → held_bytes x.held item.id ≡ None
        by true e = none item.bytes (held_bytes x.held item.id) e
        by false e = cc

    takes_more : Takes (with_cell x (cell_for x item))
    takes_more = record {
      mode = takes.mode;
      shards = takes.shards;
      shard_is = takes.shard_is;
      held = in_each (λ (one : Identity × List ℕ). In (Invoke one.0 one.1) history) (with_cell x (cell_for x item)).held (λ one i.
          each_in (λ (k : Identity × List ℕ). In (Invoke k.0 k.1) history) x.held takes.held one (extend_held (cell_for x item ∷ []) x one i));
    }

  longer : (x : Store) (cell : Cell) → length (with_cell x cell).order ≡ length x.order + 1
  longer x cell = let long = length-append x.order (cell ∷ []) in omega arith

  pub fresh_cells : (items : List Item) (x : Store) → Takes x → EachFrom (ItemGiven shape history shard) (length x.order) items → EachFrom (FreshCell shape history shard) (length x.order) (cells_for x items)
  fresh_cells [] x takes given = tt
  fresh_cells (item ∷ items) x takes given =
      let long : length (with_cell x (cell_for x item)).order ≡ length x.order + 1 = longer x (cell_for x item) in (
        fresh_cell x takes item given.0,
        subst (λ (n : ℕ). EachFrom (FreshCell shape history shard) n (cells_for (with_cell x (cell_for x item)) items)) long
            (fresh_cells items (with_cell x (cell_for x item)) (takes_more x takes item given.0) (subst (λ (n : ℕ). EachFrom (ItemGiven shape history shard) n items) (sym long) given.1)),
      )

  -- of what is awaited behind the order nothing is held
  pub fresh_lacks : (items : List Item) (x : Store) → Takes x → EachFrom (ItemGiven shape history shard) (length x.order) items → (cell : Cell) → In cell (cells_for x items) → cell.body ≡ Open → held_bytes (extend x items).held cell.id ≡ None
  fresh_lacks [] x takes given cell i is = absurd i
  fresh_lacks (item ∷ items) x takes given cell i is = by (fresh_lacks items (with_cell x (cell_for x item)) (takes_more x takes item given.0) (subst (λ (n : ℕ). EachFrom (ItemGiven shape history shard) n items) (sym (longer x (cell_for x item))) given.1) cell) i
    where
      by : (In cell (cells_for (with_cell x (cell_for x item)) items) → cell.body ≡ Open → held_bytes (extend (with_cell x (cell_for x item)) items).held cell.id ≡ None) → (cell_for x item ≡ cell) ⊎ In cell (cells_for (with_cell x (cell_for x item)) items) → held_bytes (extend (with_cell x (cell_for x item)) items).held cell.id ≡ None
      by rest (inr later) = rest later is
      by rest (inl e) =
          let body : (cell_for x item).body ≡ Open = ap (λ (c : Cell). c.body) e ∙ is in
          let none : held_bytes x.held item.id ≡ None = open_lacks x takes item given.0 body in
          let all : held_bytes (extend_cells x (cell_for x item ∷ cells_for (with_cell x (cell_for x item)) items)).held item.id ≡ None = extend_none (cell_for x item ∷ cells_for (with_cell x (cell_for x item)) items) x item.id none in
          ap (λ (k : Store). held_bytes k.held cell.id) (extend_is items (with_cell x (cell_for x item))) ∙ ap (λ (k : Identity). held_bytes (extend_cells x (cell_for x item ∷ cells_for (with_cell x (cell_for x item)) items)).held k) (ap (λ (c : Cell). c.id) (sym e)) ∙ all
