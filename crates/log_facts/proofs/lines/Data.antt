-- The data that a store has of a record: it is that of the record's append, and it is there where the replica
-- acknowledged it, unless it was given up.
use Rattle.std.proofs.Common.{◌≡◌, ◌⊎◌, ℕ, List, [], ◌∷◌, cond, Bool, true, false, Option, Some, None, slice_get, inl, inr, refl, ap, ◌∙◌, subst}
use Rattle.std.specs.Prelude.{is_some}
use Rattle.std.specs.List.{list_any}
use Rattle.std.specs.Option.{option_or}
use Rattle.std.proofs.lemmas.Bool.{and_parts, or_cases}
use Rattle.list_facts.specs.Lists.{In}
use Rattle.list_facts.proofs.Members.{each_in, in_passes}
use Rattle.list_facts.proofs.Places.{at_in}
use Rattle.rec_id.specs.Identity.{Identity, same_id}
use Rattle.rec_id.specs.declared.event.Event.{Event}
use Rattle.rec_id.specs.declared.event.Event.TheVariants.{Invoke}
use Rattle.rec_id.specs.declared.item.Body.{Body}
use Rattle.rec_id.specs.declared.item.Body.TheVariants.{Elsewhere, Kept, Noop, Open, Gone}
use Rattle.rec_id.specs.declared.item.Cell.{Cell}
use Rattle.lazy_rules.specs.Store.{Store, bytes_in, bytes_of, has, has_data, held_bytes, is_cell_of, kept_bytes}
use Rattle.log_facts.specs.facts.OfData.{DataFacts}
use Rattle.log_facts.specs.Handed.{BodyBegun, CellBegun}
use Rattle.log_facts.proofs.Identities.{same_is, is_same}

-- what is held of a record was held under its identity
held_in : (held : List (Identity × List ℕ)) (id : Identity) (bytes : List ℕ) → held_bytes held id ≡ Some bytes → (one : Identity × List ℕ) × (In one held) × (one.0 ≡ id) × (one.1 ≡ bytes)
held_in [] id bytes h = cc
held_in (one ∷ others) id bytes h = by (λ e. held_in others id bytes e) (same_id one.0 id) refl h
  where
    by : (held_bytes others id ≡ Some bytes → (other : Identity × List ℕ) × (In other others) × (other.0 ≡ id) × (other.1 ≡ bytes)) → (b : Bool) → same_id one.0 id ≡ b → cond b (Some one.1) (held_bytes others id) ≡ Some bytes → (other : Identity × List ℕ) × (In other (one ∷ others)) × (other.0 ≡ id) × (other.1 ≡ bytes)
    by rest true e f = (one, inl refl, same_is one.0 id e, let is : Some one.1 ≡ Some bytes = f in cc)
    by rest false e f = let k = rest f in (k.0, inr k.1, k.2, k.3)

-- what is kept of a record is kept in a cell of it
kept_in : (cells : List Cell) (id : Identity) (bytes : List ℕ) → kept_bytes cells id ≡ Some bytes → (cell : Cell) × (In cell cells) × (cell.id ≡ id) × (cell.body ≡ Kept bytes)
kept_in [] id bytes h = cc
kept_in (cell ∷ cells) id bytes h = by (λ e. kept_in cells id bytes e) (same_id cell.id id) refl h
  where
    later : (cell : Cell) × (In cell cells) × (cell.id ≡ id) × (cell.body ≡ Kept bytes) → (other : Cell) × (In other (cell ∷ cells)) × (other.id ≡ id) × (other.body ≡ Kept bytes)
    later k = (k.0, inr k.1, k.2, k.3)

    here : (kept_bytes cells id ≡ Some bytes → (cell : Cell) × (In cell cells) × (cell.id ≡ id) × (cell.body ≡ Kept bytes)) → cell.id ≡ id → (body : Body) → cell.body ≡ body → option_or (bytes_in body) (kept_bytes cells id) ≡ Some bytes → (other : Cell) × (In other (cell ∷ cells)) × (other.id ≡ id) × (other.body ≡ Kept bytes)
    here rest is Elsewhere e f = later (rest f)
    here rest is (Kept own) e f = let same : own ≡ bytes = let both : Some own ≡ Some bytes = f in cc in (cell, inl refl, is, e ∙ ap Kept same)
    here rest is Noop e f = later (rest f)
    here rest is Open e f = later (rest f)
    here rest is Gone e f = later (rest f)

    by : (kept_bytes cells id ≡ Some bytes → (cell : Cell) × (In cell cells) × (cell.id ≡ id) × (cell.body ≡ Kept bytes)) → (b : Bool) → same_id cell.id id ≡ b → cond b (option_or (bytes_in cell.body) (kept_bytes cells id)) (kept_bytes cells id) ≡ Some bytes → (other : Cell) × (In other (cell ∷ cells)) × (other.id ≡ id) × (other.body ≡ Kept bytes)
    by rest true e f = here rest (same_is cell.id id e) cell.body refl f
    by rest false e f = later (rest f)

-- where a cell of the record keeps its data, something is kept
kept_some : (cells : List Cell) (id : Identity) (cell : Cell) (own : List ℕ) → In cell cells → cell.id ≡ id → cell.body ≡ Kept own → is_some (kept_bytes cells id) ≡ true
kept_some [] id cell own h is e = absurd h
kept_some (first ∷ cells) id cell own (inl same) is e =
    let one : same_id first.id id ≡ true = ap (λ (c : Cell). same_id c.id id) same ∙ ap (λ (x : Identity). same_id x id) is ∙ is_same id in
    let body : first.body ≡ Kept own = ap (λ (c : Cell). c.body) same ∙ e in
    ap (λ (b : Bool). is_some (cond b (option_or (bytes_in first.body) (kept_bytes cells id)) (kept_bytes cells id))) one
    ∙ ap (λ (b : Body). is_some (option_or (bytes_in b) (kept_bytes cells id))) body
kept_some (first ∷ cells) id cell own (inr later) is e = by (kept_some cells id cell own later is e) (same_id first.id id) first.body
  where
    by : is_some (kept_bytes cells id) ≡ true → (b : Bool) (body : Body) → is_some (cond b (option_or (bytes_in body) (kept_bytes cells id)) (kept_bytes cells id)) ≡ true
    by rest true Elsewhere = rest
    by rest true (Kept bytes) = refl
    by rest true Noop = rest
    by rest true Open = rest
    by rest true Gone = rest
    by rest false body = rest

module _ (history : List Event) (store : Store) (facts : DataFacts history store) (id : Identity) where
  kept_begun : (cell : Cell) (bytes : List ℕ) → In cell store.order → cell.id ≡ id → cell.body ≡ Kept bytes → In (Invoke id bytes) history
  kept_begun cell bytes h is e =
      let begun : BodyBegun history cell.id cell.body = each_in (CellBegun history) store.order facts.cells cell h in
      let kept : BodyBegun history cell.id (Kept bytes) = subst (BodyBegun history cell.id) e begun in
      subst (λ (x : Identity). In (Invoke x bytes) history) is kept

  -- the data of a record is that of its append
  pub data_begun : (bytes : List ℕ) → bytes_of store id ≡ Some bytes → In (Invoke id bytes) history
  data_begun bytes h = by (held_bytes store.held id) refl h
    where
      by : (o : Option (List ℕ)) → held_bytes store.held id ≡ o → option_or o (kept_bytes store.order id) ≡ Some bytes → In (Invoke id bytes) history
      by None e f = let k = kept_in store.order id bytes f in kept_begun k.0 bytes k.1 k.2 k.3
      by (Some own) e f =
          let k = held_in store.held id own e in
          let begun : In (Invoke k.0.0 k.0.1) history = each_in (λ (one : Identity × List ℕ). In (Invoke one.0 one.1) history) store.held facts.held k.0 k.1 in
          let same : own ≡ bytes = let both : Some own ≡ Some bytes = f in cc in
          subst (λ (b : List ℕ). In (Invoke id b) history) (k.3 ∙ same) (subst (λ (x : Identity). In (Invoke x k.0.1) history) k.2 begun)

  -- it is there unless it was given up
  pub data_there : has store id ≡ true → ((place : ℕ) (cell : Cell) → slice_get store.order place ≡ Some cell → cell.id ≡ id → cell.body ≡ Gone → ⊥) → (bytes : List ℕ) × (bytes_of store id ≡ Some bytes)
  data_there h never = by (held_bytes store.held id) (or_cases (is_some (held_bytes store.held id)) (list_any (is_cell_of has_data id) store.order) h)
    where
      some : (o : Option (List ℕ)) → is_some o ≡ true → (bytes : List ℕ) × (o ≡ Some bytes)
      some None e = let wrong : false ≡ true = e in cc
      some (Some bytes) e = (bytes, refl)

      in_cell : (cell : Cell) → In cell store.order → cell.id ≡ id → (body : Body) → cell.body ≡ body → has_data body ≡ true → is_some (kept_bytes store.order id) ≡ true
      in_cell cell m is Elsewhere e f = let wrong : false ≡ true = f in cc
      in_cell cell m is (Kept bytes) e f = kept_some store.order id cell bytes m is e
      in_cell cell m is Noop e f = let wrong : false ≡ true = f in cc
      in_cell cell m is Open e f = let wrong : false ≡ true = f in cc
      in_cell cell m is Gone e f = let at = at_in store.order cell m in absurd (never at.0 cell at.1 is e)

      kept : list_any (is_cell_of has_data id) store.order ≡ true → is_some (kept_bytes store.order id) ≡ true
      kept e =
          let k = in_passes (is_cell_of has_data id) store.order e in
          let parts = and_parts (same_id k.0.id id) (has_data k.0.body) k.2 in
          in_cell k.0 k.1 (same_is k.0.id id parts.0) k.0.body refl parts.1

      by : (o : Option (List ℕ)) → (is_some o ≡ true) ⊎ (list_any (is_cell_of has_data id) store.order ≡ true) → (bytes : List ℕ) × (option_or o (kept_bytes store.order id) ≡ Some bytes)
      by None (inl e) = let wrong : false ≡ true = e in cc
      by None (inr e) = some (kept_bytes store.order id) (kept e)
      by (Some bytes) e = (bytes, refl)
