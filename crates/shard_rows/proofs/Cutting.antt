-- What a store has after its order was cut off from a place on: the data behind is held again.
use Rattle.std.proofs.Common.{◌≡◌, ◌≢◌, ◌⊎◌, ℕ, List, [], ◌∷◌, ◌++◌, take, drop, true, inl, inr, refl, sym, ap, ◌∙◌, subst}
use Rattle.std.proofs.lemmas.List.{take-append-drop}
use Rattle.list_facts.specs.Lists.{Each, In}
use Rattle.list_facts.proofs.Cases.{either}
use Rattle.list_facts.proofs.Members.{each_in, in_cases, in_each, in_last, in_left, in_more, in_right}
use Rattle.rec_id.specs.Identity.{Identity}
use Rattle.rec_id.specs.declared.event.Event.{Event}
use Rattle.rec_id.specs.declared.event.Event.TheVariants.{Invoke}
use Rattle.rec_id.specs.declared.item.Body.{Body}
use Rattle.rec_id.specs.declared.item.Body.TheVariants.{Elsewhere, Kept, Noop, Open, Gone}
use Rattle.rec_id.specs.declared.item.Cell.{Cell}
use Rattle.view_config.specs.declared.edition.Mode.{Mode}
use Rattle.view_config.specs.declared.edition.Mode.TheVariants.{M, St}
use Rattle.lazy_rules.specs.Store.{Store, bytes_in, cut, give_back, has, has_data, hold, hold_again, hold_cells}
use Rattle.log_facts.specs.Handed.{BodyBegun, CellBegun}
use Rattle.log_facts.specs.facts.OfData.{DataFacts}
use Rattle.shard_rows.proofs.Extending.{IsThere, SameBut, has_there}

-- a cell keeps these bytes of this record
pub record Keeps (cells : List Cell) (id : Identity) (bytes : List ℕ) : Type 0 where
  pub cell : Cell
  pub among : In cell cells
  pub of : cell.id ≡ id
  pub kept : cell.body ≡ Kept bytes

-- what a store that holds more has
pub record HoldsMore (x y : Store) : Type 0 where
  pub same : SameBut x y
  pub order : y.order ≡ x.order
  pub more : (one : Identity × List ℕ) → In one x.held → In one y.held

still : (x : Store) → HoldsMore x x
still x = record { same = record { mode = refl; shard = refl; shards = refl; stable = refl; floor = refl }; order = refl; more = λ one i. i }

then : (x y z : Store) → HoldsMore x y → HoldsMore y z → HoldsMore x z
then x y z h k = record {
  same = record {
    mode = k.same.mode ∙ h.same.mode;
    shard = k.same.shard ∙ h.same.shard;
    shards = k.same.shards ∙ h.same.shards;
    stable = k.same.stable ∙ h.same.stable;
    floor = k.same.floor ∙ h.same.floor;
  };
  order = k.order ∙ h.order;
  more = λ one i. k.more one (h.more one i);
}

there_more : (x y : Store) → HoldsMore x y → (id : Identity) → IsThere x id → IsThere y id
there_more x y h id (inl one) = inl (one.0, h.more one.0 one.1, one.2)
there_more x y h id (inr cell) = inr (cell.0, subst (In cell.0) (sym h.order) cell.1, cell.2, cell.3)

-- ---- data is held
hold_holds : (x : Store) (id : Identity) (bytes : List ℕ) → HoldsMore x (hold x id bytes)
hold_holds x id bytes = either (HoldsMore x) (has x id) x (record x { held = x.held ++ (id, bytes) ∷ [] })
    (λ e. still x)
    (λ e. record { same = record { mode = refl; shard = refl; shards = refl; stable = refl; floor = refl }; order = refl; more = λ one i. in_left one x.held ((id, bytes) ∷ []) i })

hold_there : (x : Store) (id : Identity) (bytes : List ℕ) → IsThere (hold x id bytes) id
hold_there x id bytes = either (λ (y : Store). IsThere y id) (has x id) x (record x { held = x.held ++ (id, bytes) ∷ [] })
    (λ e. has_there x id e)
    (λ e. inl ((id, bytes), in_last (id, bytes) x.held, refl))

hold_of : (x : Store) (id : Identity) (bytes : List ℕ) (one : Identity × List ℕ) → In one (hold x id bytes).held → In one x.held ⊎ ((id, bytes) ≡ one)
hold_of x id bytes one = either (λ (y : Store). In one y.held → In one x.held ⊎ ((id, bytes) ≡ one)) (has x id) x (record x { held = x.held ++ (id, bytes) ∷ [] })
    (λ e i. inl i)
    (λ e i. in_more one (id, bytes) x.held i)

again_holds : (x : Store) (id : Identity) (body : Body) → HoldsMore x (hold_again x id (bytes_in body))
again_holds x id (Kept bytes) = hold_holds x id bytes
again_holds x id Elsewhere = still x
again_holds x id Noop = still x
again_holds x id Open = still x
again_holds x id Gone = still x

again_of : (x : Store) (id : Identity) (body : Body) (one : Identity × List ℕ) → In one (hold_again x id (bytes_in body)).held → In one x.held ⊎ ((id ≡ one.0) × (body ≡ Kept one.1))
again_of x id (Kept bytes) one i = elim (hold_of x id bytes one i) [
  | inl before ↦ inl before
  | inr new ↦ inr (ap (λ (p : Identity × List ℕ). p.0) new, ap (λ (p : Identity × List ℕ). Kept p.1) new)
]
again_of x id Elsewhere one i = inl i
again_of x id Noop one i = inl i
again_of x id Open one i = inl i
again_of x id Gone one i = inl i

-- ---- and that of cells
cells_hold : (cells : List Cell) (x : Store) → HoldsMore x (hold_cells x cells)
cells_hold [] x = still x
cells_hold (cell ∷ cells) x =
    then x (hold_again x cell.id (bytes_in cell.body)) (hold_cells x (cell ∷ cells)) (again_holds x cell.id cell.body) (cells_hold cells (hold_again x cell.id (bytes_in cell.body)))

cells_of : (cells : List Cell) (x : Store) (one : Identity × List ℕ) → In one (hold_cells x cells).held → In one x.held ⊎ Keeps cells one.0 one.1
cells_of [] x one i = inl i
cells_of (cell ∷ cells) x one i = elim (cells_of cells (hold_again x cell.id (bytes_in cell.body)) one i) [
  | inl before ↦ elim (again_of x cell.id cell.body one before) [
    | inl first ↦ inl first
    | inr here ↦ inr (record { cell = cell; among = inl refl; of = here.0; kept = here.1 })
  ]
  | inr later ↦ inr (record { cell = later.cell; among = inr later.among; of = later.of; kept = later.kept })
]

cells_there : (cells : List Cell) (x : Store) (id : Identity) (bytes : List ℕ) → Keeps cells id bytes → IsThere (hold_cells x cells) id
cells_there [] x id bytes k = absurd k.among
cells_there (cell ∷ cells) x id bytes k = by (λ later. cells_there cells (hold_again x cell.id (bytes_in cell.body)) id bytes later) k.among
  where
    by : (Keeps cells id bytes → IsThere (hold_cells x (cell ∷ cells)) id) → (cell ≡ k.cell) ⊎ In k.cell cells → IsThere (hold_cells x (cell ∷ cells)) id
    by rest (inr i) = rest (record { cell = k.cell; among = i; of = k.of; kept = k.kept })
    by rest (inl e) =
        let of : cell.id ≡ id = ap (λ (c : Cell). c.id) e ∙ k.of in
        let kept : cell.body ≡ Kept bytes = ap (λ (c : Cell). c.body) e ∙ k.kept in
        let held : IsThere (hold_again x cell.id (bytes_in cell.body)) cell.id = subst (λ (b : Body). IsThere (hold_again x cell.id (bytes_in b)) cell.id) (sym kept) (hold_there x cell.id bytes) in
        there_more (hold_again x cell.id (bytes_in cell.body)) (hold_cells x (cell ∷ cells)) (cells_hold cells (hold_again x cell.id (bytes_in cell.body))) id (subst (IsThere (hold_again x cell.id (bytes_in cell.body))) of held)

-- ---- the order is cut off
module _ (x : Store) (from : ℕ) where
  abbrev front : Store
  front = record x { order = take from x.order }

  given_back : (mode : Mode) (cells : List Cell) → HoldsMore front (give_back mode front cells)
  given_back M cells = still front
  given_back St cells = cells_hold cells front

  pub cut_same : SameBut x (cut x from)
  cut_same =
      let k = (given_back x.mode (drop from x.order)).same in
      record { mode = k.mode; shard = k.shard; shards = k.shards; stable = k.stable; floor = k.floor }

  pub cut_order : (cut x from).order ≡ take from x.order
  cut_order = (given_back x.mode (drop from x.order)).order

  -- what is held was held, or was kept behind
  pub cut_held : (one : Identity × List ℕ) → In one (cut x from).held → In one x.held ⊎ Keeps x.order one.0 one.1
  cut_held one i = by x.mode i
    where
      by : (mode : Mode) → In one (give_back mode front (drop from x.order)).held → In one x.held ⊎ Keeps x.order one.0 one.1
      by M i = inl i
      by St i = elim (cells_of (drop from x.order) front one i) [
        | inl before ↦ inl before
        | inr k ↦ inr (record { cell = k.cell; among = subst (In k.cell) (take-append-drop from x.order) (in_right k.cell (take from x.order) (drop from x.order) k.among); of = k.of; kept = k.kept })
      ]

  -- where records go whole, nothing is held
  pub cut_none : x.mode ≡ M → x.held ≡ [] → (cut x from).held ≡ []
  cut_none mode none = subst (λ (m : Mode). (give_back m front (drop from x.order)).held ≡ []) (sym mode) none

  -- whose data is there stays there, if none of what is cut off was given up
  pub cut_there : x.mode ≡ St → ((cell : Cell) → In cell (drop from x.order) → cell.body ≢ Gone) → (id : Identity) → IsThere x id → IsThere (cut x from) id
  cut_there mode kept id h = subst (λ (m : Mode). IsThere (give_back m front (drop from x.order)) id) (sym mode) (by h)
    where
      more : IsThere front id → IsThere (hold_cells front (drop from x.order)) id
      more = there_more front (hold_cells front (drop from x.order)) (cells_hold (drop from x.order) front) id

      behind : (cell : Cell) → In cell (drop from x.order) → cell.id ≡ id → (body : Body) → cell.body ≡ body → has_data body ≡ true → IsThere (hold_cells front (drop from x.order)) id
      behind cell i is (Kept bytes) e some = cells_there (drop from x.order) front id bytes (record { cell = cell; among = i; of = is; kept = e })
      behind cell i is Elsewhere e some = cc
      behind cell i is Noop e some = cc
      behind cell i is Open e some = cc
      behind cell i is Gone e some = absurd (kept cell i e)

      by : IsThere x id → IsThere (hold_cells front (drop from x.order)) id
      by (inl one) = more (inl one)
      by (inr cell) = elim (in_cases cell.0 (take from x.order) (drop from x.order) (subst (In cell.0) (sym (take-append-drop from x.order)) cell.1)) [
        | inl before ↦ more (inr (cell.0, before, cell.2, cell.3))
        | inr after ↦ behind cell.0 after cell.2 cell.0.body refl cell.3
      ]

-- what is held then was held, or kept, of appends that began
pub cut_begun : (history : List Event) (x : Store) (from : ℕ) → DataFacts history x → Each (λ (one : Identity × List ℕ). In (Invoke one.0 one.1) history) (cut x from).held
cut_begun history x from facts = in_each (λ (one : Identity × List ℕ). In (Invoke one.0 one.1) history) (cut x from).held (λ one i. elim (cut_held x from one i) [
  | inl was ↦ each_in (λ (k : Identity × List ℕ). In (Invoke k.0 k.1) history) x.held facts.held one was
  | inr kept ↦ begun one kept
])
  where
    begun : (one : Identity × List ℕ) → Keeps x.order one.0 one.1 → In (Invoke one.0 one.1) history
    begun one k =
        let stands : BodyBegun history k.cell.id k.cell.body = each_in (CellBegun history) x.order facts.cells k.cell k.among in
        let its : BodyBegun history k.cell.id (Kept one.1) = subst (BodyBegun history k.cell.id) k.kept stands in
        subst (λ (id : Identity). In (Invoke id one.1) history) k.of its
