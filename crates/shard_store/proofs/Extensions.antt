-- An order that items or cells extend.
use Rattle.std.proofs.Common.{◌≡◌, ℕ, suc, ◌+◌, ◌<◌, ◌≤◌, List, [], ◌∷◌, ◌++◌, Bool, true, false, cond, Option, Some, None, length, get_or, take, drop, sym, ap, ◌∙◌, refl, arith}
use Rattle.std.specs.Option.{option_or}
use Rattle.std.proofs.lemmas.List.{append_assoc, append-nil, length_push, take_more, length-take-le}
use Rattle.rec_id.specs.Identity.{Identity}
use Rattle.rec_id.specs.declared.item.Body.{Body}
use Rattle.rec_id.specs.declared.item.Body.TheVariants.{Elsewhere}
use Rattle.rec_id.specs.declared.item.Cell.{Cell}
use Rattle.rec_id.specs.declared.item.Item.{Item}
use Rattle.view_config.specs.declared.edition.Mode.{Mode}
use Rattle.view_config.specs.declared.edition.Mode.TheVariants.{M, St}
use Rattle.lazy_rules.specs.Store.{Store, is_own_by, cell_for, with_cell, extend, extend_cells, filled_or_open, held_bytes, has, hold_again, hold_cells, bytes_in, give_back, cut, recut, recut_cells}
use Rattle.shard_store.specs.Settling.{owns, drafted, drafts, settled, settled_body, settled_all, held_after, held_beside_all, held_again, held_again_all, given_back}

abbrev pub Pairs : Type 0
Pairs = List (Identity × List ℕ)

-- ---- drafts
length-drafts : (mode : Mode) (shard shards place : ℕ) (items : List Item) → length (drafts mode shard shards place items) ≡ length items
length-drafts mode shard shards place [] = refl
length-drafts mode shard shards place (item ∷ items) = ap suc (length-drafts mode shard shards (place + 1) items)

pub count_drafts : (mode : Mode) (shard shards place : ℕ) (items : List Item) (cells : List Cell) → cells ≡ drafts mode shard shards place items → length cells ≡ length items
count_drafts mode shard shards place items cells is = ap length is ∙ length-drafts mode shard shards place items

drafts_push : (mode : Mode) (shard shards place : ℕ) (items : List Item) (item : Item)
    → drafts mode shard shards place (items ++ item ∷ []) ≡ drafts mode shard shards place items ++ drafted mode shard shards (place + length items) item ∷ []
drafts_push mode shard shards place [] item = ap (λ (n : ℕ). drafted mode shard shards n item ∷ []) (omega arith)
drafts_push mode shard shards place (x ∷ xs) item =
    ap (λ (l : List Cell). drafted mode shard shards place x ∷ l)
    (drafts_push mode shard shards (place + 1) xs item
    ∙ ap (λ (n : ℕ). drafts mode shard shards (place + 1) xs ++ drafted mode shard shards n item ∷ []) (omega arith))

pub drafts_more : (mode : Mode) (shard shards place : ℕ) (items : List Item) (i : ℕ) (item : Item) → i < length items → get_or items i item ≡ item
    → drafts mode shard shards place (take (i + 1) items) ≡ drafts mode shard shards place (take i items) ++ drafted mode shard shards (place + i) item ∷ []
drafts_more mode shard shards place items i item inside read =
    let count : length (take i items) ≡ i = length-take-le i items (omega arith) in
    ap (drafts mode shard shards place) (take_more items i item inside ∙ ap (λ (x : Item). take i items ++ x ∷ []) read)
    ∙ drafts_push mode shard shards place (take i items) item
    ∙ ap (λ (n : ℕ). drafts mode shard shards place (take i items) ++ drafted mode shard shards (place + n) item ∷ []) count

-- ---- one item
own_same : (mode : Mode) (store : Store) (place : ℕ) (id : Identity) → is_own_by mode store place id ≡ owns mode store.shard store.shards place id
own_same M store place id = refl
own_same St store place id = refl

drawn : (b : Bool) (bytes : Option (List ℕ)) (held : Pairs) (id : Identity)
    → cond b (filled_or_open (option_or bytes (held_bytes held id))) Elsewhere ≡ settled_body held id (cond b (filled_or_open bytes) Elsewhere)
drawn false bytes held id = refl
drawn true None held id = refl
drawn true (Some data_) held id = refl

cell_is : (store : Store) (item : Item) → cell_for store item ≡ settled store.held (drafted store.mode store.shard store.shards (length store.order) item)
cell_is store item =
    ap (λ (body : Body). let made : Cell = record { id = item.id; body = body } in made)
    (ap (λ (b : Bool). cond b (filled_or_open (option_or item.bytes (held_bytes store.held item.id))) Elsewhere) (own_same store.mode store (length store.order) item.id)
    ∙ drawn (owns store.mode store.shard store.shards (length store.order) item.id) item.bytes store.held item.id)

-- ---- all items
abbrev pub grown : Store → List Cell → Pairs → Store
grown store cells held = record store { order = cells; held = held }

pub extend_is : (store : Store) (items : List Item)
    → extend store items ≡ grown store (store.order ++ settled_all store.held (drafts store.mode store.shard store.shards (length store.order) items))
    (held_beside_all store.held (settled_all store.held (drafts store.mode store.shard store.shards (length store.order) items)))
extend_is store [] = ap (λ (l : List Cell). grown store l store.held) (sym (append-nil store.order))
extend_is store (item ∷ items) =
    let draft = drafted store.mode store.shard store.shards (length store.order) item in
    let cell = settled store.held draft in
    let next = with_cell store cell in
    let later = drafts store.mode store.shard store.shards (length store.order + 1) items in
    let there = ap (λ (n : ℕ). drafts store.mode store.shard store.shards n items) (length_push store.order cell) in
    ap (λ (c : Cell). extend (with_cell store c) items) (cell_is store item)
    ∙ extend_is next items
    ∙ ap (λ (l : List Cell). grown store ((store.order ++ cell ∷ []) ++ settled_all (held_after store.held cell) l) (held_beside_all (held_after store.held cell) (settled_all (held_after store.held cell) l))) there
    ∙ ap (λ (l : List Cell). grown store l (held_beside_all (held_after store.held cell) (settled_all (held_after store.held cell) later))) (append_assoc store.order (cell ∷ []) (settled_all (held_after store.held cell) later))

pub extend_cells_is : (store : Store) (cells : List Cell) → extend_cells store cells ≡ grown store (store.order ++ cells) (held_beside_all store.held cells)
extend_cells_is store [] = ap (λ (l : List Cell). grown store l store.held) (sym (append-nil store.order))
extend_cells_is store (cell ∷ cells) =
    extend_cells_is (with_cell store cell) cells
    ∙ ap (λ (l : List Cell). grown store l (held_beside_all (held_after store.held cell) cells)) (append_assoc store.order (cell ∷ []) cells)

-- ---- a cut, and what comes after it
hold_cells_is : (store : Store) (cells : List Cell) → hold_cells store cells ≡ grown store store.order (held_again_all store.order store.held cells)
hold_cells_is store [] = refl
hold_cells_is store (cell ∷ cells) = by_bytes (λ held. hold_cells_is (record store { held = held }) cells) (bytes_in cell.body)
  where
    by_has : ((held : Pairs) → hold_cells (record store { held = held }) cells ≡ grown store store.order (held_again_all store.order held cells)) → (b : Bool) (bytes : List ℕ)
        → hold_cells (cond b store (record store { held = store.held ++ (cell.id, bytes) ∷ [] })) cells
        ≡ grown store store.order (held_again_all store.order (cond b store.held (store.held ++ (cell.id, bytes) ∷ [])) cells)
    by_has rest true bytes = rest store.held
    by_has rest false bytes = rest (store.held ++ (cell.id, bytes) ∷ [])

    by_bytes : ((held : Pairs) → hold_cells (record store { held = held }) cells ≡ grown store store.order (held_again_all store.order held cells)) → (bytes : Option (List ℕ))
        → hold_cells (hold_again store cell.id bytes) cells ≡ grown store store.order (held_again_all store.order (held_again store.order store.held cell.id bytes) cells)
    by_bytes rest None = rest store.held
    by_bytes rest (Some bytes) = by_has rest (has store cell.id) bytes

pub cut_is : (store : Store) (from : ℕ) → cut store from ≡ grown store (take from store.order) (given_back store.mode (take from store.order) store.held (drop from store.order))
cut_is store from = by_mode store.mode
  where
    by_mode : (mode : Mode) → give_back mode (record store { order = take from store.order }) (drop from store.order)
        ≡ grown store (take from store.order) (given_back mode (take from store.order) store.held (drop from store.order))
    by_mode M = refl
    by_mode St = hold_cells_is (record store { order = take from store.order }) (drop from store.order)

pub recut_is : (store : Store) (from : ℕ) (items : List Item) → from ≤ length store.order
    → (let front = take from store.order in let held = given_back store.mode front store.held (drop from store.order) in let all = drafts store.mode store.shard store.shards from items in
    recut store from items ≡ grown store (front ++ settled_all held all) (held_beside_all held (settled_all held all)))
recut_is store from items inside =
    let front = take from store.order in
    let held = given_back store.mode front store.held (drop from store.order) in
    ap (λ (s : Store). extend s items) (cut_is store from)
    ∙ extend_is (grown store front held) items
    ∙ ap (λ (n : ℕ). grown store (front ++ settled_all held (drafts store.mode store.shard store.shards n items)) (held_beside_all held (settled_all held (drafts store.mode store.shard store.shards n items)))) (length-take-le from store.order inside)

pub recut_cells_is : (store : Store) (from : ℕ) (cells : List Cell)
    → (let front = take from store.order in let held = given_back store.mode front store.held (drop from store.order) in
    recut_cells store from cells ≡ grown store (front ++ cells) (held_beside_all held cells))
recut_cells_is store from cells =
    let front = take from store.order in
    let held = given_back store.mode front store.held (drop from store.order) in
    ap (λ (s : Store). extend_cells s cells) (cut_is store from) ∙ extend_cells_is (grown store front held) cells
