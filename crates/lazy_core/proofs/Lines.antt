-- The log of a holder, place by place and shard by shard.
use Rattle.std.proofs.Common.{◌≡◌, ◌<◌, ◌≤◌, ◌+◌, ℕ, zero, suc, List, [], ◌∷◌, ◌++◌, length, map, take, drop, get_or, Bool, true, false, Option, Some, None, Ok, Err, refl, sym, ap, ◌∙◌, subst, arith, add-one}
use Rattle.std.specs.Prelude.{if◌then◌else◌, slice_get, slice_index_or, option_and_then, cond, nat_lt}
use Rattle.std.specs.List.{find, position}
use Rattle.std.specs.Option.{is_none, option_map_or}
use Rattle.std.proofs.lemmas.Bool.{cond-false, cond-true, le-ltb, lt-ltb}
use Rattle.std.proofs.lemmas.List.{get_or-map, length-map, length-take, map-append, take_more}
use Rattle.std.proofs.lemmas.List.Sums.{position_or_len_is}
use Rattle.std.proofs.lemmas.Option.{get_or_from_slice_get, slice_get_past, slice_get_read, slice_get_within}
use Rattle.lazy_rules.specs.ControlState.{newest}
use Rattle.std.proofs.Common.{below_more, take_all}
use Rattle.rec_id.specs.Identity.{Identity}
use Rattle.rec_id.specs.declared.entry.Entry.{Entry}
use Rattle.rec_id.specs.declared.item.Body.TheVariants.{Open}
use Rattle.rec_id.specs.declared.item.Cell.{Cell}
use Rattle.view_config.specs.Shape.{Dimensions}
use Rattle.lazy_rules.specs.Holders.{Holding, holding}
use Rattle.lazy_rules.specs.Lines.{body_at, bound_entries, bound_entry, data_of, first_alive, first_store, line_of, line_over, line_told, lost_shard, order_of, store_numbered, store_of}
use Rattle.lazy_rules.specs.Store.{Store, bytes_of}
use Rattle.lazy_rules.specs.WorldState.{WorldState}
use Rattle.lazy_core.specs.LinesOf.{AreFirst, stores_at}

-- the entries of one cell more
pub bound_more : (shape : Dimensions) (stores : List (Option Store)) (place : ℕ) (cells : List Cell) (cell : Cell) → bound_entries shape stores place (cells ++ cell ∷ []) ≡ bound_entries shape stores place cells ++ bound_entry shape stores (place + length cells) cell.id ∷ []
bound_more shape stores place [] cell = ap (λ (n : ℕ). bound_entry shape stores n cell.id ∷ []) (let e : place ≡ place + 0 = omega arith in e)
bound_more shape stores place (first ∷ cells) cell =
    ap (λ (l : List Entry). bound_entry shape stores place first.id ∷ l)
    (bound_more shape stores (place + 1) cells cell
    ∙ ap (λ (n : ℕ). bound_entries shape stores (place + 1) cells ++ bound_entry shape stores n cell.id ∷ []) (let e : (place + 1) + length cells ≡ place + length (first ∷ cells) = omega arith in e))

module _ {A : Type 0} where
  pub take_one : (xs : List A) (k : ℕ) (x : A) → slice_get xs k ≡ Some x → take (k + 1) xs ≡ take k xs ++ x ∷ []
  take_one xs k x h = rw add-one (by xs k h)
    where
      by : (ys : List A) (i : ℕ) → slice_get ys i ≡ Some x → take (suc i) ys ≡ take i ys ++ x ∷ []
      by [] i h = cc
      by (y ∷ ys) zero h = let same : y ≡ x = cc in ap (λ (z : A). z ∷ []) same
      by (y ∷ ys) (suc i) h = ap (λ (zs : List A). y ∷ zs) (by ys i h)

  pub take_length : (xs : List A) (k : ℕ) → k < length xs → length (take k xs) ≡ k
  take_length xs k h = let long = length-take k xs in omega arith

  -- the first that passes a test, of those from a place on
  pub find_from : (p : A → Bool) (xs : List A) (k : ℕ) (x : A) → slice_get xs k ≡ Some x → find p (drop k xs) ≡ (if p x then Some x else find p (drop (k + 1) xs))
  find_from p xs k x h = rw add-one (by xs k h)
    where
      by : (ys : List A) (i : ℕ) → slice_get ys i ≡ Some x → find p (drop i ys) ≡ (if p x then Some x else find p (drop (suc i) ys))
      by [] i h = cc
      by (y ∷ ys) zero h = let same : y ≡ x = cc in ap (λ (z : A). if p z then Some z else find p ys) same
      by (y ∷ ys) (suc i) h = by ys i h

  -- the first place that passes a test
  module _ (p : A → Bool) (xs : List A) (d : A) where
    pub position_at : (k : ℕ) → k < length xs → ((j : ℕ) → j < k → p (get_or xs j d) ≡ false) → p (get_or xs k d) ≡ true → position p xs ≡ Some k
    position_at k inside before here =
        let is = position_or_len_is p xs k d (omega arith) before (λ _. here) in
        ap (λ (n : ℕ). cond (nat_lt n (length xs)) (Some n) None) is ∙ cond-true (nat_lt k (length xs)) (Some k) None (lt-ltb k (length xs) inside)

    pub position_nowhere : ((j : ℕ) → j < length xs → p (get_or xs j d) ≡ false) → position p xs ≡ None
    position_nowhere none =
        let is = position_or_len_is p xs (length xs) d (omega arith) none (λ inside. absurd (omega arith)) in
        ap (λ (n : ℕ). cond (nat_lt n (length xs)) (Some n) None) is ∙ cond-false (nat_lt (length xs) (length xs)) (Some (length xs)) None (le-ltb (length xs) (length xs) (omega arith))

-- the first replica of one shard more
module _ (w : WorldState) (shards : List (List ℕ)) (first : List ℕ) where
  pub stores_more : (k node : ℕ) → k < length shards → map (first_store w) (take k shards) ≡ stores_at w first → first_alive w (get_or shards k []) ≡ Some node → map (first_store w) (take (k + 1) shards) ≡ stores_at w (first ++ node ∷ [])
  stores_more k node inside before is =
      ap (map (first_store w)) (take_more shards k [] inside)
      ∙ map-append (first_store w) (take k shards) (get_or shards k [] ∷ [])
      ∙ ap (λ (l : List (Option Store)). l ++ first_store w (get_or shards k []) ∷ []) before
      ∙ ap (λ (o : Option ℕ). stores_at w first ++ option_and_then (store_numbered w) o ∷ []) is
      ∙ sym (map-append (store_numbered w) first (node ∷ []))

-- what was read at a place, and what stands there
module _ {A : Type 0} (xs : List A) (i : ℕ) (d x : A) where
  pub read_as : i < length xs → x ≡ get_or xs i x → get_or xs i d ≡ x
  read_as inside is = get_or_from_slice_get xs i x d (slice_get_read xs (length xs) i x refl inside is)

-- the first replicas of the shards, as far as they were looked for
module _ (w : WorldState) (shards : List (List ℕ)) where
  abbrev pub HaveFirst : ℕ → Type 0
  HaveFirst count = (k : ℕ) → k < count → is_none (first_alive w (get_or shards k [])) ≡ false

  module _ (k : ℕ) (inside : k < length shards) (before : HaveFirst k) (x nodes : List ℕ) (read : x ≡ get_or shards k x) (same : nodes ≡ x) where
    stands : get_or shards k [] ≡ nodes
    stands = read_as shards k [] x inside read ∙ sym same

    pub lost_here : shards ≡ (newest w.control).shards → first_alive w nodes ≡ None → lost_shard w ≡ Some k
    lost_here all none =
        subst (λ (l : List (List ℕ)). position (λ (nodes : List ℕ). is_none (first_alive w nodes)) l ≡ Some k) all
        (position_at (λ (nodes : List ℕ). is_none (first_alive w nodes)) shards [] k inside before (ap (λ (l : List ℕ). is_none (first_alive w l)) stands ∙ ap is_none none))

    pub have_more : (node : ℕ) → first_alive w nodes ≡ Some node → HaveFirst (k + 1)
    have_more node some =
        below_more (λ (j : ℕ). is_none (first_alive w (get_or shards j [])) ≡ false) k before
        (ap (λ (l : List ℕ). is_none (first_alive w l)) stands ∙ ap is_none some)

    pub first_more : (first : List ℕ) (node : ℕ) → first_alive w nodes ≡ Some node → map (first_store w) (take k shards) ≡ stores_at w first → map (first_store w) (take (k + 1) shards) ≡ stores_at w (first ++ node ∷ [])
    first_more first node some so_far = stores_more w shards first k node inside so_far (ap (first_alive w) stands ∙ some)

  pub all_first : (first : List ℕ) (count : ℕ) → shards ≡ (newest w.control).shards → length shards ≤ count → HaveFirst count → map (first_store w) (take count shards) ≡ stores_at w first → AreFirst w first
  all_first first count all past before so_far = record {
    stores = ap (map (first_store w)) (sym all) ∙ ap (map (first_store w)) (sym (take_all count shards past)) ∙ so_far;
    kept = subst (λ (l : List (List ℕ)). position (λ (nodes : List ℕ). is_none (first_alive w nodes)) l ≡ None) all
        (position_nowhere (λ (nodes : List ℕ). is_none (first_alive w nodes)) shards [] (λ j inside. before j (omega arith)));
  }

-- the store of a shard's first replica
pub store_there : (w : WorldState) (first : List ℕ) (shard d : ℕ) → shard < length first → store_of (stores_at w first) shard ≡ store_numbered w (get_or first shard d)
store_there w first shard d inside = get_or-map (store_numbered w) first shard d None inside

nothing_past : {A : Type 0} (xs : List A) (i : ℕ) (d : A) → length xs ≤ i → slice_index_or xs i d ≡ d
nothing_past [] i d far = refl
nothing_past (x ∷ xs) zero d far = absurd (omega arith)
nothing_past (x ∷ xs) (suc i) d far = nothing_past xs i d (omega arith)

pub store_past : (w : WorldState) (first : List ℕ) (shard : ℕ) → length first ≤ shard → store_of (stores_at w first) shard ≡ None
store_past w first shard far = let long : length (stores_at w first) ≡ length first = simp length-map in nothing_past (stores_at w first) shard None (omega arith)

-- what a shard's store has
module _ (stores : List (Option Store)) (shard : ℕ) where
  pub order_in : (store : Store) → store_of stores shard ≡ Some store → order_of stores shard ≡ store.order
  order_in store is = ap (λ (o : Option Store). option_map_or (λ (s : Store). s.order) o []) is

  pub order_nowhere : store_of stores shard ≡ None → order_of stores shard ≡ []
  order_nowhere is = ap (λ (o : Option Store). option_map_or (λ (s : Store). s.order) o []) is

  module _ (place : ℕ) where
    pub body_in : (store : Store) (cell : Cell) → store_of stores shard ≡ Some store → slice_get store.order place ≡ Some cell → body_at stores shard place ≡ cell.body
    body_in store cell is here =
        ap (λ (order : List Cell). option_map_or (λ (c : Cell). c.body) (slice_get order place) Open) (order_in store is)
        ∙ ap (λ (o : Option Cell). option_map_or (λ (c : Cell). c.body) o Open) here

    pub body_past : (store : Store) → store_of stores shard ≡ Some store → length store.order ≤ place → body_at stores shard place ≡ Open
    body_past store is far =
        ap (λ (order : List Cell). option_map_or (λ (c : Cell). c.body) (slice_get order place) Open) (order_in store is)
        ∙ ap (λ (o : Option Cell). option_map_or (λ (c : Cell). c.body) o Open) (slice_get_past store.order place far)

    pub body_nowhere : store_of stores shard ≡ None → body_at stores shard place ≡ Open
    body_nowhere is = ap (λ (order : List Cell). option_map_or (λ (c : Cell). c.body) (slice_get order place) Open) (order_nowhere is)

  module _ (id : Identity) where
    pub data_in : (store : Store) → store_of stores shard ≡ Some store → data_of stores shard id ≡ bytes_of store id
    data_in store is = ap (option_and_then (λ (s : Store). bytes_of s id)) is

    pub data_nowhere : store_of stores shard ≡ None → data_of stores shard id ≡ None
    data_nowhere is = ap (option_and_then (λ (s : Store). bytes_of s id)) is

-- the entry of one bound place more
pub bound_step : (shape : Dimensions) (stores : List (Option Store)) (store : Store) (place : ℕ) (cell : Cell) (line : List Entry) (entry : Entry) → store_of stores 0 ≡ Some store → slice_get store.order place ≡ Some cell → line ≡ bound_entries shape stores 0 (take place (order_of stores 0)) → entry ≡ bound_entry shape stores place cell.id → line ++ entry ∷ [] ≡ bound_entries shape stores 0 (take (place + 1) (order_of stores 0))
bound_step shape stores store place cell line entry is there so_far made =
    let order = order_of stores 0 in
    let here : slice_get order place ≡ Some cell = subst (λ (cells : List Cell). slice_get cells place ≡ Some cell) (sym (order_in stores 0 store is)) there in
    let at : place ≡ 0 + length (take place order) = let long = take_length order place (slice_get_within order place cell here) in omega arith in
    ap (λ (l : List Entry). l ++ entry ∷ []) so_far
    ∙ ap (λ (e : Entry). bound_entries shape stores 0 (take place order) ++ e ∷ []) made
    ∙ ap (λ (n : ℕ). bound_entries shape stores 0 (take place order) ++ bound_entry shape stores n cell.id ∷ []) at
    ∙ sym (bound_more shape stores 0 (take place order) cell)
    ∙ ap (bound_entries shape stores 0) (sym (take_one order place cell here))

-- the line, from its parts
module _ (w : WorldState) (holder : ℕ) where
  pub line_is : (first : List ℕ) (held : Holding) (line : List Entry) → AreFirst w first → held ≡ holding w holder → line ≡ line_over w.shape (stores_at w first) held → line_told w holder ≡ Ok line
  line_is first held line found has is =
      ap (λ (o : Option ℕ). option_map_or Err o (Ok (line_of w holder))) found.kept
      ∙ ap (λ (stores : List (Option Store)). Ok (line_over w.shape stores (holding w holder))) found.stores
      ∙ ap (λ (h : Holding). Ok (line_over w.shape (stores_at w first) h)) (sym has)
      ∙ ap Ok (sym is)

  pub line_lost : (shard : ℕ) → lost_shard w ≡ Some shard → line_told w holder ≡ Err shard
  line_lost shard is = ap (λ (o : Option ℕ). option_map_or Err o (Ok (line_of w holder))) is
