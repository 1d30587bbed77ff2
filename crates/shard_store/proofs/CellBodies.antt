-- Cells that get another body: open ones that close, kept ones that are given up.
use Rattle.std.proofs.Common.{◌≡◌, ◌⊎◌, ℕ, suc, zero, ◌+◌, ◌<◌, ◌≤◌, List, [], ◌∷◌, Bool, true, false, not, cond, eqb, ltb, Some, None, length, get_or, map, take, drop, subst, inl, inr, sym, ap, ◌∙◌, refl, arith}
use Rattle.std.specs.List.{position, position_or_len, filter, remove, slice_get}
use Rattle.std.proofs.Math.ListN.{set, length-set}
use Rattle.std.proofs.lemmas.Bool.{cases_eq, cases_lt, eq-eqb, ne_eqb, lt-ltb, le-ltb, cond-true, cond-false}
use Rattle.std.proofs.lemmas.List.{get_or-set_same, get_or-set_other, length-append, length-take, length-drop}
use Rattle.rec_id.specs.declared.item.Body.{Body}
use Rattle.rec_id.specs.declared.item.Body.TheVariants.{Elsewhere, Kept, Noop, Open, Gone}
use Rattle.rec_id.specs.declared.item.Cell.{Cell}
use Rattle.lazy_rules.specs.Store.{is_open, closed, closed_cell, given_up, given_up_cell}
use Rattle.shard_store.specs.Links.{blank, bucket, tag_in, IsLinked}
use Rattle.shard_store.specs.Places.{open_from, IsIndexed, IsGivenUp, IsClosing}
use Rattle.shard_store.proofs.LinkLemmas.{linked_same}

abbrev pub is_open_cell : Cell → Bool
is_open_cell cell = is_open cell.body

-- ---- the first open place
pub none_open : (n : ℕ) (cells : List Cell) → open_from n cells ≡ [] → position is_open_cell cells ≡ None
none_open n cells none = cond-false (ltb (position_or_len is_open_cell cells) (length cells)) (Some (position_or_len is_open_cell cells)) None (le-ltb _ _ (past n cells none))
  where
    past : (n : ℕ) (cells : List Cell) → open_from n cells ≡ [] → length cells ≤ position_or_len is_open_cell cells
    past n [] none = omega arith
    past n (x ∷ xs) none = by_test (is_open x.body) (past (n + 1) xs) none
      where
        by_test : (b : Bool) → (open_from (n + 1) xs ≡ [] → length xs ≤ position_or_len is_open_cell xs) → cond b (n ∷ open_from (n + 1) xs) (open_from (n + 1) xs) ≡ []
            → suc (length xs) ≤ cond (not b) (1 + position_or_len is_open_cell xs) 0
        by_test true rest none = let wrong : n ∷ open_from (n + 1) xs ≡ [] = none in absurd cc
        by_test false rest none = omega (arith, rest none)

pub record IsFirstOpen (n : ℕ) (cells : List Cell) (place : ℕ) : Type 0 where
  pub is : place ≡ n + position_or_len is_open_cell cells
  pub inside : position_or_len is_open_cell cells < length cells

pub some_open : (n : ℕ) (cells : List Cell) (place : ℕ) (rest : List ℕ) → open_from n cells ≡ place ∷ rest → IsFirstOpen n cells place
some_open n [] place rest some = let wrong : [] ≡ place ∷ rest = some in absurd cc
some_open n (x ∷ xs) place rest some = by_test (is_open x.body) refl (some_open (n + 1) xs place rest) some
  where
    by_test : (b : Bool) → is_open x.body ≡ b → (open_from (n + 1) xs ≡ place ∷ rest → IsFirstOpen (n + 1) xs place)
        → cond b (n ∷ open_from (n + 1) xs) (open_from (n + 1) xs) ≡ place ∷ rest → IsFirstOpen n (x ∷ xs) place
    by_test true is later some =
        let here : n ≡ place = cc in
        let first : position_or_len is_open_cell (x ∷ xs) ≡ 0 = ap (λ (b : Bool). cond (not b) (1 + position_or_len is_open_cell xs) 0) is in
        record { is = omega (arith, here, first); inside = omega (arith, first) }
    by_test false is later some =
        let first : position_or_len is_open_cell (x ∷ xs) ≡ 1 + position_or_len is_open_cell xs = ap (λ (b : Bool). cond (not b) (1 + position_or_len is_open_cell xs) 0) is in
        let facts = later some in
        record { is = omega (arith, facts.is, first); inside = omega (arith, facts.inside, first) }

pub first_open_is : (cells : List Cell) (place : ℕ) (rest : List ℕ) → open_from 0 cells ≡ place ∷ rest → Some place ≡ position is_open_cell cells
first_open_is cells place rest some =
    let facts = some_open 0 cells place rest some in
    let is : place ≡ position_or_len is_open_cell cells = omega (arith, facts.is) in
    ap Some is ∙ sym (cond-true (ltb (position_or_len is_open_cell cells) (length cells)) (Some (position_or_len is_open_cell cells)) None (lt-ltb _ _ facts.inside))

pub open_first : (cells : List Cell) → position_or_len is_open_cell cells < length cells → is_open (get_or cells (position_or_len is_open_cell cells) blank).body ≡ true
open_first [] inside = absurd (omega arith)
open_first (x ∷ xs) inside = by_test (is_open x.body) refl (open_first xs) inside
  where
    by_test : (b : Bool) → is_open x.body ≡ b → (position_or_len is_open_cell xs < length xs → is_open (get_or xs (position_or_len is_open_cell xs) blank).body ≡ true)
        → cond (not b) (1 + position_or_len is_open_cell xs) 0 < suc (length xs)
        → is_open (get_or (x ∷ xs) (cond (not b) (1 + position_or_len is_open_cell xs) 0) blank).body ≡ true
    by_test true is rest inside = is
    by_test false is rest inside =
        let up : 1 + position_or_len is_open_cell xs ≡ suc (position_or_len is_open_cell xs) = omega arith in
        rw up (rest (omega arith))

-- ---- one open cell closes
pub closed_one : (n : ℕ) (cells : List Cell) (k : ℕ) (cell : Cell) → k < length cells → is_open (get_or cells k blank).body ≡ true → is_open cell.body ≡ false
    → open_from n (set cells k cell) ≡ remove (open_from n cells) (position_or_len (λ (other : ℕ). eqb other (n + k)) (open_from n cells))
closed_one n [] k cell inside opened shut = absurd (omega arith)
closed_one n (x ∷ xs) zero cell inside opened shut =
    let here : eqb n (n + 0) ≡ true = eq-eqb n (n + 0) (omega arith) in
    rw (opened, shut, here) refl
closed_one n (x ∷ xs) (suc k) cell inside opened shut = by_test (is_open x.body) (closed_one (n + 1) xs k cell (omega arith) opened shut)
  where
    other : eqb n (n + suc k) ≡ false
    other = ne_eqb n (n + suc k) (λ same. absurd (omega arith))

    later : n + 1 + k ≡ n + suc k
    later = omega arith

    by_test : (b : Bool) → open_from (n + 1) (set xs k cell) ≡ remove (open_from (n + 1) xs) (position_or_len (λ (other : ℕ). eqb other (n + 1 + k)) (open_from (n + 1) xs))
        → cond b (n ∷ open_from (n + 1) (set xs k cell)) (open_from (n + 1) (set xs k cell))
        ≡ remove (cond b (n ∷ open_from (n + 1) xs) (open_from (n + 1) xs)) (position_or_len (λ (other : ℕ). eqb other (n + suc k)) (cond b (n ∷ open_from (n + 1) xs) (open_from (n + 1) xs)))
    by_test true rest =
        let moved = subst (λ (m : ℕ). open_from (n + 1) (set xs k cell) ≡ remove (open_from (n + 1) xs) (position_or_len (λ (other : ℕ). eqb other m) (open_from (n + 1) xs))) later rest in
        let up : 1 + position_or_len (λ (other : ℕ). eqb other (n + suc k)) (open_from (n + 1) xs) ≡ suc (position_or_len (λ (other : ℕ). eqb other (n + suc k)) (open_from (n + 1) xs)) = omega arith in
        rw (other, up) (ap (λ (l : List ℕ). n ∷ l) moved)
    by_test false rest =
        subst (λ (m : ℕ). open_from (n + 1) (set xs k cell) ≡ remove (open_from (n + 1) xs) (position_or_len (λ (other : ℕ). eqb other m) (open_from (n + 1) xs))) later rest

-- ---- an order whose cells keep their identities
pub indexed_bodies : (cells changed : List Cell) (heads before opens still_open : List ℕ) (spare cell_room before_room open_room : ℕ)
    → IsIndexed cells heads before opens spare cell_room before_room open_room → length changed ≡ length cells
    → ((k : ℕ) → k < length cells → (get_or changed k blank).id ≡ (get_or cells k blank).id)
    → still_open ≡ open_from 0 changed → length still_open ≤ length opens
    → IsIndexed changed heads before still_open spare cell_room before_room open_room
indexed_bodies cells changed heads before opens still_open spare cell_room before_room open_room indexed same_len same_id still fewer =
    let linked : IsLinked (tag_in (length heads) changed) heads before (length cells) =
    linked_same (tag_in (length heads) cells) (tag_in (length heads) changed) heads before (length cells)
    (λ k below. ap (bucket (length heads)) (sym (same_id k below))) indexed.linked in
    record {
      linked = subst (λ (n : ℕ). IsLinked (tag_in (length heads) changed) heads before n) (sym same_len) linked;
      before_len = indexed.before_len ∙ sym same_len;
      open_is = still;
      short = omega (arith, indexed.short);
      bucket_room = omega (arith, indexed.bucket_room);
      cell_room_is = omega (arith, indexed.cell_room_is);
      before_room_is = omega (arith, indexed.before_room_is);
      open_room_is = omega (arith, indexed.open_room_is);
    }

pub first_open_place : (opens : List ℕ) (cells : List Cell) → opens ≡ open_from 0 cells → slice_get opens 0 ≡ position is_open_cell cells
first_open_place [] cells is = sym (none_open 0 cells (sym is))
first_open_place (place ∷ rest) cells is = first_open_is cells place rest (sym is)

-- ---- all open cells close, from the first on
open_is : (body : Body) → is_open body ≡ true → body ≡ Open
open_is Elsewhere opened = let wrong : false ≡ true = opened in absurd cc
open_is (Kept bytes) opened = let wrong : false ≡ true = opened in absurd cc
open_is Noop opened = let wrong : false ≡ true = opened in absurd cc
open_is Open opened = refl
open_is Gone opened = let wrong : false ≡ true = opened in absurd cc

abbrev pub noop_of : Cell → Cell
noop_of cell = record { id = cell.id; body = Noop }

closed_noop : (cell : Cell) → is_open cell.body ≡ true → closed_cell (noop_of cell) ≡ closed_cell cell
closed_noop cell opened = ap (λ (body : Body). let made : Cell = record { id = cell.id; body = closed body } in made) (sym (open_is cell.body opened))

map_set : (cells : List Cell) (k : ℕ) (cell : Cell) → k < length cells → closed_cell cell ≡ closed_cell (get_or cells k blank)
    → map closed_cell (set cells k cell) ≡ map closed_cell cells
map_set [] k cell inside same = refl
map_set (x ∷ xs) zero cell inside same = ap (λ (c : Cell). c ∷ map closed_cell xs) same
map_set (x ∷ xs) (suc k) cell inside same = ap (λ (l : List Cell). closed_cell x ∷ l) (map_set xs k cell (omega arith) same)

module _ (before now : List Cell) (place : ℕ) (rest : List ℕ) (closing : IsClosing before now (place ∷ rest)) where
  first : IsFirstOpen 0 now place
  first = some_open 0 now place rest closing.left

  is : place ≡ position_or_len is_open_cell now
  is = omega (arith, first.is)

  pub closing_inside : place < length now
  closing_inside = omega (arith, is, first.inside)

  opened : is_open (get_or now place blank).body ≡ true
  opened = ap (λ (k : ℕ). is_open (get_or now k blank).body) is ∙ open_first now first.inside

  same_id_set : (k : ℕ) → (get_or (set now place (noop_of (get_or now place blank))) k blank).id ≡ (get_or now k blank).id
  same_id_set k = elim (cases_eq k place) [
    | inl here ↦
        ap (λ (j : ℕ). (get_or (set now place (noop_of (get_or now place blank))) j blank).id) here
        ∙ ap (λ (c : Cell). c.id) (get_or-set_same now place (noop_of (get_or now place blank)) blank closing_inside)
        ∙ ap (λ (j : ℕ). (get_or now j blank).id) (sym here)
    | inr other ↦ ap (λ (c : Cell). c.id) (get_or-set_other now place k (noop_of (get_or now place blank)) blank other)
  ]

  pub closing_step : IsClosing before (set now place (noop_of (get_or now place blank))) rest
  closing_step = record {
    len = length-set now place (noop_of (get_or now place blank)) ∙ closing.len;
    ids = λ k. same_id_set k ∙ closing.ids k;
    left =
        let here : eqb place (0 + place) ≡ true = eq-eqb place (0 + place) (omega arith) in
        let removed = closed_one 0 now place (noop_of (get_or now place blank)) closing_inside opened refl in
        removed ∙ ap (λ (l : List ℕ). remove l (position_or_len (λ (other : ℕ). eqb other (0 + place)) l)) closing.left ∙ rw here refl;
    same = map_set now place (noop_of (get_or now place blank)) closing_inside (closed_noop (get_or now place blank) opened) ∙ closing.same;
  }

none_to_close : (n : ℕ) (cells : List Cell) → open_from n cells ≡ [] → map closed_cell cells ≡ cells
none_to_close n [] none = refl
none_to_close n (x ∷ xs) none = by_body x.body refl (none_to_close (n + 1) xs) none
  where
    by_body : (body : Body) → x.body ≡ body → (open_from (n + 1) xs ≡ [] → map closed_cell xs ≡ xs)
        → cond (is_open body) (n ∷ open_from (n + 1) xs) (open_from (n + 1) xs) ≡ []
        → (let made : Cell = record { id = x.id; body = closed body } in made) ∷ map closed_cell xs ≡ (let made : Cell = record { id = x.id; body = body } in made) ∷ xs
    by_body Elsewhere is rest none = ap (λ (l : List Cell). (let made : Cell = record { id = x.id; body = Elsewhere } in made) ∷ l) (rest none)
    by_body (Kept bytes) is rest none = ap (λ (l : List Cell). (let made : Cell = record { id = x.id; body = Kept bytes } in made) ∷ l) (rest none)
    by_body Noop is rest none = ap (λ (l : List Cell). (let made : Cell = record { id = x.id; body = Noop } in made) ∷ l) (rest none)
    by_body Open is rest none = let wrong : n ∷ open_from (n + 1) xs ≡ [] = none in absurd cc
    by_body Gone is rest none = ap (λ (l : List Cell). (let made : Cell = record { id = x.id; body = Gone } in made) ∷ l) (rest none)

pub closing_end : (before now : List Cell) → IsClosing before now [] → now ≡ map closed_cell before
closing_end before now closing = sym (none_to_close 0 now closing.left) ∙ closing.same

pub length-open_from : (n : ℕ) (cells : List Cell) → length (open_from n cells) ≡ length (filter is_open_cell cells)
length-open_from n [] = refl
length-open_from n (x ∷ xs) = by_test (is_open x.body) (length-open_from (n + 1) xs)
  where
    by_test : (b : Bool) → length (open_from (n + 1) xs) ≡ length (filter is_open_cell xs)
        → length (cond b (n ∷ open_from (n + 1) xs) (open_from (n + 1) xs)) ≡ length (cond b (x ∷ filter is_open_cell xs) (filter is_open_cell xs))
    by_test true rest = ap suc rest
    by_test false rest = rest

length-remove_le : (xs : List ℕ) (i : ℕ) → length (remove xs i) ≤ length xs
length-remove_le xs i = omega (arith, length-append (take i xs) (drop (suc i) xs), length-take i xs, length-drop (suc i) xs)

same_id_at : (cells : List Cell) (place : ℕ) (body : Body) (k : ℕ) → place < length cells
    → (get_or (set cells place (let made : Cell = record { id = (get_or cells place blank).id; body = body } in made)) k blank).id ≡ (get_or cells k blank).id
same_id_at cells place body k inside =
    let cell : Cell = record { id = (get_or cells place blank).id; body = body } in
    elim (cases_eq k place) [
      | inl here ↦
          ap (λ (j : ℕ). (get_or (set cells place cell) j blank).id) here
          ∙ ap (λ (c : Cell). c.id) (get_or-set_same cells place cell blank inside)
          ∙ ap (λ (j : ℕ). (get_or cells j blank).id) (sym here)
      | inr other ↦ ap (λ (c : Cell). c.id) (get_or-set_other cells place k cell blank other)
    ]

module _ (cells : List Cell) (heads before opens : List ℕ) (spare cell_room before_room open_room : ℕ) (indexed : IsIndexed cells heads before opens spare cell_room before_room open_room) where
  pub indexed_closed : (place : ℕ) (body : Body) → place < length cells → is_open (get_or cells place blank).body ≡ true → is_open body ≡ false
      → IsIndexed (set cells place (record { id = (get_or cells place blank).id; body = body })) heads before
      (remove opens (position_or_len (λ (other : ℕ). eqb other place) opens)) spare cell_room before_room open_room
  indexed_closed place body inside opened shut =
      let cell : Cell = record { id = (get_or cells place blank).id; body = body } in
      let still = remove opens (position_or_len (λ (other : ℕ). eqb other place) opens) in
      let there : 0 + place ≡ place = omega arith in
      let removed : open_from 0 (set cells place cell) ≡ remove (open_from 0 cells) (position_or_len (λ (other : ℕ). eqb other (0 + place)) (open_from 0 cells)) =
      closed_one 0 cells place cell inside opened shut in
      let is : still ≡ open_from 0 (set cells place cell) =
      ap (λ (l : List ℕ). remove l (position_or_len (λ (other : ℕ). eqb other place) l)) indexed.open_is
      ∙ ap (λ (k : ℕ). remove (open_from 0 cells) (position_or_len (λ (other : ℕ). eqb other k) (open_from 0 cells))) (sym there) ∙ sym removed in
      indexed_bodies cells (set cells place cell) heads before opens still spare cell_room before_room open_room indexed (length-set cells place cell)
      (λ k below. same_id_at cells place body k inside) is (length-remove_le opens (position_or_len (λ (other : ℕ). eqb other place) opens))

  pub indexed_all_closed : (now : List Cell) → IsClosing cells now [] → IsIndexed now heads before [] spare cell_room before_room open_room
  indexed_all_closed now closing =
      indexed_bodies cells now heads before opens [] spare cell_room before_room open_room indexed closing.len (λ k below. closing.ids k) (sym closing.left) (omega arith)

  pub indexed_given_up : (from to : ℕ) (now : List Cell) → to ≤ length cells → IsGivenUp from to cells now → IsIndexed now heads before opens spare cell_room before_room open_room
  indexed_given_up from to now inside given =
      indexed_bodies cells now heads before opens opens spare cell_room before_room open_room indexed given.len
      (λ k below. same_id k) (indexed.open_is ∙ same_opens 0 cells now given.len (λ k. same_open k)) (omega arith)
    where
      at : (k : ℕ) → (get_or now k blank ≡ get_or cells k blank) ⊎ (get_or now k blank ≡ given_up_cell (get_or cells k blank))
      at k = elim (cases_lt k from) [
        | inl early ↦ inl (given.below k early)
        | inr late ↦ elim (cases_lt k to) [
          | inl within ↦ inr (given.within k late within)
          | inr past ↦ inl (given.above k past)
        ]
      ]

      same_id : (k : ℕ) → (get_or now k blank).id ≡ (get_or cells k blank).id
      same_id k = elim (at k) [
        | inl same ↦ ap (λ (c : Cell). c.id) same
        | inr gone ↦ ap (λ (c : Cell). c.id) gone
      ]

      open_given : (body : Body) → is_open (given_up body) ≡ is_open body
      open_given Elsewhere = refl
      open_given (Kept bytes) = refl
      open_given Noop = refl
      open_given Open = refl
      open_given Gone = refl

      same_open : (k : ℕ) → is_open (get_or cells k blank).body ≡ is_open (get_or now k blank).body
      same_open k = elim (at k) [
        | inl same ↦ ap (λ (c : Cell). is_open c.body) (sym same)
        | inr gone ↦ sym (ap (λ (c : Cell). is_open c.body) gone ∙ open_given (get_or cells k blank).body)
      ]

      same_opens : (n : ℕ) (xs ys : List Cell) → length ys ≡ length xs → ((k : ℕ) → is_open (get_or xs k blank).body ≡ is_open (get_or ys k blank).body) → open_from n xs ≡ open_from n ys
      same_opens n [] [] count same = refl
      same_opens n [] (y ∷ ys) count same = absurd (omega arith)
      same_opens n (x ∷ xs) [] count same = absurd (omega arith)
      same_opens n (x ∷ xs) (y ∷ ys) count same =
          ap (λ (b : Bool). cond b (n ∷ open_from (n + 1) xs) (open_from (n + 1) xs)) (same 0)
          ∙ ap (λ (l : List ℕ). cond (is_open y.body) (n ∷ l) l) (same_opens (n + 1) xs ys (omega arith) (λ k. same (suc k)))

-- ---- kept data is given up, place by place
pub open_few : (n : ℕ) (cells : List Cell) → length (open_from n cells) ≤ length cells
open_few n [] = omega arith
open_few n (x ∷ xs) = by_test (is_open x.body) (open_few (n + 1) xs)
  where
    by_test : (b : Bool) → length (open_from (n + 1) xs) ≤ length xs → length (cond b (n ∷ open_from (n + 1) xs) (open_from (n + 1) xs)) ≤ suc (length xs)
    by_test true rest = omega arith
    by_test false rest = omega arith

pub given_one : (cells : List Cell) (place : ℕ) → place < length cells → IsGivenUp place (place + 1) cells (set cells place (given_up_cell (get_or cells place blank)))
given_one cells place inside =
    let cell = given_up_cell (get_or cells place blank) in
    record {
      len = length-set cells place cell;
      within = λ k from to.
          let here : k ≡ place = omega arith in
          ap (λ (n : ℕ). get_or (set cells place cell) n blank) here ∙ get_or-set_same cells place cell blank inside ∙ ap (λ (n : ℕ). given_up_cell (get_or cells n blank)) (sym here);
      below = λ k early. get_or-set_other cells place k cell blank (λ same. omega (arith, same));
      above = λ k late. get_or-set_other cells place k cell blank (λ same. omega (arith, same));
    }
