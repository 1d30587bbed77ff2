-- What a store has after cells were added behind its order.
use Rattle.std.proofs.Common.{◌≡◌, ◌≢◌, ◌⊎◌, ℕ, List, [], ◌∷◌, ◌++◌, cond, Bool, true, false, not, Some, None, inl, inr, refl, sym, ap, ◌∙◌, subst, append-nil}
use Rattle.std.proofs.lemmas.List.{append_assoc}
use Rattle.std.specs.Prelude.{is_some, ◌||◌, ◌&&◌}
use Rattle.std.specs.List.{list_any}
use Rattle.std.proofs.Math.Bool.{or-true}
use Rattle.std.proofs.lemmas.Bool.{and_parts, or_cases}
use Rattle.list_facts.specs.Lists.{In}
use Rattle.list_facts.proofs.Cases.{by_test}
use Rattle.list_facts.proofs.Members.{filter_in, in_filter, in_last, in_left, in_passes}
use Rattle.rec_id.specs.Identity.{Identity, same_id}
use Rattle.rec_id.specs.declared.item.Body.{Body}
use Rattle.rec_id.specs.declared.item.Body.TheVariants.{Elsewhere, Kept, Noop, Open, Gone}
use Rattle.rec_id.specs.declared.item.Cell.{Cell}
use Rattle.lazy_rules.specs.Store.{Store, extend_cells, has, has_data, held_beside, held_bytes, is_cell_of, with_cell}
use Rattle.log_facts.proofs.Identities.{same_is, is_same}

-- all but the order and what is held
pub record SameBut (x y : Store) : Type 0 where
  pub mode : y.mode ≡ x.mode
  pub shard : y.shard ≡ x.shard
  pub shards : y.shards ≡ x.shards
  pub stable : y.stable ≡ x.stable
  pub floor : y.floor ≡ x.floor

pub extend_same : (cells : List Cell) (x : Store) → SameBut x (extend_cells x cells)
extend_same [] x = record { mode = refl; shard = refl; shards = refl; stable = refl; floor = refl }
extend_same (cell ∷ cells) x =
    let more = extend_same cells (with_cell x cell) in
    record { mode = more.mode; shard = more.shard; shards = more.shards; stable = more.stable; floor = more.floor }

pub extend_order : (cells : List Cell) (x : Store) → (extend_cells x cells).order ≡ x.order ++ cells
extend_order [] x = sym (append-nil x.order)
extend_order (cell ∷ cells) x = extend_order cells (with_cell x cell) ∙ append_assoc x.order (cell ∷ []) cells

-- ---- what is held
held_beside_less : (body : Body) (held : List (Identity × List ℕ)) (id : Identity) (one : Identity × List ℕ) → In one (held_beside body held id) → In one held
held_beside_less (Kept bytes) held id one i = (in_filter (λ (other : Identity × List ℕ). not (same_id other.0 id)) held one i).0
held_beside_less Elsewhere held id one i = i
held_beside_less Noop held id one i = i
held_beside_less Open held id one i = i
held_beside_less Gone held id one i = i

pub extend_held : (cells : List Cell) (x : Store) (one : Identity × List ℕ) → In one (extend_cells x cells).held → In one x.held
extend_held [] x one i = i
extend_held (cell ∷ cells) x one i = held_beside_less cell.body x.held cell.id one (extend_held cells (with_cell x cell) one i)

-- nothing is held of a record
pub none_held : (held : List (Identity × List ℕ)) (id : Identity) → held_bytes held id ≡ None → (one : Identity × List ℕ) → In one held → one.0 ≢ id
none_held [] id none one i is = absurd i
none_held (first ∷ others) id none one i is = by (λ e k. none_held others id e one k is) i (same_id first.0 id) refl none
  where
    by : (held_bytes others id ≡ None → In one others → ⊥) → (first ≡ one) ⊎ In one others → (b : Bool) → same_id first.0 id ≡ b → cond b (Some first.1) (held_bytes others id) ≡ None → ⊥
    by rest i true e f = cc
    by rest (inl same) false e f =
        let one_is : first.0 ≡ id = ap (λ (x : Identity × List ℕ). x.0) same ∙ is in
        let yes : same_id first.0 id ≡ true = ap (λ (x : Identity). same_id x id) one_is ∙ is_same id in
        let wrong : true ≡ false = sym yes ∙ e in cc
    by rest (inr i) false e f = rest f i

pub held_none : (held : List (Identity × List ℕ)) (id : Identity) → ((one : Identity × List ℕ) → In one held → one.0 ≢ id) → held_bytes held id ≡ None
held_none [] id f = refl
held_none (first ∷ others) id f = by (held_none others id (λ one i. f one (inr i))) (same_id first.0 id) refl
  where
    by : held_bytes others id ≡ None → (b : Bool) → same_id first.0 id ≡ b → cond b (Some first.1) (held_bytes others id) ≡ None
    by rest true e = absurd (f first (inl refl) (same_is first.0 id e))
    by rest false e = rest

pub extend_none : (cells : List Cell) (x : Store) (id : Identity) → held_bytes x.held id ≡ None → held_bytes (extend_cells x cells).held id ≡ None
extend_none cells x id none = held_none (extend_cells x cells).held id (λ one i. none_held x.held id none one (extend_held cells x one i))

-- ---- whose data is there
abbrev pub IsThere : Store → Identity → Type 0
IsThere x id = ((one : Identity × List ℕ) × (In one x.held) × (one.0 ≡ id)) ⊎ ((cell : Cell) × (In cell x.order) × (cell.id ≡ id) × (has_data cell.body ≡ true))

held_one : (held : List (Identity × List ℕ)) (id : Identity) → is_some (held_bytes held id) ≡ true → (one : Identity × List ℕ) × (In one held) × (one.0 ≡ id)
held_one [] id h = cc
held_one (first ∷ others) id h = by (λ e. held_one others id e) (same_id first.0 id) refl h
  where
    by : (is_some (held_bytes others id) ≡ true → (one : Identity × List ℕ) × (In one others) × (one.0 ≡ id)) → (b : Bool) → same_id first.0 id ≡ b → is_some (cond b (Some first.1) (held_bytes others id)) ≡ true → (one : Identity × List ℕ) × (In one (first ∷ others)) × (one.0 ≡ id)
    by rest true e f = (first, inl refl, same_is first.0 id e)
    by rest false e f = let k = rest f in (k.0, inr k.1, k.2)

one_held : (held : List (Identity × List ℕ)) (id : Identity) (one : Identity × List ℕ) → In one held → one.0 ≡ id → is_some (held_bytes held id) ≡ true
one_held [] id one i is = absurd i
one_held (first ∷ others) id one i is = by (λ k. one_held others id one k is) i (same_id first.0 id) refl
  where
    by : (In one others → is_some (held_bytes others id) ≡ true) → (first ≡ one) ⊎ In one others → (b : Bool) → same_id first.0 id ≡ b → is_some (cond b (Some first.1) (held_bytes others id)) ≡ true
    by rest i true e = refl
    by rest (inl same) false e =
        let one_is : first.0 ≡ id = ap (λ (x : Identity × List ℕ). x.0) same ∙ is in
        let yes : same_id first.0 id ≡ true = ap (λ (x : Identity). same_id x id) one_is ∙ is_same id in
        let wrong : true ≡ false = sym yes ∙ e in cc
    by rest (inr i) false e = rest i

pub has_there : (x : Store) (id : Identity) → has x id ≡ true → IsThere x id
has_there x id h = elim (or_cases (is_some (held_bytes x.held id)) (list_any (is_cell_of has_data id) x.order) h) [
  | inl held ↦ inl (held_one x.held id held)
  | inr kept ↦
      let one = in_passes (is_cell_of has_data id) x.order kept in
      let parts = and_parts (same_id one.0.id id) (has_data one.0.body) one.2 in
      inr (one.0, one.1, same_is one.0.id id parts.0, parts.1)
]

some_passes : {A : Type 0} (p : A → Bool) (xs : List A) (x : A) → In x xs → p x ≡ true → list_any p xs ≡ true
some_passes p [] x i passes = absurd i
some_passes p (z ∷ zs) x (inl e) passes = ap (λ (b : Bool). b || list_any p zs) (ap p e ∙ passes)
some_passes p (z ∷ zs) x (inr i) passes = ap (λ (b : Bool). p z || b) (some_passes p zs x i passes) ∙ or-true (p z)

pub there_has : (x : Store) (id : Identity) → IsThere x id → has x id ≡ true
there_has x id (inl one) = ap (λ (b : Bool). b || list_any (is_cell_of has_data id) x.order) (one_held x.held id one.0 one.1 one.2)
there_has x id (inr cell) =
    let same : same_id cell.0.id id ≡ true = ap (λ (k : Identity). same_id k id) cell.2 ∙ is_same id in
    let passes : is_cell_of has_data id cell.0 ≡ true = ap (λ (b : Bool). b && has_data cell.0.body) same ∙ cell.3 in
    ap (λ (b : Bool). is_some (held_bytes x.held id) || b) (some_passes (is_cell_of has_data id) x.order cell.0 cell.1 passes) ∙ or-true (is_some (held_bytes x.held id))

with_there : (x : Store) (cell : Cell) (id : Identity) → IsThere x id → IsThere (with_cell x cell) id
with_there x cell id (inr kept) = inr (kept.0, in_left kept.0 x.order (cell ∷ []) kept.1, kept.2, kept.3)
with_there x cell id (inl one) = by cell.body refl
  where
    there : In one.0 (with_cell x cell).held → IsThere (with_cell x cell) id
    there i = inl (one.0, i, one.2)

    by : (body : Body) → cell.body ≡ body → IsThere (with_cell x cell) id
    by (Kept bytes) e = by_test (same_id one.0.0 cell.id)
        (λ same. inr (cell, in_last cell x.order, sym (same_is one.0.0 cell.id same) ∙ one.2, ap has_data e))
        (λ other. there (subst (λ (b : Body). In one.0 (held_beside b x.held cell.id)) (sym e) (filter_in (λ (k : Identity × List ℕ). not (same_id k.0 cell.id)) x.held one.0 one.1 (ap not other))))
    by Elsewhere e = there (subst (λ (b : Body). In one.0 (held_beside b x.held cell.id)) (sym e) one.1)
    by Noop e = there (subst (λ (b : Body). In one.0 (held_beside b x.held cell.id)) (sym e) one.1)
    by Open e = there (subst (λ (b : Body). In one.0 (held_beside b x.held cell.id)) (sym e) one.1)
    by Gone e = there (subst (λ (b : Body). In one.0 (held_beside b x.held cell.id)) (sym e) one.1)

pub extend_there : (cells : List Cell) (x : Store) (id : Identity) → IsThere x id → IsThere (extend_cells x cells) id
extend_there [] x id h = h
extend_there (cell ∷ cells) x id h = extend_there cells (with_cell x cell) id (with_there x cell id h)
