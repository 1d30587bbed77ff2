-- Cells that a rule looks for: the first that passes a test, and that there is none.
use Rattle.std.proofs.Common.{◌≡◌, ◌≢◌, ℕ, suc, ◌+◌, ◌<◌, List, [], ◌∷◌, cond, length, not, Bool, Some, None, inl, inr, refl, sym, ◌∙◌, ap, subst, arith, true, false}
use Rattle.std.specs.Prelude.{◌||◌, slice_get}
use Rattle.std.specs.List.{list_any, position, position_or_len}
use Rattle.std.proofs.lemmas.Bool.{and_parts}
use Rattle.list_facts.specs.Lists.{In}
use Rattle.list_facts.proofs.Places.{in_at}
use Rattle.list_facts.proofs.Positions.{none_passes, position_some}
use Rattle.rec_id.specs.Identity.{Identity, same_id}
use Rattle.rec_id.specs.declared.item.Body.{Body}
use Rattle.rec_id.specs.declared.item.Body.TheVariants.{Elsewhere, Kept, Noop, Open, Gone}
use Rattle.rec_id.specs.declared.item.Cell.{Cell}
use Rattle.lazy_rules.specs.ShardState.{ShardState}
use Rattle.lazy_rules.specs.Store.{is_cell_of, is_noop, is_open, noop_at, open_at}
use Rattle.log_facts.specs.Signs.{Sign, Void, sort_of}
use Rattle.log_facts.specs.facts.OfData.{IsVoidAt}
use Rattle.log_facts.proofs.Identities.{is_same, same_is}
use Rattle.shard_rows.proofs.Placing.{cell_at, none_pass}

module _ {A : Type 0} (p : A → Bool) where
  first_at : (xs : List A) → position_or_len p xs < length xs → (x : A) × (slice_get xs (position_or_len p xs) ≡ Some x) × (p x ≡ true)
  first_at [] lt = absurd (omega arith)
  first_at (z ∷ zs) lt = by (λ inside. first_at zs inside) (p z) refl lt
    where
      by : (position_or_len p zs < length zs → (x : A) × (slice_get zs (position_or_len p zs) ≡ Some x) × (p x ≡ true)) → (b : Bool) → p z ≡ b → cond (not b) (1 + position_or_len p zs) 0 < suc (length zs)
          → (x : A) × (slice_get (z ∷ zs) (cond (not b) (1 + position_or_len p zs) 0) ≡ Some x) × (p x ≡ true)
      by rest true e lt = (z, refl, e)
      by rest false e lt =
          let later = rest (omega arith) in
          let same : suc (position_or_len p zs) ≡ 1 + position_or_len p zs = omega arith in
          (later.0, subst (λ (n : ℕ). slice_get (z ∷ zs) n ≡ Some later.0) same later.1, later.2)

  pub found_at : (xs : List A) (i : ℕ) → position p xs ≡ Some i → (x : A) × (slice_get xs i ≡ Some x) × (p x ≡ true)
  found_at xs i h =
      let found = position_some p xs i (sym h) in
      let one = first_at xs found.0 in
      (one.0, subst (λ (n : ℕ). slice_get xs n ≡ Some one.0) (sym found.1) one.1, one.2)

  pub any_in : (xs : List A) (x : A) → In x xs → p x ≡ true → list_any p xs ≡ true
  any_in [] x i h = absurd i
  any_in (z ∷ zs) x (inl e) h = rw (ap p e ∙ h) refl
  any_in (z ∷ zs) x (inr i) h = or_second (p z) (list_any p zs) (any_in zs x i h)
    where
      or_second : (b c : Bool) → c ≡ true → (b || c) ≡ true
      or_second true c e = refl
      or_second false c e = e

noop_void : (body : Body) → sort_of body ≡ Void → is_noop body ≡ true
noop_void Noop h = refl
noop_void Elsewhere h = cc
noop_void (Kept bytes) h = cc
noop_void Open h = cc
noop_void Gone h = cc

pub open_is : (body : Body) → is_open body ≡ true → body ≡ Open
open_is Open h = refl
open_is Elsewhere h = cc
open_is (Kept bytes) h = cc
open_is Noop h = cc
open_is Gone h = cc

pub noop_is : (body : Body) → is_noop body ≡ true → body ≡ Noop
noop_is Noop h = refl
noop_is Elsewhere h = cc
noop_is (Kept bytes) h = cc
noop_is Open h = cc
noop_is Gone h = cc

-- a cell of this record
pub cell_of : (test : Body → Bool) (id : Identity) (cell : Cell) → is_cell_of test id cell ≡ true → (cell.id ≡ id) × (test cell.body ≡ true)
cell_of test id cell h = let parts = and_parts (same_id cell.id id) (test cell.body) h in (same_is cell.id id parts.0, parts.1)

pub is_of : (test : Body → Bool) (id : Identity) (cell : Cell) → cell.id ≡ id → test cell.body ≡ true → is_cell_of test id cell ≡ true
is_of test id cell named passes = rw (named, is_same id, passes) refl

module _ (s : ShardState) (id : Identity) where
  -- where no no-op of the record is found there is none
  pub no_void : noop_at s.store id ≡ None → (place : ℕ) → ¬ IsVoidAt s id place
  no_void none place void =
      let found = cell_at s place (record { id = id; sort = Void }) void in
      let passes : is_cell_of is_noop id found.0 ≡ true = is_of is_noop id found.0 (ap (λ (x : Sign). x.id) found.2) (noop_void (found.0).body (ap (λ (x : Sign). x.sort) found.2)) in
      let fails : is_cell_of is_noop id found.0 ≡ false = none_pass (is_cell_of is_noop id) s.store.order (none_passes (is_cell_of is_noop id) s.store.order (sym none)) found.0 (in_at s.store.order place found.0 found.1) in
      let wrong : true ≡ false = sym passes ∙ fails in
      absurd (let no : ⊥ = cc in no)

  -- and of open cells
  pub no_open : open_at s.store id ≡ None → (place : ℕ) (cell : Cell) → slice_get s.store.order place ≡ Some cell → cell.body ≡ Open → cell.id ≢ id
  no_open none place cell at opened named =
      let passes : is_cell_of is_open id cell ≡ true = is_of is_open id cell named (ap is_open opened) in
      let fails : is_cell_of is_open id cell ≡ false = none_pass (is_cell_of is_open id) s.store.order (none_passes (is_cell_of is_open id) s.store.order (sym none)) cell (in_at s.store.order place cell at) in
      let wrong : true ≡ false = sym passes ∙ fails in
      absurd (let no : ⊥ = cc in no)
