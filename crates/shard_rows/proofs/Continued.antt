-- An order that goes on behind a front of it: its cells, and their signs.
use Rattle.std.proofs.Common.{◌≡◌, ◌⊎◌, ℕ, ◌+◌, ◌<◌, ◌≤◌, List, ◌++◌, length, take, Option, Some, None, inl, inr, refl, sym, ap, ◌∙◌, arith, length-append}
use Rattle.std.specs.Prelude.{◌-◌, slice_get, option_map}
use Rattle.std.proofs.lemmas.Bool.{cases_lt}
use Rattle.std.proofs.lemmas.Option.{slice_get_within, slice_get-map}
use Rattle.list_facts.proofs.Places.{below_at}
use Rattle.rec_id.specs.Identity.{Identity}
use Rattle.rec_id.specs.declared.item.Body.{Body}
use Rattle.rec_id.specs.declared.item.Body.TheVariants.{Elsewhere, Kept, Noop, Open, Gone}
use Rattle.rec_id.specs.declared.item.Cell.{Cell}
use Rattle.lazy_rules.specs.WorldRules.{ids_in}
use Rattle.log_facts.specs.Signs.{IsPiece, IsSignPiece, Sign, Void, sign_in, sign_of, sort_of}
use Rattle.log_facts.proofs.Places.{IsBehind, at_append, at_left, at_right, take_at}

-- ---- a cell by its sign, and by its identity
pub record HasCell (order : List Cell) (place : ℕ) (sign : Sign) : Type 0 where
  pub cell : Cell
  pub stands : slice_get order place ≡ Some cell
  pub signed : sign_of cell ≡ sign

pub signed_cell : (order : List Cell) (place : ℕ) (sign : Sign) → sign_in order place ≡ Some sign → HasCell order place sign
signed_cell order place sign h = by (slice_get order place) refl h
  where
    by : (o : Option Cell) → slice_get order place ≡ o → option_map sign_of o ≡ Some sign → HasCell order place sign
    by None e f = cc
    by (Some cell) e f = record { cell = cell; stands = e; signed = let is : Some (sign_of cell) ≡ Some sign = f in cc }

pub record NamesCell (order : List Cell) (place : ℕ) (id : Identity) : Type 0 where
  pub cell : Cell
  pub stands : slice_get order place ≡ Some cell
  pub named : cell.id ≡ id

pub named_cell : (order : List Cell) (place : ℕ) (id : Identity) → option_map (λ (cell : Cell). cell.id) (slice_get order place) ≡ Some id → NamesCell order place id
named_cell order place id h = by (slice_get order place) refl h
  where
    by : (o : Option Cell) → slice_get order place ≡ o → option_map (λ (cell : Cell). cell.id) o ≡ Some id → NamesCell order place id
    by None e f = cc
    by (Some cell) e f = record { cell = cell; stands = e; named = let is : Some cell.id ≡ Some id = f in cc }

pub void_noop : (body : Body) → sort_of body ≡ Void → body ≡ Noop
void_noop Noop e = refl
void_noop Elsewhere e = cc
void_noop (Kept bytes) e = cc
void_noop Open e = cc
void_noop Gone e = cc

-- the identity of a cell of a piece
pub piece_id : (line : List Identity) (from : ℕ) (cells : List Cell) → IsPiece line from (ids_in cells) → (k : ℕ) (cell : Cell) → slice_get cells k ≡ Some cell → slice_get line (from + k) ≡ Some cell.id
piece_id line from cells piece k cell e = piece k cell.id (slice_get-map (λ (c : Cell). c.id) cells k ∙ ap (option_map (λ (c : Cell). c.id)) e)

-- a piece lies within
pub piece_within : (order : List Cell) (from : ℕ) (cells : List Cell) → IsSignPiece order from cells → from ≤ length order → from + length cells ≤ length order
piece_within order from cells piece le = by (cases_lt (length order) (from + length cells))
  where
    by : (length order < from + length cells) ⊎ (from + length cells ≤ length order) → from + length cells ≤ length order
    by (inr within) = within
    by (inl beyond) = there (below_at cells (length order - from) (omega arith))
      where
        there : (x : Cell) × (slice_get cells (length order - from) ≡ Some x) → from + length cells ≤ length order
        there one =
            let cell = signed_cell order (from + (length order - from)) (sign_of one.0) (piece (length order - from) one.0 one.1) in
            let within = slice_get_within order (from + (length order - from)) cell.cell cell.stands in
            absurd (omega arith)

-- ---- an order of a front and of cells behind it
module _ (order front cells : List Cell) (is : order ≡ front ++ cells) where
  pub whole_length : length order ≡ length front + length cells
  whole_length = ap (λ (xs : List Cell). length xs) is ∙ length-append front cells

  pub whole_left : (place : ℕ) (cell : Cell) → slice_get front place ≡ Some cell → slice_get order place ≡ Some cell
  whole_left place cell e = ap (λ (xs : List Cell). slice_get xs place) is ∙ at_left front cells place cell e

  pub whole_right : (k : ℕ) (cell : Cell) → slice_get cells k ≡ Some cell → slice_get order (length front + k) ≡ Some cell
  whole_right k cell e = ap (λ (xs : List Cell). slice_get xs (length front + k)) is ∙ at_right front cells k cell e

  pub whole_cases : (place : ℕ) (cell : Cell) → slice_get order place ≡ Some cell → ((place < length front) × (slice_get front place ≡ Some cell)) ⊎ IsBehind front cells place cell
  whole_cases place cell e = at_append front cells place cell (ap (λ (xs : List Cell). slice_get xs place) (sym is) ∙ e)

  pub whole_same : (place : ℕ) → place < length front → slice_get order place ≡ slice_get front place
  whole_same place lt = let one = below_at front place lt in whole_left place one.0 one.1 ∙ sym one.1

-- the front of an order
pub front_same : (n : ℕ) (order : List Cell) (place : ℕ) → n ≤ length order → place < n → slice_get (take n order) place ≡ slice_get order place
front_same n order place le lt = let one = below_at order place (omega arith) in take_at n order place one.0 lt one.1 ∙ sym one.1
