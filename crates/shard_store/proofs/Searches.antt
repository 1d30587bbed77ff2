-- What the first place of a kind tells of the whole order.
use Rattle.std.proofs.Common.{◌≡◌, ℕ, suc, ◌+◌, ◌<◌, List, [], ◌∷◌, Bool, true, false, not, cond, ◌&&◌, Option, Some, None, length, get_or, sym, ap, ◌∙◌, refl, arith}
use Rattle.std.specs.Prelude.{is_some}
use Rattle.std.specs.Option.{option_map, option_or, IfSome}
use Rattle.std.specs.Bool.{IsTrue}
use Rattle.std.specs.List.{position, position_or_len, list_any, slice_get}
use Rattle.std.proofs.lemmas.Bool.{and_parts, or_parts}
use Rattle.std.proofs.lemmas.List.Quantifiers.{position-Some}
use Rattle.std.proofs.lemmas.Option.{slice_get-get_or}
use Rattle.rec_id.specs.Identity.{Identity}
use Rattle.rec_id.specs.declared.item.Body.{Body}
use Rattle.rec_id.specs.declared.item.Body.TheVariants.{Elsewhere, Kept, Noop, Open, Gone}
use Rattle.rec_id.specs.declared.item.Cell.{Cell}
use Rattle.rec_id.specs.Identity.{same_id}
use Rattle.lazy_rules.specs.Store.{is_cell_of, is_open, bytes_in, kept_bytes}
use Rattle.shard_store.specs.Kinds.{is_kept}
use Rattle.shard_store.specs.Links.{blank}
use Rattle.shard_store.specs.Sound.{is_open_in, is_open_at}
use Rattle.list_facts.proofs.Positions.{position_some, none_passes}

pub is_some_map : {A B : Type 0} (f : A → B) (x : Option A) → is_some (option_map f x) ≡ is_some x
is_some_map f None = refl
is_some_map f (Some a) = refl

-- ---- the data of the first kept cell
kept_there : (cells : List Cell) (id : Identity) → position_or_len (is_cell_of is_kept id) cells < length cells
    → bytes_in (get_or cells (position_or_len (is_cell_of is_kept id) cells) blank).body ≡ kept_bytes cells id
kept_there [] id inside = absurd (omega arith)
kept_there (x ∷ xs) id inside = by_test (same_id x.id id) x.body refl (kept_there xs id) inside
  where
    by_test : (same : Bool) (body : Body) → x.body ≡ body → (position_or_len (is_cell_of is_kept id) xs < length xs → bytes_in (get_or xs (position_or_len (is_cell_of is_kept id) xs) blank).body ≡ kept_bytes xs id)
        → cond (not (same && is_kept body)) (1 + position_or_len (is_cell_of is_kept id) xs) 0 < suc (length xs)
        → bytes_in (get_or (x ∷ xs) (cond (not (same && is_kept body)) (1 + position_or_len (is_cell_of is_kept id) xs) 0) blank).body
        ≡ cond same (option_or (bytes_in body) (kept_bytes xs id)) (kept_bytes xs id)
    by_test false body is rest inside =
        let up : 1 + position_or_len (is_cell_of is_kept id) xs ≡ suc (position_or_len (is_cell_of is_kept id) xs) = omega arith in
        rw up (rest (omega arith))
    by_test true Elsewhere is rest inside =
        let up : 1 + position_or_len (is_cell_of is_kept id) xs ≡ suc (position_or_len (is_cell_of is_kept id) xs) = omega arith in
        rw up (rest (omega arith))
    by_test true (Kept bytes) is rest inside = ap bytes_in is
    by_test true Noop is rest inside =
        let up : 1 + position_or_len (is_cell_of is_kept id) xs ≡ suc (position_or_len (is_cell_of is_kept id) xs) = omega arith in
        rw up (rest (omega arith))
    by_test true Open is rest inside =
        let up : 1 + position_or_len (is_cell_of is_kept id) xs ≡ suc (position_or_len (is_cell_of is_kept id) xs) = omega arith in
        rw up (rest (omega arith))
    by_test true Gone is rest inside =
        let up : 1 + position_or_len (is_cell_of is_kept id) xs ≡ suc (position_or_len (is_cell_of is_kept id) xs) = omega arith in
        rw up (rest (omega arith))

pub kept_found : (cells : List Cell) (id : Identity) (place : ℕ) (cell : Cell) → Some place ≡ position (is_cell_of is_kept id) cells → slice_get cells place ≡ Some cell
    → bytes_in cell.body ≡ kept_bytes cells id
kept_found cells id place cell found read =
    let facts = position_some (is_cell_of is_kept id) cells place found in
    let there : Some cell ≡ Some (get_or cells place blank) = sym read ∙ slice_get-get_or cells place blank (omega (arith, facts.0, facts.1)) in
    let is : cell ≡ get_or cells place blank = cc in
    ap (λ (c : Cell). bytes_in c.body) is ∙ ap (λ (k : ℕ). bytes_in (get_or cells k blank).body) facts.1 ∙ kept_there cells id facts.0

kept_nowhere : (cells : List Cell) (id : Identity) → list_any (is_cell_of is_kept id) cells ≡ false → kept_bytes cells id ≡ None
kept_nowhere [] id none = refl
kept_nowhere (x ∷ xs) id none =
    let parts = or_parts (is_cell_of is_kept id x) (list_any (is_cell_of is_kept id) xs) none in
    by_test (same_id x.id id) x.body parts.0 (kept_nowhere xs id parts.1)
  where
    by_test : (same : Bool) (body : Body) → (same && is_kept body) ≡ false → kept_bytes xs id ≡ None → cond same (option_or (bytes_in body) (kept_bytes xs id)) (kept_bytes xs id) ≡ None
    by_test false body fails rest = rest
    by_test true Elsewhere fails rest = rest
    by_test true (Kept bytes) fails rest = let wrong : true ≡ false = fails in absurd cc
    by_test true Noop fails rest = rest
    by_test true Open fails rest = rest
    by_test true Gone fails rest = rest

pub kept_none : (cells : List Cell) (id : Identity) → None ≡ position (is_cell_of is_kept id) cells → kept_bytes cells id ≡ None
kept_none cells id missing = kept_nowhere cells id (none_passes (is_cell_of is_kept id) cells missing)

-- ---- the first open cell of a record is open
pub first_is_open : (cells : List Cell) (id : Identity) (found : Option ℕ) → found ≡ position (is_cell_of is_open id) cells → IfSome found (λ place. IsTrue (is_open_at cells place))
first_is_open cells id None is = tt
first_is_open cells id (Some place) is =
    let facts = position-Some (is_cell_of is_open id) cells place blank (sym is) in
    let open_ = (and_parts (same_id (get_or cells place blank).id id) (is_open (get_or cells place blank).body) facts.1).1 in
    ap is_open_in (slice_get-get_or cells place blank facts.0) ∙ open_
