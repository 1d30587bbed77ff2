-- What is held after a cut, and beside cells that came after it.
use Rattle.std.proofs.Common.{◌≡◌, ℕ, List, [], ◌∷◌, ◌++◌, Bool, true, false, cond, not, ◌||◌, ◌&&◌, Option, Some, None, take, drop, subst, sym, ap, ◌∙◌, refl}
use Rattle.std.specs.Prelude.{is_some}
use Rattle.std.specs.Option.{option_or}
use Rattle.std.specs.List.{list_any}
use Rattle.std.proofs.lemmas.Bool.{or_parts, true≢false}
use Rattle.std.proofs.lemmas.List.{append_assoc, take-append-drop}
use Rattle.rec_id.specs.Identity.{Identity}
use Rattle.rec_id.specs.declared.item.Body.{Body}
use Rattle.rec_id.specs.declared.item.Body.TheVariants.{Elsewhere, Kept, Noop, Open, Gone}
use Rattle.rec_id.specs.declared.item.Cell.{Cell}
use Rattle.rec_id.specs.Identity.{same_id}
use Rattle.lazy_rules.specs.Store.{held_bytes, without_held, held_beside, kept_bytes, bytes_in, has_data, is_cell_of}
use Rattle.shard_store.specs.Kinds.{is_kept}
use Rattle.shard_store.specs.Settling.{has_in, held_after, held_again, held_again_all, held_beside_all, given_back, bytes_back, settled, settled_all}
use Rattle.view_config.specs.declared.edition.Mode.{Mode}
use Rattle.view_config.specs.declared.edition.Mode.TheVariants.{M, St}
use Rattle.shard_store.proofs.Extensions.{Pairs}
use Rattle.shard_store.proofs.Identities.{same_is}

or_none : {X : Type 0} (x : Option X) → option_or x None ≡ x
or_none None = refl
or_none (Some x) = refl

-- ---- a record's data in held records
bytes_without : (held : Pairs) (gone id : Identity) → held_bytes (without_held held gone) id ≡ cond (same_id gone id) None (held_bytes held id)
bytes_without [] gone id = by_test (same_id gone id)
  where
    by_test : (b : Bool) → held_bytes [] id ≡ cond b None (held_bytes [] id)
    by_test true = refl
    by_test false = refl
bytes_without (x ∷ xs) gone id = by_test (same_id x.0 gone) refl (bytes_without xs gone id)
  where
    -- the first record is taken out, and so is not this one unless the other is
    out : (same again : Bool) → same_id x.0 id ≡ same → same_id gone id ≡ same → held_bytes (without_held xs gone) id ≡ cond same None (held_bytes xs id)
        → held_bytes (without_held xs gone) id ≡ cond same None (cond same (Some x.1) (held_bytes xs id))
    out true again first second rest = rest
    out false again first second rest = rest

    kept : (same here : Bool) → same_id x.0 id ≡ here → same_id gone id ≡ same → same_id x.0 gone ≡ false → held_bytes (without_held xs gone) id ≡ cond same None (held_bytes xs id)
        → cond here (Some x.1) (held_bytes (without_held xs gone) id) ≡ cond same None (cond here (Some x.1) (held_bytes xs id))
    kept true true first second apart rest = absurd (true≢false (sym (subst (λ (one : Identity). same_id x.0 one ≡ true) (sym (same_is gone id second)) first) ∙ apart))
    kept true false first second apart rest = rest
    kept false true first second apart rest = refl
    kept false false first second apart rest = rest

    by_test : (b : Bool) → same_id x.0 gone ≡ b → held_bytes (without_held xs gone) id ≡ cond (same_id gone id) None (held_bytes xs id)
        → held_bytes (cond (not b) (x ∷ without_held xs gone) (without_held xs gone)) id ≡ cond (same_id gone id) None (held_bytes (x ∷ xs) id)
    by_test true is rest =
        let one : same_id x.0 id ≡ same_id gone id = ap (λ (a : Identity). same_id a id) (same_is x.0 gone is) in
        out (same_id gone id) true one refl rest ∙ ap (λ (b : Bool). cond (same_id gone id) None (cond b (Some x.1) (held_bytes xs id))) (sym one)
    by_test false is rest = kept (same_id gone id) (same_id x.0 id) refl refl is rest

bytes_push : (held : Pairs) (last id : Identity) (bytes : List ℕ) → held_bytes (held ++ (last, bytes) ∷ []) id ≡ option_or (held_bytes held id) (cond (same_id last id) (Some bytes) None)
bytes_push [] last id bytes = refl
bytes_push (x ∷ xs) last id bytes = by_test (same_id x.0 id) (bytes_push xs last id bytes)
  where
    by_test : (b : Bool) → held_bytes (xs ++ (last, bytes) ∷ []) id ≡ option_or (held_bytes xs id) (cond (same_id last id) (Some bytes) None)
        → cond b (Some x.1) (held_bytes (xs ++ (last, bytes) ∷ []) id) ≡ option_or (cond b (Some x.1) (held_bytes xs id)) (cond (same_id last id) (Some bytes) None)
    by_test true rest = refl
    by_test false rest = rest

-- ---- beside cells that came
pub bytes_beside : (held : Pairs) (cells : List Cell) (id : Identity) → held_bytes (held_beside_all held cells) id ≡ cond (list_any (is_cell_of is_kept id) cells) None (held_bytes held id)
bytes_beside held [] id = refl
bytes_beside held (cell ∷ cells) id = bytes_beside (held_after held cell) cells id ∙ by_body cell.body
  where
    by_test : (same later : Bool) → cond later None (cond same None (held_bytes held id)) ≡ cond (same || later) None (held_bytes held id)
    by_test true true = refl
    by_test true false = refl
    by_test false true = refl
    by_test false false = refl

    pass : (same : Bool) → cond (list_any (is_cell_of is_kept id) cells) None (held_bytes held id) ≡ cond ((same && false) || list_any (is_cell_of is_kept id) cells) None (held_bytes held id)
    pass true = refl
    pass false = refl

    keep : (same : Bool) → cond (list_any (is_cell_of is_kept id) cells) None (cond same None (held_bytes held id)) ≡ cond ((same && true) || list_any (is_cell_of is_kept id) cells) None (held_bytes held id)
    keep true = by_test true (list_any (is_cell_of is_kept id) cells)
    keep false = by_test false (list_any (is_cell_of is_kept id) cells)

    by_body : (body : Body) → cond (list_any (is_cell_of is_kept id) cells) None (held_bytes (held_beside body held cell.id) id)
        ≡ cond ((same_id cell.id id && is_kept body) || list_any (is_cell_of is_kept id) cells) None (held_bytes held id)
    by_body Elsewhere = pass (same_id cell.id id)
    by_body (Kept bytes) = ap (λ (x : Option (List ℕ)). cond (list_any (is_cell_of is_kept id) cells) None x) (bytes_without held cell.id id) ∙ keep (same_id cell.id id)
    by_body Noop = pass (same_id cell.id id)
    by_body Open = pass (same_id cell.id id)
    by_body Gone = pass (same_id cell.id id)

pub beside_push : (held : Pairs) (cells : List Cell) (cell : Cell) → held_beside_all held (cells ++ cell ∷ []) ≡ held_after (held_beside_all held cells) cell
beside_push held [] cell = refl
beside_push held (x ∷ xs) cell = beside_push (held_after held x) xs cell

-- ---- after a cut
pub bytes_again : (front : List Cell) (held : Pairs) (tail : List Cell) (id : Identity)
    → held_bytes (held_again_all front held tail) id ≡ option_or (held_bytes held id) (cond (list_any (is_cell_of has_data id) front) None (kept_bytes tail id))
bytes_again front held [] id = sym (by_test (list_any (is_cell_of has_data id) front))
  where
    by_test : (b : Bool) → option_or (held_bytes held id) (cond b None None) ≡ held_bytes held id
    by_test true = or_none (held_bytes held id)
    by_test false = or_none (held_bytes held id)
bytes_again front held (cell ∷ tail) id =
    bytes_again front (held_again front held cell.id (bytes_in cell.body)) tail id ∙ by_bytes (bytes_in cell.body)
  where
    rest : Option (List ℕ)
    rest = kept_bytes tail id

    there : (bytes : List ℕ) (same : Bool) → same_id cell.id id ≡ same → has_in front held cell.id ≡ true
        → option_or (held_bytes held id) (cond (list_any (is_cell_of has_data id) front) None rest)
        ≡ option_or (held_bytes held id) (cond (list_any (is_cell_of has_data id) front) None (cond same (option_or (Some bytes) rest) rest))
    there bytes false is had = refl
    there bytes true is had = cases (held_bytes held id) (list_any (is_cell_of has_data id) front)
        (subst (λ (one : Identity). has_in front held one ≡ true) (same_is cell.id id is) had)
      where
        cases : (x : Option (List ℕ)) (b : Bool) → (is_some x || b) ≡ true → option_or x (cond b None rest) ≡ option_or x (cond b None (Some bytes))
        cases (Some y) b had = refl
        cases None true had = refl
        cases None false had = let wrong : false ≡ true = had in absurd cc

    new : (bytes : List ℕ) (same : Bool) → same_id cell.id id ≡ same → has_in front held cell.id ≡ false
        → option_or (option_or (held_bytes held id) (cond same (Some bytes) None)) (cond (list_any (is_cell_of has_data id) front) None rest)
        ≡ option_or (held_bytes held id) (cond (list_any (is_cell_of has_data id) front) None (cond same (option_or (Some bytes) rest) rest))
    new bytes false is had = ap (λ (x : Option (List ℕ)). option_or x (cond (list_any (is_cell_of has_data id) front) None rest)) (or_none (held_bytes held id))
    new bytes true is had = cases (held_bytes held id) (list_any (is_cell_of has_data id) front)
        (subst (λ (one : Identity). has_in front held one ≡ false) (same_is cell.id id is) had)
      where
        cases : (x : Option (List ℕ)) (b : Bool) → (is_some x || b) ≡ false → option_or (option_or x (Some bytes)) (cond b None rest) ≡ option_or x (cond b None (Some bytes))
        cases (Some y) b had = let wrong : true ≡ false = had in absurd cc
        cases None true had = let wrong : true ≡ false = had in absurd cc
        cases None false had = refl

    by_has : (bytes : List ℕ) (b : Bool) → has_in front held cell.id ≡ b
        → option_or (held_bytes (cond b held (held ++ (cell.id, bytes) ∷ [])) id) (cond (list_any (is_cell_of has_data id) front) None rest)
        ≡ option_or (held_bytes held id) (cond (list_any (is_cell_of has_data id) front) None (cond (same_id cell.id id) (option_or (Some bytes) rest) rest))
    by_has bytes true is = there bytes (same_id cell.id id) refl is
    by_has bytes false is =
        ap (λ (x : Option (List ℕ)). option_or x (cond (list_any (is_cell_of has_data id) front) None rest)) (bytes_push held cell.id id bytes)
        ∙ new bytes (same_id cell.id id) refl is

    none : (same : Bool) → option_or (held_bytes held id) (cond (list_any (is_cell_of has_data id) front) None rest)
        ≡ option_or (held_bytes held id) (cond (list_any (is_cell_of has_data id) front) None (cond same rest rest))
    none true = refl
    none false = refl

    by_bytes : (bytes : Option (List ℕ)) → option_or (held_bytes (held_again front held cell.id bytes) id) (cond (list_any (is_cell_of has_data id) front) None rest)
        ≡ option_or (held_bytes held id) (cond (list_any (is_cell_of has_data id) front) None (cond (same_id cell.id id) (option_or bytes rest) rest))
    by_bytes None = none (same_id cell.id id)
    by_bytes (Some bytes) = by_has bytes (has_in front held cell.id) refl

-- ---- what a cut leaves out
kept_behind : (front tail : List Cell) (id : Identity) → list_any (is_cell_of has_data id) front ≡ false → kept_bytes (front ++ tail) id ≡ kept_bytes tail id
kept_behind [] tail id none = refl
kept_behind (x ∷ xs) tail id none =
    let parts = or_parts (is_cell_of has_data id x) (list_any (is_cell_of has_data id) xs) none in
    by_body (same_id x.id id) x.body parts.0 (kept_behind xs tail id parts.1)
  where
    by_body : (same : Bool) (body : Body) → (same && has_data body) ≡ false → kept_bytes (xs ++ tail) id ≡ kept_bytes tail id
        → cond same (option_or (bytes_in body) (kept_bytes (xs ++ tail) id)) (kept_bytes (xs ++ tail) id) ≡ kept_bytes tail id
    by_body false body fails rest = rest
    by_body true Elsewhere fails rest = rest
    by_body true (Kept bytes) fails rest = let wrong : true ≡ false = fails in absurd cc
    by_body true Noop fails rest = rest
    by_body true Open fails rest = rest
    by_body true Gone fails rest = rest

pub kept_cut : (cells : List Cell) (from : ℕ) (id : Identity) → list_any (is_cell_of has_data id) (take from cells) ≡ false → kept_bytes cells id ≡ kept_bytes (drop from cells) id
kept_cut cells from id none =
    ap (λ (l : List Cell). kept_bytes l id) (sym (take-append-drop from cells)) ∙ kept_behind (take from cells) (drop from cells) id none

pub cut_bytes : (mode : Mode) (front : List Cell) (held : Pairs) (tail : List Cell) (id : Identity)
    → held_bytes (given_back mode front held tail) id ≡ option_or (held_bytes held id) (bytes_back mode front tail id)
cut_bytes M front held tail id = sym (or_none (held_bytes held id))
cut_bytes St front held tail id = bytes_again front held tail id

pub forecast_step : (front : List Cell) (held : Pairs) (draft : Cell) (rest : List Cell)
    → (let cell = settled (held_beside_all held front) draft in
    (front ++ cell ∷ []) ++ settled_all (held_beside_all held (front ++ cell ∷ [])) rest ≡ front ++ settled_all (held_beside_all held front) (draft ∷ rest))
forecast_step front held draft rest =
    let cell = settled (held_beside_all held front) draft in
    ap (λ (h : Pairs). (front ++ cell ∷ []) ++ settled_all h rest) (beside_push held front cell)
    ∙ append_assoc front (cell ∷ []) (settled_all (held_after (held_beside_all held front) cell) rest)
