-- Held records as the kept cells of an order: finding one, taking it out, and one more.
use Rattle.std.proofs.Common.{◌≡◌, ℕ, suc, zero, drop, None, add-one, ◌+◌, ◌<◌, List, [], ◌∷◌, ◌++◌, Bool, true, false, not, cond, Option, ◌&&◌, Some, length, get_or, subst, sym, ap, ◌∙◌, refl, arith}
use Rattle.std.specs.List.{position_or_len, slice_get}
use Rattle.std.specs.Option.{option_or}
use Rattle.std.proofs.Math.ListN.{set}
use Rattle.std.proofs.lemmas.Option.{slice_get-get_or, slice_get_within}
use Rattle.std.proofs.lemmas.List.{append_assoc}
use Rattle.std.proofs.lemmas.Bool.{and_parts, not-true}
use Rattle.rec_id.specs.Identity.{Identity}
use Rattle.rec_id.specs.declared.item.Cell.{Cell}
use Rattle.rec_id.specs.declared.item.Body.{Body}
use Rattle.rec_id.specs.declared.item.Body.TheVariants.{Kept, Elsewhere, Open, Noop, Gone}
use Rattle.rec_id.specs.Identity.{same_id}
use Rattle.lazy_rules.specs.Store.{held_bytes, without_held, kept_bytes, is_cell_of, bytes_in, given_up, given_up_cell}
use Rattle.shard_store.specs.Links.{blank}
use Rattle.shard_store.specs.Kinds.{is_kept}
use Rattle.shard_store.specs.Holding.{is_held, is_distinct, record_in, records_in}
use Rattle.shard_store.proofs.Identities.{same_is}
use Rattle.shard_store.proofs.Holdings.{Pair, absent_without}

pub held_is_kept : (cells : List Cell) (id : Identity) → held_bytes (records_in cells) id ≡ kept_bytes cells id
held_is_kept [] id = refl
held_is_kept (x ∷ xs) id = by_body x.body (same_id x.id id) (held_is_kept xs id)
  where
    one : (t : Bool) → kept_bytes xs id ≡ cond t (kept_bytes xs id) (kept_bytes xs id)
    one true = refl
    one false = refl

    by_body : (body : Body) (s : Bool) → held_bytes (records_in xs) id ≡ kept_bytes xs id
        → held_bytes (record_in x.id body ++ records_in xs) id ≡ cond (same_id x.id id) (option_or (bytes_in body) (kept_bytes xs id)) (kept_bytes xs id)
    by_body (Kept b) s rest = ap (λ (r : Option (List ℕ)). cond (same_id x.id id) (Some b) r) rest
    by_body Elsewhere s rest = rest ∙ one (same_id x.id id)
    by_body Open s rest = rest ∙ one (same_id x.id id)
    by_body Noop s rest = rest ∙ one (same_id x.id id)
    by_body Gone s rest = rest ∙ one (same_id x.id id)

pub records_in-append : (xs ys : List Cell) → records_in (xs ++ ys) ≡ records_in xs ++ records_in ys
records_in-append [] ys = refl
records_in-append (x ∷ xs) ys = by_body x.body (records_in-append xs ys)
  where
    by_body : (body : Body) → records_in (xs ++ ys) ≡ records_in xs ++ records_in ys → record_in x.id body ++ records_in (xs ++ ys) ≡ (record_in x.id body ++ records_in xs) ++ records_in ys
    by_body (Kept b) rest = ap (λ (l : List Pair). (x.id, b) ∷ l) rest
    by_body Elsewhere rest = rest
    by_body Open rest = rest
    by_body Noop rest = rest
    by_body Gone rest = rest

abbrev place_in : List Cell → Identity → ℕ
place_in cells id = position_or_len (is_cell_of is_kept id) cells

-- the first kept cell of the record is given up
pub given_is_without : (cells : List Cell) (id : Identity) → is_distinct (records_in cells) ≡ true → place_in cells id < length cells
    → records_in (set cells (place_in cells id) (given_up_cell (get_or cells (place_in cells id) blank))) ≡ without_held (records_in cells) id
given_is_without [] id distinct inside = absurd (omega arith)
given_is_without (x ∷ xs) id distinct inside = by_body (given_is_without xs id) x.body refl distinct inside
  where
    later : (is_distinct (records_in xs) ≡ true → place_in xs id < length xs → records_in (set xs (place_in xs id) (given_up_cell (get_or xs (place_in xs id) blank))) ≡ without_held (records_in xs) id) → place_in xs id < length xs → is_distinct (records_in xs) ≡ true
        → records_in (set (x ∷ xs) (1 + place_in xs id) (given_up_cell (get_or (x ∷ xs) (1 + place_in xs id) blank))) ≡ record_in x.id x.body ++ without_held (records_in xs) id
    later more below alone =
        let up : 1 + place_in xs id ≡ suc (place_in xs id) = omega arith in
        rw up (ap (λ (l : List Pair). record_in x.id x.body ++ l) (more alone below))

    by_test : (is_distinct (records_in xs) ≡ true → place_in xs id < length xs → records_in (set xs (place_in xs id) (given_up_cell (get_or xs (place_in xs id) blank))) ≡ without_held (records_in xs) id) → (s : Bool) (b : List ℕ) → same_id x.id id ≡ s → x.body ≡ Kept b → is_distinct ((x.id, b) ∷ records_in xs) ≡ true
        → cond (not (s && true)) (1 + place_in xs id) 0 < suc (length xs)
        → records_in (set (x ∷ xs) (cond (not (s && true)) (1 + place_in xs id) 0) (given_up_cell (get_or (x ∷ xs) (cond (not (s && true)) (1 + place_in xs id) 0) blank)))
        ≡ cond (not s) ((x.id, b) ∷ without_held (records_in xs) id) (without_held (records_in xs) id)
    by_test more true b same is alone inside =
        let parts = and_parts (not (is_held (records_in xs) x.id)) (is_distinct (records_in xs)) alone in
        let absent : is_held (records_in xs) id ≡ false = subst (λ (one : Identity). is_held (records_in xs) one ≡ false) (same_is x.id id same) (not-true (is_held (records_in xs) x.id) parts.0) in
        ap (λ (body : Body). record_in x.id (given_up body) ++ records_in xs) is ∙ sym (absent_without (records_in xs) id absent)
    by_test more false b same is alone inside =
        let parts = and_parts (not (is_held (records_in xs) x.id)) (is_distinct (records_in xs)) alone in
        later more (omega arith) parts.1 ∙ ap (λ (body : Body). record_in x.id body ++ without_held (records_in xs) id) is

    skipped : (is_distinct (records_in xs) ≡ true → place_in xs id < length xs → records_in (set xs (place_in xs id) (given_up_cell (get_or xs (place_in xs id) blank))) ≡ without_held (records_in xs) id) → (s : Bool) (body : Body) → record_in x.id body ≡ [] → x.body ≡ body → is_distinct (records_in xs) ≡ true
        → cond (not (s && false)) (1 + place_in xs id) 0 < suc (length xs)
        → records_in (set (x ∷ xs) (cond (not (s && false)) (1 + place_in xs id) 0) (given_up_cell (get_or (x ∷ xs) (cond (not (s && false)) (1 + place_in xs id) 0) blank)))
        ≡ without_held (records_in xs) id
    skipped more true body none is alone inside = later more (omega arith) alone ∙ ap (λ (other : Body). record_in x.id other ++ without_held (records_in xs) id) is ∙ ap (λ (l : List Pair). l ++ without_held (records_in xs) id) none
    skipped more false body none is alone inside = later more (omega arith) alone ∙ ap (λ (other : Body). record_in x.id other ++ without_held (records_in xs) id) is ∙ ap (λ (l : List Pair). l ++ without_held (records_in xs) id) none

    by_body : (is_distinct (records_in xs) ≡ true → place_in xs id < length xs → records_in (set xs (place_in xs id) (given_up_cell (get_or xs (place_in xs id) blank))) ≡ without_held (records_in xs) id) → (body : Body) → x.body ≡ body → is_distinct (record_in x.id body ++ records_in xs) ≡ true
        → cond (not (same_id x.id id && is_kept body)) (1 + place_in xs id) 0 < suc (length xs)
        → records_in (set (x ∷ xs) (cond (not (same_id x.id id && is_kept body)) (1 + place_in xs id) 0) (given_up_cell (get_or (x ∷ xs) (cond (not (same_id x.id id && is_kept body)) (1 + place_in xs id) 0) blank)))
        ≡ without_held (record_in x.id body ++ records_in xs) id
    by_body more (Kept b) is alone inside = by_test more (same_id x.id id) b refl is alone inside
    by_body more Elsewhere is alone inside = skipped more (same_id x.id id) Elsewhere refl is alone inside
    by_body more Open is alone inside = skipped more (same_id x.id id) Open refl is alone inside
    by_body more Noop is alone inside = skipped more (same_id x.id id) Noop refl is alone inside
    by_body more Gone is alone inside = skipped more (same_id x.id id) Gone refl is alone inside

-- the record of one cell, and those of the cells behind it, whatever that cell becomes
pub records_from : (cells : List Cell) (place : ℕ) (now : Cell) → place < length cells
    → records_in (drop place cells) ≡ record_in (get_or cells place blank).id (get_or cells place blank).body ++ records_in (drop (suc place) (set cells place now))
records_from [] place now inside = absurd (omega arith)
records_from (x ∷ xs) zero now inside = refl
records_from (x ∷ xs) (suc place) now inside = records_from xs place now (omega arith)

record_of : (id : Identity) (body : Body) (bytes : List ℕ) → bytes_in body ≡ Some bytes → record_in id body ≡ (id, bytes) ∷ []
record_of id (Kept b) bytes is = let same : b ≡ bytes = cc in ap (λ (l : List ℕ). (id, l) ∷ []) same
record_of id Elsewhere bytes is = absurd cc
record_of id Open bytes is = absurd cc
record_of id Noop bytes is = absurd cc
record_of id Gone bytes is = absurd cc

no_record : (id : Identity) (body : Body) → bytes_in body ≡ None → record_in id body ≡ []
no_record id (Kept b) is = absurd cc
no_record id Elsewhere is = refl
no_record id Open is = refl
no_record id Noop is = refl
no_record id Gone is = refl

module _ (to from : List Cell) (place : ℕ) where
  pub moved : (cell : Cell) (bytes : List ℕ) (now : Cell) → slice_get from place ≡ Some cell → bytes_in (get_or from place blank).body ≡ Some bytes
      → records_in (to ++ (record { id = cell.id; body = Kept bytes }) ∷ []) ++ records_in (drop (place + 1) (set from place now)) ≡ records_in to ++ records_in (drop place from)
  moved cell bytes now read is =
      let inside : place < length from = slice_get_within from place cell read in
      let there : Some cell ≡ Some (get_or from place blank) = sym read ∙ slice_get-get_or from place blank inside in
      let same : cell ≡ get_or from place blank = cc in
      let rest = records_in (drop (suc place) (set from place now)) in
      let one : record_in (get_or from place blank).id (get_or from place blank).body ≡ (cell.id, bytes) ∷ [] =
      record_of (get_or from place blank).id (get_or from place blank).body bytes is ∙ ap (λ (c : Cell). (c.id, bytes) ∷ []) (sym same) in
      rw (add-one place) (
      ap (λ (l : List Pair). l ++ rest) (records_in-append to ((record { id = cell.id; body = Kept bytes }) ∷ []))
      ∙ append_assoc (records_in to) ((cell.id, bytes) ∷ []) rest
      ∙ ap (λ (l : List Pair). records_in to ++ (l ++ rest)) (sym one)
      ∙ ap (λ (l : List Pair). records_in to ++ l) (sym (records_from from place now inside)))

  pub passed : (now cell : Cell) → slice_get from place ≡ Some cell → bytes_in (get_or from place blank).body ≡ None
      → records_in to ++ records_in (drop (place + 1) (set from place now)) ≡ records_in to ++ records_in (drop place from)
  passed now cell read is =
      let inside : place < length from = slice_get_within from place cell read in
      let rest = records_in (drop (suc place) (set from place now)) in
      rw (add-one place) (ap (λ (l : List Pair). records_in to ++ l)
      (ap (λ (l : List Pair). l ++ rest) (sym (no_record (get_or from place blank).id (get_or from place blank).body is)) ∙ sym (records_from from place now inside)))
