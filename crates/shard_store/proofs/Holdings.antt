-- Held records: finding one, taking it out, and one more.
use Rattle.std.proofs.Common.{◌≡◌, ℕ, List, [], ◌∷◌, ◌++◌, Bool, true, false, not, cond, ◌||◌, Option, Some, None, ap, ◌∙◌, refl}
use Rattle.std.specs.List.{filter}
use Rattle.std.proofs.lemmas.Bool.{and_parts, and_from, or_parts, or_from, not-true, not_from_false}
use Rattle.std.proofs.lemmas.List.Folds.{list_any-append}
use Rattle.rec_id.specs.Identity.{Identity}
use Rattle.rec_id.specs.Identity.{same_id}
use Rattle.lazy_rules.specs.Store.{held_bytes, without_held, held_beside, filled_or_open}
use Rattle.shard_store.specs.Holding.{is_held, is_distinct}
use Rattle.shard_store.proofs.Identities.{apart_turned}

abbrev pub Pair : Type 0
Pair = Identity × List ℕ

-- ---- a record that isn't held
pub absent_without : (held : List Pair) (id : Identity) → is_held held id ≡ false → without_held held id ≡ held
absent_without [] id absent = refl
absent_without (x ∷ xs) id absent =
    let parts = or_parts (same_id x.0 id) (is_held xs id) absent in
    rw parts.0 (ap (λ (l : List Pair). x ∷ l) (absent_without xs id parts.1))

pub no_bytes_absent : (held : List Pair) (id : Identity) → held_bytes held id ≡ None → is_held held id ≡ false
no_bytes_absent [] id none = refl
no_bytes_absent (x ∷ xs) id none = by_test (same_id x.0 id) (no_bytes_absent xs id) none
  where
    by_test : (b : Bool) → (held_bytes xs id ≡ None → is_held xs id ≡ false) → cond b (Some x.1) (held_bytes xs id) ≡ None → (b || is_held xs id) ≡ false
    by_test true rest none = let wrong : Some x.1 ≡ None = none in absurd cc
    by_test false rest none = rest none

-- ---- distinct records
pub distinct_push : (held : List Pair) (id : Identity) (bytes : List ℕ) → is_distinct held ≡ true → is_held held id ≡ false → is_distinct (held ++ (id, bytes) ∷ []) ≡ true
distinct_push [] id bytes distinct new = refl
distinct_push (x ∷ xs) id bytes distinct new =
    let parts = and_parts (not (is_held xs x.0)) (is_distinct xs) distinct in
    let apart = or_parts (same_id x.0 id) (is_held xs id) new in
    let last : is_held ((id, bytes) ∷ []) x.0 ≡ false = or_from (same_id id x.0) false (apart_turned x.0 id apart.0) refl in
    and_from (not (is_held (xs ++ (id, bytes) ∷ []) x.0)) (is_distinct (xs ++ (id, bytes) ∷ []))
    (not_from_false (is_held (xs ++ (id, bytes) ∷ []) x.0)
    (list_any-append (λ (one : Pair). same_id one.0 x.0) xs ((id, bytes) ∷ []) ∙ or_from (is_held xs x.0) (is_held ((id, bytes) ∷ []) x.0) (not-true (is_held xs x.0) parts.0) last))
    (distinct_push xs id bytes parts.1 apart.1)

absent_still : (p : Pair → Bool) (held : List Pair) (id : Identity) → is_held held id ≡ false → is_held (filter p held) id ≡ false
absent_still p [] id absent = refl
absent_still p (x ∷ xs) id absent =
    let parts = or_parts (same_id x.0 id) (is_held xs id) absent in
    by_test (p x) parts.0 (absent_still p xs id parts.1)
  where
    by_test : (kept : Bool) → same_id x.0 id ≡ false → is_held (filter p xs) id ≡ false → is_held (cond kept (x ∷ filter p xs) (filter p xs)) id ≡ false
    by_test true first rest = or_from (same_id x.0 id) (is_held (filter p xs) id) first rest
    by_test false first rest = rest

pub distinct_filter : (p : Pair → Bool) (held : List Pair) → is_distinct held ≡ true → is_distinct (filter p held) ≡ true
distinct_filter p [] distinct = refl
distinct_filter p (x ∷ xs) distinct =
    let parts = and_parts (not (is_held xs x.0)) (is_distinct xs) distinct in
    by_test (p x) (not_from_false (is_held (filter p xs) x.0) (absent_still p xs x.0 (not-true (is_held xs x.0) parts.0))) (distinct_filter p xs parts.1)
  where
    by_test : (kept : Bool) → not (is_held (filter p xs) x.0) ≡ true → is_distinct (filter p xs) ≡ true → is_distinct (cond kept (x ∷ filter p xs) (filter p xs)) ≡ true
    by_test true first rest = and_from (not (is_held (filter p xs) x.0)) (is_distinct (filter p xs)) first rest
    by_test false first rest = rest

-- what is held beside a cell that got the held data, if there was some
pub drawn_rest : (held : List Pair) (id : Identity) → without_held held id ≡ held_beside (filled_or_open (held_bytes held id)) held id
drawn_rest held id = by_bytes (held_bytes held id) refl
  where
    by_bytes : (bytes : Option (List ℕ)) → held_bytes held id ≡ bytes → without_held held id ≡ held_beside (filled_or_open bytes) held id
    by_bytes None is = absent_without held id (no_bytes_absent held id is)
    by_bytes (Some b) is = refl
