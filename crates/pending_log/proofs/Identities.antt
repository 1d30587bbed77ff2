-- Identities that are one, packed and unpacked, and lists of items without repeats.
use Rattle.std.proofs.Common.{◌≡◌, ℕ, List, [], ◌∷◌, ◌++◌, Bool, true, false, not, cond, eqb, take, drop, inl, inr, sym, ap, ◌∙◌, refl, arith}
use Rattle.std.specs.List.{filter}
use Rattle.std.proofs.lemmas.Bool.{cases_eq, and_parts, and_from, and_left, and_right, or_parts, or_from, not-true, not_from_false, eqb-true, eq-eqb, ne_eqb, false_from_ne_true, true≢false}
use Rattle.std.proofs.lemmas.List.Folds.{list_any-append}
use Rattle.std.proofs.lemmas.List.{take-append-drop}
use Rattle.rec_id.specs.Identity.{Identity, IsIdentity, packed}
use Rattle.rec_id.specs.declared.item.Item.{Item}
use Rattle.pending_log.specs.Pending.{has_item, is_distinct}
use Rattle.rec_id.specs.Identity.{same_id}
use Rattle.pending_log.specs.Kept.{AllValid}

abbrev pub AreOne : Identity → Identity → Type 0
AreOne a b = (a.client ≡ b.client) × (a.number ≡ b.number)

pub same_parts : (a b : Identity) → same_id a b ≡ true → AreOne a b
same_parts a b same =
    let parts = and_parts (eqb a.client b.client) (eqb a.number b.number) same in
    (eqb-true a.client b.client parts.0, eqb-true a.number b.number parts.1)

pub same_from : (a b : Identity) → AreOne a b → same_id a b ≡ true
same_from a b one =
    and_from (eqb a.client b.client) (eqb a.number b.number) (eq-eqb a.client b.client one.0) (eq-eqb a.number b.number one.1)

pub not_same_turned : (a b : Identity) → same_id a b ≡ false → same_id b a ≡ false
not_same_turned a b apart = false_from_ne_true (same_id b a) (λ same.
    let one = same_parts b a same in true≢false (sym (same_from a b (sym one.0, sym one.1)) ∙ apart))

-- two that are one with a third are one
pub same_by : (a b c : Identity) → same_id a b ≡ true → same_id a c ≡ true → same_id b c ≡ true
same_by a b c first second =
    let p = same_parts a b first in
    let q = same_parts a c second in
    same_from b c (sym p.0 ∙ q.0, sym p.1 ∙ q.1)

pub same_packed : (a b : Identity) → IsIdentity a → IsIdentity b → eqb (packed a) (packed b) ≡ same_id a b
same_packed a b valid_a valid_b = elim (cases_eq a.client b.client) [
  | inl client ↦ elim (cases_eq a.number b.number) [
    | inl number ↦ eq-eqb (packed a) (packed b) (omega arith) ∙ sym (same_from a b (client, number))
    | inr other ↦
        ne_eqb (packed a) (packed b) (λ one. other (omega (arith, valid_a.number_in_range, valid_b.number_in_range)))
        ∙ sym (and_right (eqb a.client b.client) (eqb a.number b.number) (ne_eqb a.number b.number other))
  ]
  | inr other ↦
      ne_eqb (packed a) (packed b) (λ one. other (omega (arith, valid_a.number_in_range, valid_b.number_in_range)))
      ∙ sym (and_left (eqb a.client b.client) (eqb a.number b.number) (ne_eqb a.client b.client other))
]

-- ---- valid items
pub valid_append : (xs ys : List Item) → AllValid xs → AllValid ys → AllValid (xs ++ ys)
valid_append [] ys valid_xs valid_ys = valid_ys
valid_append (x ∷ xs) ys valid_xs valid_ys = (valid_xs.0, valid_append xs ys valid_xs.1 valid_ys)

pub valid_parts : (xs ys : List Item) → AllValid (xs ++ ys) → AllValid xs × AllValid ys
valid_parts [] ys valid = (tt, valid)
valid_parts (x ∷ xs) ys valid =
    let rest = valid_parts xs ys valid.1 in ((valid.0, rest.0), rest.1)

-- ---- items without repeats
pub distinct_push : (items : List Item) (item : Item) → is_distinct items ≡ true → has_item items item.id ≡ false → is_distinct (items ++ item ∷ []) ≡ true
distinct_push [] item distinct new = refl
distinct_push (x ∷ xs) item distinct new =
    let parts = and_parts (not (has_item xs x.id)) (is_distinct xs) distinct in
    let apart = or_parts (same_id x.id item.id) (has_item xs item.id) new in
    let last : has_item (item ∷ []) x.id ≡ false = or_from (same_id item.id x.id) false (not_same_turned x.id item.id apart.0) refl in
    and_from (not (has_item (xs ++ item ∷ []) x.id)) (is_distinct (xs ++ item ∷ []))
    (not_from_false (has_item (xs ++ item ∷ []) x.id)
    (list_any-append (λ other. same_id other.id x.id) xs (item ∷ []) ∙ or_from (has_item xs x.id) (has_item (item ∷ []) x.id) (not-true (has_item xs x.id) parts.0) last))
    (distinct_push xs item parts.1 apart.1)

pub distinct_rest : (front items : List Item) → is_distinct (front ++ items) ≡ true → is_distinct items ≡ true
distinct_rest [] items distinct = distinct
distinct_rest (x ∷ front) items distinct =
    distinct_rest front items (and_parts (not (has_item (front ++ items) x.id)) (is_distinct (front ++ items)) distinct).1

pub distinct_drop : (n : ℕ) (items : List Item) → is_distinct items ≡ true → is_distinct (drop n items) ≡ true
distinct_drop n items distinct =
    distinct_rest (take n items) (drop n items) (ap is_distinct (take-append-drop n items) ∙ distinct)

absent_filter : (p : Item → Bool) (items : List Item) (id : Identity) → has_item items id ≡ false → has_item (filter p items) id ≡ false
absent_filter p [] id absent = refl
absent_filter p (x ∷ xs) id absent =
    let parts = or_parts (same_id x.id id) (has_item xs id) absent in
    by_test (p x) (parts.0) (absent_filter p xs id parts.1)
  where
    by_test : (kept : Bool) → same_id x.id id ≡ false → has_item (filter p xs) id ≡ false → has_item (cond kept (x ∷ filter p xs) (filter p xs)) id ≡ false
    by_test true first rest = or_from (same_id x.id id) (has_item (filter p xs) id) first rest
    by_test false first rest = rest

pub distinct_filter : (p : Item → Bool) (items : List Item) → is_distinct items ≡ true → is_distinct (filter p items) ≡ true
distinct_filter p [] distinct = refl
distinct_filter p (x ∷ xs) distinct =
    let parts = and_parts (not (has_item xs x.id)) (is_distinct xs) distinct in
    by_test (p x) (not_from_false (has_item (filter p xs) x.id) (absent_filter p xs x.id (not-true (has_item xs x.id) parts.0))) (distinct_filter p xs parts.1)
  where
    by_test : (kept : Bool) → not (has_item (filter p xs) x.id) ≡ true → is_distinct (filter p xs) ≡ true → is_distinct (cond kept (x ∷ filter p xs) (filter p xs)) ≡ true
    by_test true first rest = and_from (not (has_item (filter p xs) x.id)) (is_distinct (filter p xs)) first rest
    by_test false first rest = rest
