-- An order keeps its index when a cell comes or leaves.
use Rattle.std.proofs.Common.{◌≡◌, ℕ, suc, ◌+◌, ◌-◌, ◌^◌, ◌<◌, ◌≤◌, List, [], ◌∷◌, ◌++◌, Bool, true, false, cond, length, get_or, subst, sym, ap, ◌∙◌, refl, arith}
use Rattle.std.proofs.Math.ListN.{set, length-set}
use Rattle.std.proofs.lemmas.List.{length_push, length-append, get_or_append_left, get_or_push}
use Rattle.rec_id.specs.declared.item.Cell.{Cell}
use Rattle.lazy_rules.specs.Store.{is_open}
use Rattle.shard_store.specs.Links.{blank, bucket, tag_in, IsLinked}
use Rattle.shard_store.specs.Places.{open_from, IsIndexed}
use Rattle.shard_store.proofs.LinkLemmas.{linked_same, linked_more, linked_less}

pub open_from-append : (place : ℕ) (xs ys : List Cell) → open_from place (xs ++ ys) ≡ open_from place xs ++ open_from (place + length xs) ys
open_from-append place [] ys = ap (λ (n : ℕ). open_from n ys) (omega arith)
open_from-append place (x ∷ xs) ys = by_test (is_open x.body)
    (open_from-append (place + 1) xs ys ∙ ap (λ (n : ℕ). open_from (place + 1) xs ++ open_from n ys) (omega arith))
  where
    by_test : (b : Bool) → open_from (place + 1) (xs ++ ys) ≡ open_from (place + 1) xs ++ open_from (place + suc (length xs)) ys
        → cond b (place ∷ open_from (place + 1) (xs ++ ys)) (open_from (place + 1) (xs ++ ys)) ≡ cond b (place ∷ open_from (place + 1) xs) (open_from (place + 1) xs) ++ open_from (place + suc (length xs)) ys
    by_test true rest = ap (λ (l : List ℕ). place ∷ l) rest
    by_test false rest = rest

pub open_from_push : (cells : List Cell) (cell : Cell) → open_from 0 (cells ++ cell ∷ []) ≡ open_from 0 cells ++ open_from (length cells) (cell ∷ [])
open_from_push cells cell =
    let count : 0 + length cells ≡ length cells = omega arith in
    open_from-append 0 cells (cell ∷ []) ∙ ap (λ (n : ℕ). open_from 0 cells ++ open_from n (cell ∷ [])) count

length-open_one : (place : ℕ) (cell : Cell) → length (open_from place (cell ∷ [])) ≤ 1
length-open_one place cell = by_test (is_open cell.body)
  where
    by_test : (b : Bool) → length (cond b (place ∷ []) (open_from (place + 1) [])) ≤ 1
    by_test true = omega arith
    by_test false = omega arith

-- a cell that stands in both has the same bucket
tag_left : (size : ℕ) (xs ys : List Cell) (k : ℕ) → k < length xs → tag_in size xs k ≡ tag_in size (xs ++ ys) k
tag_left size xs ys k inside = ap (λ (cell : Cell). bucket size cell.id) (sym (get_or_append_left xs ys blank k inside))

tag_last : (size : ℕ) (xs : List Cell) (cell : Cell) → tag_in size (xs ++ cell ∷ []) (length xs) ≡ bucket size cell.id
tag_last size xs cell = ap (λ (x : Cell). bucket size x.id) (get_or_push xs cell blank (length xs) refl)

module _ (cells : List Cell) (heads before opens : List ℕ) (spare cell_room before_room open_room : ℕ) where
  pub indexed_push : IsIndexed cells heads before opens spare cell_room before_room open_room → (cell : Cell) → 0 < spare → length cells + 1 < 2 ^ 32 → bucket (length heads) cell.id < length heads
      → IsIndexed (cells ++ cell ∷ []) (set heads (bucket (length heads) cell.id) (length cells + 1)) (before ++ get_or heads (bucket (length heads) cell.id) 0 ∷ [])
      (opens ++ open_from (length cells) (cell ∷ [])) (spare - 1) cell_room before_room open_room
  indexed_push indexed cell some short inside =
      let size = length heads in
      let at = bucket size cell.id in
      let after = before ++ get_or heads at 0 ∷ [] in
      let tag = tag_in size (cells ++ cell ∷ []) in
      let last : tag (length cells) ≡ at = tag_last size cells cell in
      let linked : IsLinked tag heads before (length cells) =
      linked_same (tag_in size cells) tag heads before (length cells) (λ k below. tag_left size cells (cell ∷ []) k below) indexed.linked in
      let more : IsLinked tag (set heads (tag (length cells)) (length cells + 1)) after (length cells + 1) =
      linked_more tag heads before after (length cells) linked (rw last inside)
      (λ k below. get_or_append_left before (get_or heads at 0 ∷ []) 0 k (omega (arith, indexed.before_len)))
      (get_or_push before (get_or heads at 0) 0 (length cells) indexed.before_len ∙ ap (λ (t : ℕ). get_or heads t 0) (sym last)) in
      let heads_len : length (set heads at (length cells + 1)) ≡ size = length-set heads at (length cells + 1) in
      let moved : IsLinked tag (set heads at (length cells + 1)) after (length cells + 1) = subst (λ (t : ℕ). IsLinked tag (set heads t (length cells + 1)) after (length cells + 1)) last more in
      let counted : IsLinked tag (set heads at (length cells + 1)) after (length (cells ++ cell ∷ [])) = subst (λ (n : ℕ). IsLinked tag (set heads at (length cells + 1)) after n) (sym (length_push cells cell)) moved in
      record {
        linked = subst (λ (n : ℕ). IsLinked (tag_in n (cells ++ cell ∷ [])) (set heads at (length cells + 1)) after (length (cells ++ cell ∷ []))) (sym heads_len) counted;
        before_len = omega (arith, length_push cells cell, length_push before (get_or heads at 0), indexed.before_len);
        open_is = ap (λ (l : List ℕ). l ++ open_from (length cells) (cell ∷ [])) indexed.open_is ∙ sym (open_from_push cells cell);
        short = omega (arith, length_push cells cell, short);
        bucket_room = omega (arith, length_push cells cell, indexed.bucket_room, heads_len);
        cell_room_is = omega (arith, length_push cells cell, indexed.cell_room_is);
        before_room_is = omega (arith, length_push cells cell, indexed.before_room_is);
        open_room_is = omega (arith, length-append opens (open_from (length cells) (cell ∷ [])), length-open_one (length cells) cell, indexed.open_room_is);
      }

-- without the last cell, where the order was these cells and that one
module _ (cells : List Cell) (cell : Cell) (heads before opens : List ℕ) (end spare cell_room before_room open_room : ℕ) where
  pub opens_before : IsIndexed (cells ++ cell ∷ []) heads (before ++ end ∷ []) opens spare cell_room before_room open_room
      → opens ≡ open_from 0 cells ++ open_from (length cells) (cell ∷ [])
  opens_before indexed = indexed.open_is ∙ open_from_push cells cell

  pub indexed_pop : IsIndexed (cells ++ cell ∷ []) heads (before ++ end ∷ []) opens spare cell_room before_room open_room → bucket (length heads) cell.id < length heads
      → IsIndexed cells (set heads (bucket (length heads) cell.id) end) before (open_from 0 cells) spare cell_room before_room open_room
  indexed_pop indexed inside =
      let size = length heads in
      let at = bucket size cell.id in
      let all = cells ++ cell ∷ [] in
      let tag = tag_in size all in
      let last : tag (length cells) ≡ at = tag_last size cells cell in
      let count : length before ≡ length cells = omega (arith, indexed.before_len, length_push cells cell, length_push before end) in
      let linked : IsLinked tag heads (before ++ end ∷ []) (length cells + 1) = subst (λ (n : ℕ). IsLinked tag heads (before ++ end ∷ []) n) (length_push cells cell) indexed.linked in
      let less : IsLinked tag (set heads (tag (length cells)) (get_or (before ++ end ∷ []) (length cells) 0)) before (length cells) =
      linked_less tag heads (before ++ end ∷ []) before (length cells) linked (rw last inside)
      (λ k below. sym (get_or_append_left before (end ∷ []) 0 k (omega (arith, count)))) in
      let end_is : get_or (before ++ end ∷ []) (length cells) 0 ≡ end = get_or_push before end 0 (length cells) count in
      let moved : IsLinked tag (set heads at (get_or (before ++ end ∷ []) (length cells) 0)) before (length cells) =
      subst (λ (t : ℕ). IsLinked tag (set heads t (get_or (before ++ end ∷ []) (length cells) 0)) before (length cells)) last less in
      let ended : IsLinked tag (set heads at end) before (length cells) = subst (λ (v : ℕ). IsLinked tag (set heads at v) before (length cells)) end_is moved in
      let heads_len : length (set heads at end) ≡ size = length-set heads at end in
      let own : IsLinked (tag_in size cells) (set heads at end) before (length cells) =
      linked_same tag (tag_in size cells) (set heads at end) before (length cells) (λ k below. sym (tag_left size cells (cell ∷ []) k below)) ended in
      let opens_len = ap length (opens_before indexed) in
      record {
        linked = subst (λ (n : ℕ). IsLinked (tag_in n cells) (set heads at end) before (length cells)) (sym heads_len) own;
        before_len = count;
        open_is = refl;
        short = omega (arith, length_push cells cell, indexed.short);
        bucket_room = omega (arith, length_push cells cell, indexed.bucket_room, heads_len);
        cell_room_is = omega (arith, length_push cells cell, indexed.cell_room_is);
        before_room_is = omega (arith, length_push cells cell, indexed.before_room_is);
        open_room_is = omega (arith, opens_len, length-append (open_from 0 cells) (open_from (length cells) (cell ∷ [])), indexed.open_room_is);
      }
