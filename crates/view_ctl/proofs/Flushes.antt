-- What is made of the members of a list by their places, with one member more.
use Rattle.std.proofs.Common.{◌≡◌, ℕ, ◌+◌, ◌<◌, List, [], ◌∷◌, ◌++◌, Some, length, take, slice_get, sym, ap, ◌∙◌, arith}
use Rattle.std.proofs.lemmas.List.{append_assoc, append-nil, take_more, length-take-le}
use Rattle.std.proofs.lemmas.Option.{get_or_from_slice_get, slice_get_within}
use Rattle.rec_id.specs.declared.item.Item.{Item}
use Rattle.view_config.specs.Shape.{Dimensions}
use Rattle.lazy_rules.specs.Items.{bytes_for, items_for}
use Rattle.lazy_rules.specs.Rows.{each_numbered}

module _ {A : Type 0} where
  -- a list up to the member at a place, with it
  pub take_with : (xs : List A) (i : ℕ) (x : A) → slice_get xs i ≡ Some x → take (i + 1) xs ≡ take i xs ++ x ∷ []
  take_with xs i x there = take_more xs i x (slice_get_within xs i x there) ∙ ap (λ (y : A). take i xs ++ y ∷ []) (get_or_from_slice_get xs i x x there)

  pub count_before : (xs : List A) (i : ℕ) (x : A) → slice_get xs i ≡ Some x → length (take i xs) ≡ i
  count_before xs i x there = let within : i < length xs = slice_get_within xs i x there in length-take-le i xs (omega arith)

module _ {A B : Type 0} (make : ℕ → A → List B) where
  each_push : (i : ℕ) (xs : List A) (x : A) → each_numbered make i (xs ++ x ∷ []) ≡ each_numbered make i xs ++ make (i + length xs) x
  each_push i [] x = append-nil (make i x) ∙ ap (λ (n : ℕ). make n x) (omega arith)
  each_push i (y ∷ ys) x =
      ap (λ (made : List B). make i y ++ made) (each_push (i + 1) ys x ∙ ap (λ (n : ℕ). each_numbered make (i + 1) ys ++ make n x) (omega arith))
      ∙ sym (append_assoc (make i y) (each_numbered make (i + 1) ys) (make (i + length (y ∷ ys)) x))

  pub each_more : (xs : List A) (i : ℕ) (x : A) → slice_get xs i ≡ Some x
      → each_numbered make 0 (take (i + 1) xs) ≡ each_numbered make 0 (take i xs) ++ make i x
  each_more xs i x there =
      ap (each_numbered make 0) (take_with xs i x there)
      ∙ each_push 0 (take i xs) x
      ∙ ap (λ (n : ℕ). each_numbered make 0 (take i xs) ++ make n x) (let count = count_before xs i x there in omega arith)

-- an item at a place, as a shard is given it
abbrev pub given : Dimensions → ℕ → ℕ → Item → Item
given shape shard place item = record { id = item.id; bytes = bytes_for shape shard place item.bytes }

items_push : (shape : Dimensions) (shard place : ℕ) (items : List Item) (item : Item)
    → items_for shape shard place (items ++ item ∷ []) ≡ items_for shape shard place items ++ given shape shard (place + length items) item ∷ []
items_push shape shard place [] item = ap (λ (n : ℕ). given shape shard n item ∷ []) (omega arith)
items_push shape shard place (x ∷ xs) item =
    ap (λ (l : List Item). given shape shard place x ∷ l)
    (items_push shape shard (place + 1) xs item ∙ ap (λ (n : ℕ). items_for shape shard (place + 1) xs ++ given shape shard n item ∷ []) (omega arith))

pub items_more : (shape : Dimensions) (shard place : ℕ) (items : List Item) (i : ℕ) (item : Item) → slice_get items i ≡ Some item
    → items_for shape shard place (take (i + 1) items) ≡ items_for shape shard place (take i items) ++ given shape shard (place + i) item ∷ []
items_more shape shard place items i item there =
    ap (items_for shape shard place) (take_with items i item there)
    ∙ items_push shape shard place (take i items) item
    ∙ ap (λ (n : ℕ). items_for shape shard place (take i items) ++ given shape shard (place + n) item ∷ []) (count_before items i item there)
