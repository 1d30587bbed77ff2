-- What a flush hands on: the items as each shard is given them.
use Rattle.std.proofs.Common.{◌≡◌, ℕ, suc, ◌+◌, List, [], ◌∷◌, Bool, Option, Some, None, refl, ap, subst, arith}
use Rattle.std.specs.Prelude.{slice_get, filter, ◌%◌, ◌==◌, ◌&&◌, if◌then◌else◌}
use Rattle.list_facts.specs.Lists.{Each}
use Rattle.list_facts.proofs.Members.{each_append, in_filter}
use Rattle.rec_id.specs.declared.event.Event.{Event}
use Rattle.rec_id.specs.declared.item.Item.{Item}
use Rattle.view_config.specs.Shape.{Dimensions}
use Rattle.lazy_rules.specs.Ids.{ids_of}
use Rattle.lazy_rules.specs.Items.{items_for}
use Rattle.lazy_rules.specs.Rows.{each_numbered}
use Rattle.log_facts.specs.Handed.{EachFrom, ItemGiven}
use Rattle.log_facts.specs.Signs.{Sublist}
use Rattle.lazy_rules.specs.ClientRules.{carried}
use Rattle.lazy_rules.specs.Items.{is_whole}
use Rattle.log_facts.specs.facts.OfLine.{IsWhole}
use Rattle.view_config.specs.declared.edition.Mode.{Mode}
use Rattle.view_config.specs.declared.edition.Mode.TheVariants.{M, St}
use Rattle.control_rows.proofs.Lists.{precedes_filter}

module _ (shape : Dimensions) (shard : ℕ) where
  pub ids_for : (from : ℕ) (items : List Item) → ids_of (items_for shape shard from items) ≡ ids_of items
  ids_for from [] = refl
  ids_for from (item ∷ items) = ap (λ rest. item.id ∷ rest) (ids_for (from + 1) items)

-- the bytes that are due
given_bytes : (mode : Mode) (here : Bool) (bytes : Option (List ℕ)) (own : List ℕ) → bytes ≡ carried mode own → (if is_whole mode && here then bytes else None) ≡ (if is_whole mode && here then Some own else None)
given_bytes M here bytes own is = ap (λ (o : Option (List ℕ)). if here then o else None) is
given_bytes St here bytes own is = refl

pub items_given : (shape : Dimensions) (history : List Event) (shard from : ℕ) (items : List Item) → Each (IsWhole shape history) items → EachFrom (ItemGiven shape history shard) from (items_for shape shard from items)
items_given shape history shard from [] h = tt
items_given shape history shard from (item ∷ items) h = (
  record { own = h.0.own; begun = h.0.begun; has = given_bytes shape.mode (from % shape.shards == shard) item.bytes h.0.own h.0.has },
  items_given shape history shard (from + 1) items h.1,
)

-- a list of what is made of each member and its number
pub each_numbered_at : {A B : Type 0} (P : B → Type 0) (make : ℕ → A → List B) (i : ℕ) (xs : List A) → ((k : ℕ) (x : A) → slice_get xs k ≡ Some x → Each P (make (i + k) x)) → Each P (each_numbered make i xs)
each_numbered_at P make i [] h = tt
each_numbered_at P make i (x ∷ xs) h =
    let here : i + 0 ≡ i = omega arith in
    each_append P (make i x) (each_numbered make (i + 1) xs)
    (subst (λ (n : ℕ). Each P (make n x)) here (h 0 x refl))
    (each_numbered_at P make (i + 1) xs (λ k y is. let next : i + suc k ≡ i + 1 + k = omega arith in subst (λ (n : ℕ). Each P (make n y)) next (h (suc k) y is)))

-- some of a list, and some of those
pub sublist_same : {A : Type 0} (xs : List A) → Sublist xs xs
sublist_same xs = record { members = λ x h. h; pairs = λ x y h. h }

pub sublist_trans : {A : Type 0} (xs ys zs : List A) → Sublist xs ys → Sublist ys zs → Sublist xs zs
sublist_trans xs ys zs h k = record { members = λ x m. k.members x (h.members x m); pairs = λ x y p. k.pairs x y (h.pairs x y p) }

pub sublist_filter : {A : Type 0} (p : A → Bool) (xs : List A) → Sublist (filter p xs) xs
sublist_filter p xs = record { members = λ x h. (in_filter p xs x h).0; pairs = λ x y h. precedes_filter p xs x y h }
