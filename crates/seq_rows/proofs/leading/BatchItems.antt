-- The items of a leader's batch: they are a piece of its line, and each is whole.
use Rattle.std.proofs.Common.{◌≡◌, ℕ, zero, suc, ◌+◌, ◌-◌, ◌≤◌, Some, None, List, [], ◌∷◌, length, take, drop, slice_get, refl, ap, ◌∙◌, subst, arith, ◌&&◌, ◌==◌}
use Rattle.std.specs.Prelude.{option_map, ◌%◌, if◌then◌else◌}
use Rattle.std.proofs.lemmas.List.{length-drop, length-map, length-take-le}
use Rattle.std.proofs.lemmas.Option.{slice_get-map}
use Rattle.list_facts.specs.Lists.{Each}
use Rattle.rec_id.specs.Identity.{Identity}
use Rattle.rec_id.specs.declared.event.Event.{Event}
use Rattle.rec_id.specs.declared.item.Item.{Item}
use Rattle.view_config.specs.declared.edition.Mode.{Mode}
use Rattle.view_config.specs.declared.edition.Mode.TheVariants.{M, St}
use Rattle.view_config.specs.Shape.{Dimensions}
use Rattle.lazy_rules.specs.ClientRules.{carried}
use Rattle.lazy_rules.specs.Flight.{Batch}
use Rattle.lazy_rules.specs.Ids.{ids_of}
use Rattle.lazy_rules.specs.Items.{bytes_for, is_whole, items_for}
use Rattle.lazy_rules.specs.Leading.{items_in}
use Rattle.lazy_rules.specs.SeqState.{SeqState}
use Rattle.world_facts.proofs.sizes.Flight.{IsBatch}
use Rattle.log_facts.specs.Finality.{line_ids}
use Rattle.log_facts.specs.Handed.{EachFrom, ItemGiven}
use Rattle.log_facts.specs.Past.{IsBegun}
use Rattle.log_facts.specs.Signs.{IsPiece}
use Rattle.log_facts.specs.facts.OfLine.{IsWhole}
use Rattle.log_facts.proofs.Places.{at_right, at_take}

-- ---- items by their places
pub ids_at : (items : List Item) (k : ℕ) (id : Identity) → slice_get (ids_of items) k ≡ Some id → (item : Item) × (slice_get items k ≡ Some item) × (item.id ≡ id)
ids_at [] k id e = cc
ids_at (item ∷ items) zero id e = (item, refl, let same : Some item.id ≡ Some id = e in cc)
ids_at (item ∷ items) (suc k) id e = ids_at items k id e

pub at_ids : (items : List Item) (k : ℕ) (item : Item) → slice_get items k ≡ Some item → slice_get (ids_of items) k ≡ Some item.id
at_ids items k item e = slice_get-map (λ (x : Item). x.id) items k ∙ ap (option_map (λ (x : Item). x.id)) e

pub drop_at : {A : Type 0} (m : ℕ) (xs : List A) (k : ℕ) (x : A) → slice_get (drop m xs) k ≡ Some x → slice_get xs (m + k) ≡ Some x
drop_at zero xs k x e = let is : k ≡ 0 + k = omega arith in subst (λ (n : ℕ). slice_get xs n ≡ Some x) is e
drop_at (suc m) [] k x e = cc
drop_at (suc m) (z ∷ zs) k x e =
    let is : suc (m + k) ≡ suc m + k = omega arith in
    subst (λ (n : ℕ). slice_get (z ∷ zs) n ≡ Some x) is (drop_at m zs k x e)

module _ (s : SeqState) (batch : Batch) (among : IsBatch s.bound (s.bound + length s.pending) batch) where
  -- a batch has as many items as it counts
  pub items_count : length (ids_of (items_in s batch)) ≡ batch.count
  items_count =
      let least = among.least in
      let end = among.end in
      let left = length-drop (batch.from - s.bound) s.pending in
      let long = length-take-le batch.count (drop (batch.from - s.bound) s.pending) (omega arith) in
      length-map (items_in s batch) (λ (item : Item). item.id) ∙ long

  -- they are a piece of the line
  pub items_piece : (line : List Identity) → s.bound ≤ length line → IsPiece (line_ids line s) batch.from (ids_of (items_in s batch))
  items_piece line short k id e =
      let one = ids_at (items_in s batch) k id e in
      let taken = at_take batch.count (drop (batch.from - s.bound) s.pending) k one.0 one.1 in
      let pending = drop_at (batch.from - s.bound) s.pending k one.0 taken.1 in
      let there : slice_get (ids_of s.pending) (batch.from - s.bound + k) ≡ Some id = at_ids s.pending (batch.from - s.bound + k) one.0 pending ∙ ap Some one.2 in
      let behind = at_right (take s.bound line) (ids_of s.pending) (batch.from - s.bound + k) id there in
      let long = length-take-le s.bound line short in
      let least = among.least in
      let is : length (take s.bound line) + (batch.from - s.bound + k) ≡ batch.from + k = omega arith in
      subst (λ (n : ℕ). slice_get (line_ids line s) n ≡ Some id) is behind

-- ---- items as a shard is given them
bytes_carried : (mode : Mode) (own : List ℕ) (place shards shard : ℕ) → (if is_whole mode && place % shards == shard then carried mode own else None) ≡ (if is_whole mode && place % shards == shard then Some own else None)
bytes_carried M own place shards shard = refl
bytes_carried St own place shards shard = refl

module _ (shape : Dimensions) (history : List Event) where
  pub items_given : (shard place : ℕ) (items : List Item) → Each (IsWhole shape history) items → EachFrom (ItemGiven shape history shard) place (items_for shape shard place items)
  items_given shard place [] h = tt
  items_given shard place (item ∷ items) h =
      let whole = h.0 in (
        record {
          own = whole.own;
          begun = whole.begun;
          has = ap (bytes_for shape shard place) whole.has ∙ bytes_carried shape.mode whole.own place shape.shards shard;
        },
        items_given shard (place + 1) items h.1,
      )

  pub items_begun : (items : List Item) → Each (IsWhole shape history) items → Each (IsBegun history) (ids_of items)
  items_begun [] h = tt
  items_begun (item ∷ items) h = (record { bytes = h.0.own; stands = h.0.begun }, items_begun items h.1)

pub items_for_ids : (shape : Dimensions) (shard place : ℕ) (items : List Item) → ids_of (items_for shape shard place items) ≡ ids_of items
items_for_ids shape shard place [] = refl
items_for_ids shape shard place (item ∷ items) = ap (λ (ids : List Identity). item.id ∷ ids) (items_for_ids shape shard (place + 1) items)
