use Rattle.std.specs.Prelude.{ℕ, Bool, true, not, ◌&&◌, List, [], ◌∷◌, filter}
use Rattle.std.specs.List.{list_any}
use Rattle.rec_id.specs.Identity.{Identity, same_id, has_id}
use Rattle.rec_id.specs.declared.item.Item.{Item}

-- the items of a log, and how many it has room for
pub record Pending : Type 0 where
  pub items : List Item
  pub capacity : ℕ

-- an item of this identity is among these
abbrev pub has_item : List Item → Identity → Bool
has_item items id = list_any (λ item. same_id item.id id) items

-- no two items have one identity
abbrev pub is_distinct : List Item → Bool
is_distinct [] = true
is_distinct (item ∷ items) = not (has_item items item.id) && is_distinct items

-- the items of other identities, in their order
abbrev pub without : List Identity → List Item → List Item
without ids items = filter (λ item. not (has_id ids item.id)) items
