use Rattle.std.specs.Prelude.{ℕ, ◌≡◌, ◌≤◌, List, [], ◌∷◌, length, map}
use Rattle.rec_id.specs.Identity.{IsIdentity, packed}
use Rattle.rec_id.specs.declared.item.Item.{Item}

-- the identities of the items are in their limits
abbrev pub AllValid : List Item → Type 0
AllValid [] = Unit {0}
AllValid (item ∷ items) = IsIdentity item.id × AllValid items

-- the words are the packed identities of the items, and there is as much room for both
pub record IsKept (items : List Item) (words : List ℕ) (room word_room : ℕ) : Type 0 where
  pub valid : AllValid items
  pub packed_is : words ≡ map (λ item. packed item.id) items
  pub within : length items ≤ room
  pub same_room : word_room ≡ room
