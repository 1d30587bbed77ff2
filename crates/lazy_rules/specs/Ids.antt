use Rattle.std.specs.Prelude.{List, map}
use Rattle.rec_id.specs.Identity.{Identity}
use Rattle.rec_id.specs.declared.item.Item.{Item}

-- the identities of items
abbrev pub ids_of : List Item → List Identity
ids_of items = map (λ item. item.id) items
