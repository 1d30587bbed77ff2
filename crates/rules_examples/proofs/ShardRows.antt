use Rattle.std.proofs.Common.{◌≡◌, [], ◌∷◌, refl}
use Rattle.rec_id.specs.declared.item.Body.TheVariants.{Kept}
use Rattle.view_config.specs.declared.edition.Mode.TheVariants.{M}
use Rattle.lazy_msgs.specs.declared.msg.Msg.TheVariants.{Place, Placed, Copy, Copied}
use Rattle.lazy_rules.specs.ShardRules.{shard_took}
use Rattle.lazy_rules.specs.ShardState.{first_shard}
use Rattle.rules_examples.proofs.Shows.{shape_of, cell, item, sends_of}

-- Rows of a primary. Node 264 is the primary of the first shard, 265 and 266 are its backups, 257 asks.

-- what is still being placed isn't answered again, even though the order has it
pub not_placed_again : sends_of shard_took (first_shard (shape_of M 1 1 2 1) 0 0)
    ((257, Place 1 0 (item 0 1 97 ∷ item 0 2 98 ∷ []))
    ∷ (257, Place 1 1 (item 0 2 98 ∷ []))
    ∷ (265, Copied 1 2)
    ∷ (257, Place 1 1 (item 0 2 98 ∷ []))
    ∷ []) ≡ ((265, Copy 1 0 (cell 0 1 (Kept (97 ∷ [])) ∷ cell 0 2 (Kept (98 ∷ [])) ∷ [])) ∷ [])
    ∷ []
    ∷ ((257, Placed 1 2) ∷ [])
    ∷ ((257, Placed 1 2) ∷ [])
    ∷ []
not_placed_again = refl

-- a batch that is pushed again has its own cells, and not those of the next one
pub pushed_to_its_end : sends_of shard_took (first_shard (shape_of M 1 1 2 1) 0 0)
    ((257, Place 1 0 (item 0 1 97 ∷ [])) ∷ (257, Place 1 1 (item 0 2 98 ∷ [])) ∷ (257, Place 1 0 (item 0 1 97 ∷ [])) ∷ []) ≡ ((265, Copy 1 0 (cell 0 1 (Kept (97 ∷ [])) ∷ [])) ∷ [])
    ∷ ((265, Copy 1 1 (cell 0 2 (Kept (98 ∷ [])) ∷ [])) ∷ [])
    ∷ ((265, Copy 1 0 (cell 0 1 (Kept (97 ∷ [])) ∷ [])) ∷ [])
    ∷ []
pushed_to_its_end = refl

-- four batches are being placed, and a fifth isn't taken
pub four_batches_at_once : sends_of shard_took (first_shard (shape_of M 1 1 2 1) 0 0)
    ((257, Place 1 0 (item 0 1 97 ∷ []))
    ∷ (257, Place 1 1 (item 0 2 97 ∷ []))
    ∷ (257, Place 1 2 (item 0 3 97 ∷ []))
    ∷ (257, Place 1 3 (item 0 4 97 ∷ []))
    ∷ (257, Place 1 4 (item 0 5 97 ∷ []))
    ∷ []) ≡ ((265, Copy 1 0 (cell 0 1 (Kept (97 ∷ [])) ∷ [])) ∷ [])
    ∷ ((265, Copy 1 1 (cell 0 2 (Kept (97 ∷ [])) ∷ [])) ∷ [])
    ∷ ((265, Copy 1 2 (cell 0 3 (Kept (97 ∷ [])) ∷ [])) ∷ [])
    ∷ ((265, Copy 1 3 (cell 0 4 (Kept (97 ∷ [])) ∷ [])) ∷ [])
    ∷ []
    ∷ []
four_batches_at_once = refl

-- an older answer of a backup doesn't take back a later one
pub backup_stays_as_far : sends_of shard_took (first_shard (shape_of M 1 1 3 1) 0 0)
    ((257, Place 1 0 (item 0 1 97 ∷ item 0 2 98 ∷ [])) ∷ (265, Copied 1 2) ∷ (265, Copied 1 1) ∷ (266, Copied 1 2) ∷ []) ≡ ((265, Copy 1 0 (cell 0 1 (Kept (97 ∷ [])) ∷ cell 0 2 (Kept (98 ∷ [])) ∷ []))
    ∷ (266, Copy 1 0 (cell 0 1 (Kept (97 ∷ [])) ∷ cell 0 2 (Kept (98 ∷ [])) ∷ []))
    ∷ [])
    ∷ []
    ∷ []
    ∷ ((257, Placed 1 2) ∷ [])
    ∷ []
backup_stays_as_far = refl
