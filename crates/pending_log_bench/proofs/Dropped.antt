-- An identity that isn't there isn't there once items were dropped.
use Rattle.std.proofs.Common.{◌≡◌, ℕ, zero, suc, List, [], ◌∷◌, false, drop}
use Rattle.std.proofs.lemmas.Bool.{or_parts}
use Rattle.rec_id.specs.Identity.{Identity}
use Rattle.rec_id.specs.declared.item.Item.{Item}
use Rattle.pending_log.specs.Pending.{Pending, has_item}
use Rattle.rec_id.specs.Identity.{same_id}
use Rattle.pending_log_bench.specs.Fresh.{IsFresh}

absent_drop : (n : ℕ) (items : List Item) (id : Identity) → has_item items id ≡ false → has_item (drop n items) id ≡ false
absent_drop zero items id absent = absent
absent_drop (suc n) [] id absent = absent
absent_drop (suc n) (x ∷ xs) id absent = absent_drop n xs id (or_parts (same_id x.id id) (has_item xs id) absent).1

pub fresh_drop : (next n : ℕ) (log : Pending) → IsFresh next log → IsFresh next (record log { items = drop n log.items })
fresh_drop next n log fresh = record {
  absent = λ number above. absent_drop n log.items (record { client = 0; number = number }) (fresh.absent number above);
}
