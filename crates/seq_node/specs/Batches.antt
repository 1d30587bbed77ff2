use Rattle.std.specs.Prelude.{ℕ, ◌+◌, ◌-◌, ◌^◌, ◌<◌, ◌≤◌, List, length, take, drop}
use Rattle.rec_id.specs.declared.item.Item.{Item}
use Rattle.lazy_msgs.specs.declared.msg.Msg.{Msg}
use Rattle.lazy_msgs.specs.declared.msg.Msg.TheVariants.{Place}
use Rattle.lazy_rules.specs.Items.{items_for}
use Rattle.lazy_rules.specs.Roles.{first_of}
use Rattle.lazy_rules.specs.Rows.{to_each}
use Rattle.lazy_rules.specs.SeqState.{SeqState}

-- so many pending items from this position on
abbrev pub items_at : SeqState → ℕ → ℕ → List Item
items_at s from count = take count (drop (from - s.bound) s.pending)

-- they are pending, and their positions are numbers of 32 bits
pub record IsWithin (s : SeqState) (from count : ℕ) : Type 0 where
  pub begins : s.bound ≤ from
  pub ends : from + count ≤ s.bound + length s.pending
  pub fits : s.bound + length s.pending < 2 ^ 32

-- they are sent to the primary of a shard
abbrev pub place_at : SeqState → ℕ → ℕ → ℕ → List ℕ → List (ℕ × Msg)
place_at s from count shard nodes = to_each (first_of nodes) (Place s.view from (items_for s.shape shard from (items_at s from count)))
