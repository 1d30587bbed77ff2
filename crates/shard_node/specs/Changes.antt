use Rattle.std.specs.Prelude.{ℕ, ◌+◌, ◌^◌, ◌<◌, ◌≤◌, ◌≡◌, length, Option, IsTrue}
use Rattle.lazy_rules.specs.Store.{Store, fill, open_to_noop, recut_cells, first_open}
use Rattle.shard_store.specs.Sound.{is_open_at}
use Rattle.shard_node.specs.declared.ahead.Change.{Change}
use Rattle.shard_node.specs.declared.ahead.Change.TheVariants.{Nothing, Filled, Closed, Recut}

-- a store with a change
abbrev pub changed : Change → Store → Store
changed Nothing store = store
changed (Filled place bytes) store = fill store place bytes
changed Closed store = open_to_noop store
changed (Recut from cells) store = recut_cells store from cells

-- what a change needs of the store
abbrev pub IsPossible : Change → Store → Type 0
IsPossible Nothing store = Unit {0}
IsPossible (Filled place bytes) store = IsTrue (is_open_at store.order place)
IsPossible Closed store = Unit {0}
IsPossible (Recut from cells) store = (from ≤ length store.order) × (from + length cells < 2 ^ 32)

-- the change is possible, and the first place that is open after it is known
pub record IsAhead (change : Change) (store : Store) (first : Option ℕ) : Type 0 where
  pub possible : IsPossible change store
  pub open_is : first ≡ first_open (changed change store)
