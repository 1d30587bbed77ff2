use Rattle.std.proofs.Common.{◌≡◌, length}
use Rattle.binder.specs.Held.{AllFor}
use Rattle.binder.proofs.binding.room.Given as goal

abbrev pub invariant-loop-slot : goal.invariant-loop-slot
invariant-loop-slot l = AllFor l.shards l.followers l.room.items × (length l.room.items ≡ l._slot)
