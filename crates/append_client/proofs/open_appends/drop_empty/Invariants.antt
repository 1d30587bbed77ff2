use Rattle.std.proofs.Common.{◌≡◌, ◌≤◌, drop, length}
use Rattle.append_client.specs.Appends.{taken}
use Rattle.append_client.proofs.open_appends.drop_empty.Given as goal

abbrev pub invariant-empty : goal.invariant-empty
invariant-empty l =
    (l.slots.items ≡ drop l.count l.fn.slots.items)
    × (l.count ≤ length l.fn.slots.items)
    × (taken l.slots.items ≡ taken l.fn.slots.items)

abbrev pub decreases-empty : goal.decreases-empty
decreases-empty l = length l.slots.items
