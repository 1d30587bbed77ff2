use Rattle.std.proofs.Common.{◌≡◌, take}
use Rattle.append_client.proofs.open_appends.OpenAppends.copy.Given as goal

abbrev pub invariant-loop-i : goal.invariant-loop-i
invariant-loop-i l = l.slots.items ≡ take l.i l.self-inside.slots.items
