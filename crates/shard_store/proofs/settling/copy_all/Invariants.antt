use Rattle.std.proofs.Common.{◌≡◌, take}
use Rattle.shard_store.proofs.settling.copy_all.Given as goal

abbrev pub invariant-loop-i : goal.invariant-loop-i
invariant-loop-i l = l.made.items ≡ take l.i l.cells
