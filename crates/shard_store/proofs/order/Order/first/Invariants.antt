use Rattle.std.proofs.Common.{length}
use Rattle.shard_store.proofs.FirstPlace.{IsWalked}
use Rattle.shard_store.proofs.order.Order.first.Given as goal

abbrev pub invariant-loop-end : goal.invariant-loop-end
invariant-loop-end l = IsWalked (length l.self-inside.heads.items) l.kind l.id l.self-inside.cells.items l.end l.found

abbrev pub decreases-loop-end : goal.decreases-loop-end
decreases-loop-end l = l.end
