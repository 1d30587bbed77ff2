use Rattle.std.proofs.Common.{◌≡◌, take}
use Rattle.lazy_rules.specs.Lines.{bound_entries, order_of}
use Rattle.lazy_core.specs.LinesOf.{stores_at}
use Rattle.lazy_core.specs.Standing.{world_of_standing}
use Rattle.lazy_core.proofs.snapshot.Snapshot.bound_entries.Given as goal

abbrev pub invariant-loop-place : goal.invariant-loop-place
invariant-loop-place l = l.line ≡ bound_entries l.self.shape (stores_at (world_of_standing l.self) l.first) 0 (take l.place (order_of (stores_at (world_of_standing l.self) l.first) 0))
