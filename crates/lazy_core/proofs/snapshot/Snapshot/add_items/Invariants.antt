use Rattle.std.proofs.Common.{◌≡◌, ◌++◌, map, take}
use Rattle.lazy_rules.specs.Lines.{item_entry}
use Rattle.lazy_core.specs.LinesOf.{stores_at}
use Rattle.lazy_core.specs.Standing.{world_of_standing}
use Rattle.lazy_core.proofs.snapshot.Snapshot.add_items.Given as goal

abbrev pub invariant-loop-item : goal.invariant-loop-item
invariant-loop-item l = l.line ≡ l.fn.line ++ map (item_entry l.self.shape (stores_at (world_of_standing l.self) l.first)) (take l.item-index l.items)
