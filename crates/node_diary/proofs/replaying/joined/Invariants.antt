use Rattle.std.proofs.Common.{◌≡◌, ◌++◌}
use Rattle.std.specs.List.{flat_map}
use Rattle.std.specs.Vec.Iter.{into_iter_items}
use Rattle.node_diary.specs.declared.fold.Telling.{Telling}
use Rattle.node_diary.proofs.replaying.joined.Given as goal

abbrev pub invariant-loop-telling : goal.invariant-loop-telling
invariant-loop-telling l = l.history ++ flat_map (λ (telling : Telling). telling.events) (into_iter_items l.telling-iterator) ≡ flat_map (λ (telling : Telling). telling.events) l.fn.tellings.items
