use Rattle.std.proofs.Common.{◌≡◌, ◌++◌, map, take}
use Rattle.std.specs.List.{flat_map}
use Rattle.node_diary.specs.Folding.{found_state, found_tellings}
use Rattle.node_diary.proofs.replaying.fold_all.Given as goal

abbrev pub invariant-loop-i : goal.invariant-loop-i
invariant-loop-i l = record {
  states : l.states ≡ map (found_state l.shape l.diaries) (take l.i l.nodes);
  told : l.tellings.items ≡ l.fn.tellings.items ++ flat_map (found_tellings l.shape l.diaries) (take l.i l.nodes);
}
