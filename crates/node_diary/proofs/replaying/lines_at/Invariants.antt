use Rattle.std.proofs.Common.{◌≡◌, ◌++◌, drop}
use Rattle.std.specs.List.{flat_map}
use Rattle.lazy_core.specs.Filled.{spared_line}
use Rattle.lazy_core.specs.Standing.{world_of_standing}
use Rattle.node_diary.proofs.replaying.lines_at.Given as goal

abbrev pub invariant-loop-holder : goal.invariant-loop-holder
invariant-loop-holder l = l.lines ++ flat_map (spared_line (world_of_standing l.snapshot)) (drop l.holder-index l.nodes) ≡ flat_map (spared_line (world_of_standing l.snapshot)) l.nodes
