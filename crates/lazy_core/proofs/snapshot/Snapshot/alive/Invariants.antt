use Rattle.std.proofs.Common.{◌≡◌, take}
use Rattle.std.specs.List.{filter}
use Rattle.lazy_rules.specs.Holders.{is_alive}
use Rattle.lazy_core.specs.Standing.{world_of_standing}
use Rattle.lazy_core.proofs.snapshot.Snapshot.alive.Given as goal

abbrev pub invariant-loop-node : goal.invariant-loop-node
invariant-loop-node l = l.left ≡ filter (is_alive (world_of_standing l.self)) (take l.node-index l.nodes)
