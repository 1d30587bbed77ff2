use Rattle.std.proofs.Common.{◌≡◌, drop}
use Rattle.std.specs.List.{find}
use Rattle.lazy_rules.specs.Holders.{is_alive}
use Rattle.lazy_core.specs.Standing.{world_of_standing}
use Rattle.lazy_core.proofs.snapshot.Snapshot.first_alive.Given as goal

-- those before are crashed
abbrev pub invariant-loop-node : goal.invariant-loop-node
invariant-loop-node l = find (is_alive (world_of_standing l.self)) (drop l.node-index l.nodes) ≡ find (is_alive (world_of_standing l.self)) l.nodes
