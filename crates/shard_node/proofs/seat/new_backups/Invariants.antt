use Rattle.std.proofs.Common.{◌≡◌, map, take}
use Rattle.lazy_rules.specs.ShardState.{new_backup}
use Rattle.shard_node.proofs.seat.new_backups.Given as goal

abbrev pub invariant-loop-node : goal.invariant-loop-node
invariant-loop-node l = l.made.items ≡ map new_backup (take l.node-index l.nodes)
