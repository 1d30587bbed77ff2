use Rattle.std.proofs.Common.{◌≡◌, map, not, take}
use Rattle.std.specs.List.{filter}
use Rattle.lazy_rules.specs.Pushing.{reaches}
use Rattle.shard_node.proofs.draft.lagging.Given as goal

abbrev pub invariant-loop-backup : goal.invariant-loop-backup
invariant-loop-backup l = l.nodes ≡ map (λ backup. backup.node) (filter (λ backup. not (reaches l.upto backup)) (take l.backup-index l.backups))
