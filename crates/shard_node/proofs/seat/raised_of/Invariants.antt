use Rattle.std.proofs.Common.{◌≡◌, take}
use Rattle.lazy_rules.specs.ShardRules.{raised_of}
use Rattle.shard_node.proofs.seat.raised_of.Given as goal

abbrev pub invariant-loop-backup : goal.invariant-loop-backup
invariant-loop-backup l = l.made.items ≡ raised_of l.node l.upto (take l.backup-index l.backups)
