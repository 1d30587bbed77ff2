use Rattle.std.proofs.Common.{◌≡◌, ◌++◌, drop}
use Rattle.lazy_rules.specs.Flight.{new_batch}
use Rattle.lazy_rules.specs.Leading.{place_sends}
use Rattle.lazy_rules.specs.Rows.{each_numbered}
use Rattle.seq_node.specs.Batches.{place_at}
use Rattle.seq_node.proofs.node.SeqNode.add_new.Given as goal

abbrev pub invariant-loop-shard : goal.invariant-loop-shard
invariant-loop-shard l = l.sends ++ each_numbered (place_at l.fn.self l.from l.count) l.shard (drop l.shard l.fn.self.config.shards) ≡ l.fn.sends ++ place_sends l.fn.self (new_batch l.from l.count)
