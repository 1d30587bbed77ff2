use Rattle.std.proofs.Common.{◌≡◌, take}
use Rattle.lazy_rules.specs.Rows.{each_numbered}
use Rattle.log_reader.specs.Rounds.{turn_sends}
use Rattle.log_reader.proofs.sends.round.Given as goal

abbrev pub invariant-loop-shard : goal.invariant-loop-shard
invariant-loop-shard l = l.sends ≡ each_numbered (turn_sends l.fetch l.fn.turn) 0 (take l.shard l.config.shards)
