use Rattle.std.proofs.Common.{◌≡◌, None, replicate}
use Rattle.log_reader.proofs.fetch.no_parts.Given as goal

abbrev pub invariant-loop-shard : goal.invariant-loop-shard
invariant-loop-shard l = l.parts.items ≡ replicate l._shard None
