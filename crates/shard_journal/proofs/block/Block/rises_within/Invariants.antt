use Rattle.std.proofs.Common.{◌≡◌, drop}
use Rattle.shard_journal.specs.Blocks.{rises_within}
use Rattle.shard_journal.proofs.block.Block.rises_within.Given as goal

abbrev pub invariant-loop-placed : goal.invariant-loop-placed
invariant-loop-placed l = rises_within l.next l.to (drop l.placed-index l.placed-items) ≡ rises_within l.from l.to l.entries
