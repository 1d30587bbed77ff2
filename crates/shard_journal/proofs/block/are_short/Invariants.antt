use Rattle.std.proofs.Common.{◌≡◌}
use Rattle.std.specs.Prelude.{slice_range}
use Rattle.std.specs.List.{list_all}
use Rattle.shard_journal.specs.State.{is_short}
use Rattle.shard_journal.proofs.block.are_short.Given as goal

abbrev pub invariant-loop-place : goal.invariant-loop-place
invariant-loop-place l = list_all is_short (slice_range l.store.order l.place l.to) ≡ list_all is_short (slice_range l.store.order l.fn.from l.to)
