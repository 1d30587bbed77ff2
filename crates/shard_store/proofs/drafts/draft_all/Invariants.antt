use Rattle.std.proofs.Common.{◌≡◌, take}
use Rattle.shard_store.specs.Settling.{drafts}
use Rattle.shard_store.proofs.drafts.draft_all.Given as goal

abbrev pub invariant-loop-i : goal.invariant-loop-i
invariant-loop-i l = l.made.items ≡ drafts l.mode l.shard l.shards l.from (take l.i l.items)
