use Rattle.std.proofs.Common.{sym, ◌∙◌}
use Rattle.shard_journal.proofs.NextBlocks.{short_on, not_short}
use Rattle.shard_journal.proofs.block.are_short.Goals as goal

pub returns-then-not-is_short : goal.returns-then-not-is_short
returns-then-not-is_short c =
    not_short c.args.store.now.order c.args.from c.loop-place.place c.args.to c.cell.result.now c.loop-place-test.true c.requires c.cell.ensures c.loop-place.invariant (sym c.is_short.ensures ∙ c.if-not-is_short.true)

pub loop-place-preserved : goal.loop-place-preserved
loop-place-preserved c =
    short_on c.args.store.now.order c.args.from c.loop-place.place c.args.to c.cell.result.now c.loop-place-test.true c.requires c.cell.ensures c.loop-place.invariant (sym c.is_short.ensures ∙ c.if-not-is_short.false)
