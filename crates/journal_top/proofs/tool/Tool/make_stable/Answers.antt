use Rattle.journal_top.proofs.Parts.{closed_below}
use Rattle.journal_top.proofs.tool.Tool.make_stable.Goals as goal

pub raise_stable-requires-clause-closed : goal.raise_stable-requires-clause-closed
raise_stable-requires-clause-closed c = closed_below c.tool.inside.store c.args.to c.tool.invariant.sound.plain
