use Rattle.lazy_core.specs.Standing.{world_of_standing}
use Rattle.lazy_core.proofs.ReachedWorlds.{lawful_where}
use Rattle.lazy_core.proofs.snapshot.Snapshot.line.Goals as goal

pub returns-clause-lawful : goal.returns-clause-lawful
returns-clause-lawful c = lawful_where (world_of_standing c.args.self.now) c.args.holder c.line_of.result c.line_of.ensures.told
