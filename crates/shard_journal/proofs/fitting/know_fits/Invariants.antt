use Rattle.std.proofs.Common.{take}
use Rattle.std.specs.Prelude.{All}
use Rattle.view_config.specs.declared.edition.Edition.TheVariants.{One}
use Rattle.lazy_msgs.specs.FrameLimits.{PlacedFits}
use Rattle.shard_journal.proofs.fitting.know_fits.Given as goal

abbrev pub invariant-loop-placed : goal.invariant-loop-placed
invariant-loop-placed l = All (PlacedFits One) (take l.placed-index l.placed-items)
