use Rattle.journal_disk.specs.Calls.{start_calls}
use Rattle.journal_disk.proofs.Calling.{reach_none, reach_does}
use Rattle.shard_journal.proofs.opening.make_new.Goals as goal

pub returns-in_err-start_over-clause-reaches : goal.returns-in_err-start_over-clause-reaches
returns-in_err-start_over-clause-reaches g c =
    reach_does g.D.Disk.made g.D.Disk.alike start_calls c.args.disk.now c.args.disk.now c.start_over.new.disk _ (reach_none g.D.Disk.made g.D.Disk.alike c.args.disk.now) c.start_over.ensures.makes

pub returns-clause-reaches : goal.returns-clause-reaches
returns-clause-reaches g c =
    reach_does g.D.Disk.made g.D.Disk.alike start_calls c.args.disk.now c.args.disk.now c.start_over.new.disk _ (reach_none g.D.Disk.made g.D.Disk.alike c.args.disk.now) c.start_over.ensures.makes
