use Rattle.journal_disk.proofs.Calling.{reach_none, reach_call}
use Rattle.shard_journal.proofs.pieces.read_piece.Goals as goal

pub returns-in_err-resize-clause-reaches : goal.returns-in_err-resize-clause-reaches
returns-in_err-resize-clause-reaches g c = reach_none g.D.Disk.made g.D.Disk.alike c.args.disk.now

pub returns-in_err-read-clause-reaches : goal.returns-in_err-read-clause-reaches
returns-in_err-read-clause-reaches g c = reach_call g.D.Disk.made g.D.Disk.alike c.args.disk.now c.args.disk.now c.read.new.self _ _ (reach_none g.D.Disk.made g.D.Disk.alike c.args.disk.now) c.read.ensures.makes

pub returns-clause-reaches : goal.returns-clause-reaches
returns-clause-reaches g c = reach_call g.D.Disk.made g.D.Disk.alike c.args.disk.now c.args.disk.now c.read.new.self _ _ (reach_none g.D.Disk.made g.D.Disk.alike c.args.disk.now) c.read.ensures.makes
