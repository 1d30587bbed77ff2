use Rattle.journal_disk.proofs.Calling.{reach_none, reach_alike, reach_call, reach_then}
use Rattle.shard_journal.proofs.opening.open_file.Goals as goal

pub returns-in_err-reserve-clause-reaches : goal.returns-in_err-reserve-clause-reaches
returns-in_err-reserve-clause-reaches g c =
    reach_alike g.D.Disk.made g.D.Disk.alike c.args.disk.now c.args.disk.now c.reserve.new.self (reach_none g.D.Disk.made g.D.Disk.alike c.args.disk.now) c.reserve.ensures.alike

pub returns-in_err-sync-clause-reaches : goal.returns-in_err-sync-clause-reaches
returns-in_err-sync-clause-reaches g c =
    reach_call g.D.Disk.made g.D.Disk.alike c.args.disk.now c.reserve.new.self c.sync.new.self _ _ (reach_alike g.D.Disk.made g.D.Disk.alike c.args.disk.now c.args.disk.now c.reserve.new.self (reach_none g.D.Disk.made g.D.Disk.alike c.args.disk.now) c.reserve.ensures.alike) c.sync.ensures.makes

pub returns-in_err-size-clause-reaches : goal.returns-in_err-size-clause-reaches
returns-in_err-size-clause-reaches g c =
    reach_call g.D.Disk.made g.D.Disk.alike c.args.disk.now c.sync.new.self c.size.new.self _ _ (reach_call g.D.Disk.made g.D.Disk.alike c.args.disk.now c.reserve.new.self c.sync.new.self _ _ (reach_alike g.D.Disk.made g.D.Disk.alike c.args.disk.now c.args.disk.now c.reserve.new.self (reach_none g.D.Disk.made g.D.Disk.alike c.args.disk.now) c.reserve.ensures.alike) c.sync.ensures.makes) c.size.ensures.makes

pub returns-then-size-lt2-clause-reaches : goal.returns-then-size-lt2-clause-reaches
returns-then-size-lt2-clause-reaches g c =
    reach_then g.D.Disk.made g.D.Disk.alike c.args.disk.now c.size.new.self c.make_new.new.disk (reach_call g.D.Disk.made g.D.Disk.alike c.args.disk.now c.sync.new.self c.size.new.self _ _ (reach_call g.D.Disk.made g.D.Disk.alike c.args.disk.now c.reserve.new.self c.sync.new.self _ _ (reach_alike g.D.Disk.made g.D.Disk.alike c.args.disk.now c.args.disk.now c.reserve.new.self (reach_none g.D.Disk.made g.D.Disk.alike c.args.disk.now) c.reserve.ensures.alike) c.sync.ensures.makes) c.size.ensures.makes) c.make_new.ensures.reaches

pub returns-clause-reaches : goal.returns-clause-reaches
returns-clause-reaches g c =
    reach_then g.D.Disk.made g.D.Disk.alike c.args.disk.now c.size.new.self c.scan.new.disk (reach_call g.D.Disk.made g.D.Disk.alike c.args.disk.now c.sync.new.self c.size.new.self _ _ (reach_call g.D.Disk.made g.D.Disk.alike c.args.disk.now c.reserve.new.self c.sync.new.self _ _ (reach_alike g.D.Disk.made g.D.Disk.alike c.args.disk.now c.args.disk.now c.reserve.new.self (reach_none g.D.Disk.made g.D.Disk.alike c.args.disk.now) c.reserve.ensures.alike) c.sync.ensures.makes) c.size.ensures.makes) c.scan.ensures.reaches
