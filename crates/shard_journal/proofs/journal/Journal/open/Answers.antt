use Rattle.std.proofs.Common.{Err, ap, ◌∙◌}
use Rattle.shard_journal.proofs.Files.{holds_from, whole_not_damaged}
use Rattle.shard_journal.proofs.journal.Journal.open.Goals as goal

pub returns-in-Ok-clause-holds : goal.returns-in-Ok-clause-holds
returns-in-Ok-clause-holds g c = holds_from (g.D.Disk.seen c.args.disk) (g.D.Disk.seen c.open_file.new.disk) c.in-Ok.found c.in-Ok.ensures.found c.in-Ok.ensures.ready

pub returns-in-Ok-clause-undamaged : goal.returns-in-Ok-clause-undamaged
returns-in-Ok-clause-undamaged g c = λ at damaged.
    let holds = holds_from (g.D.Disk.seen c.args.disk) (g.D.Disk.seen c.open_file.new.disk) c.in-Ok.found c.in-Ok.ensures.found c.in-Ok.ensures.ready in
    absurd (whole_not_damaged (g.D.Disk.seen c.args.disk) holds.blocks c.in-Ok.found.kept at holds.is_file damaged)

pub returns-in-Err-clause-file : goal.returns-in-Err-clause-file
returns-in-Err-clause-file g c = λ blocks end is at same.
    whole_not_damaged (g.D.Disk.seen c.args.disk) blocks end at is (c.open_file.ensures.damaged at (c.in-Err.is ∙ ap Err same))
