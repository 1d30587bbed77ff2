use Rattle.std.proofs.Common.{[], ◌∷◌}
use Rattle.journal_disk.specs.Calls.{Cuts, Syncs, Writes}
use Rattle.journal_disk.proofs.Calling.{does_last, does_before}
use Rattle.journal_disk.proofs.sequences.start_over.Goals as goal

pub returns-clause-makes : goal.returns-clause-makes
returns-clause-makes g c =
    let made = g.D.Disk.made in
    let first = c.cut.new.self in
    let second = c.write_at.new.self in
    let last = does_last made second c.sync.new.self Syncs c.sync.result c.sync.ensures.makes in
    let two = does_before made first second c.sync.new.self (Writes 0 (0 ∷ [])) (Syncs ∷ []) c.sync.result c.in_ok-write_at.ensures.makes.done last in
    does_before made c.args.disk.now first c.sync.new.self (Cuts 0) (Writes 0 (0 ∷ []) ∷ Syncs ∷ []) c.sync.result c.in_ok-cut.ensures.makes.done two
