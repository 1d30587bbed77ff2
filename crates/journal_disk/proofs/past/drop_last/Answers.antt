use Rattle.std.proofs.Common.{arith, ◌∙◌}
use Rattle.journal_disk.proofs.Pasts.{drops_write, drops_cut, enough_for, stays_synced}
use Rattle.journal_disk.proofs.past.drop_last.Goals as goal

pub overflow_sub-len : goal.overflow_sub-len
overflow_sub-len c =
    let enough = enough_for _ _ _ _ _ _ c.in-Some-Write.ensures.items c.in-Some-Write.field-0-is c.requires in
    omega (arith, enough, c.len.ensures, c.args.bytes.now.ok.0)

pub returns-in-Some-Write-clause-left : goal.returns-in-Some-Write-clause-left
returns-in-Some-Write-clause-left c =
    (drops_write _ _ _ _ _ _ _ _ c.in-Some-Write.ensures.items c.in-Some-Write.field-0-is c.requires (c.len.ensures ∙ c.args.bytes.now.ok.0) c.truncate.ensures.items).left

pub returns-in-Some-Write-clause-bytes_are : goal.returns-in-Some-Write-clause-bytes_are
returns-in-Some-Write-clause-bytes_are c =
    (drops_write _ _ _ _ _ _ _ _ c.in-Some-Write.ensures.items c.in-Some-Write.field-0-is c.requires (c.len.ensures ∙ c.args.bytes.now.ok.0) c.truncate.ensures.items).bytes_are

pub returns-in-Some-Cut-clause-left : goal.returns-in-Some-Cut-clause-left
returns-in-Some-Cut-clause-left c = (drops_cut _ _ _ _ _ c.in-Some-Cut.ensures.items c.in-Some-Cut.field-0-is c.requires).left

pub returns-in-Some-Cut-clause-bytes_are : goal.returns-in-Some-Cut-clause-bytes_are
returns-in-Some-Cut-clause-bytes_are c = (drops_cut _ _ _ _ _ c.in-Some-Cut.ensures.items c.in-Some-Cut.field-0-is c.requires).bytes_are

pub returns-in-Some-Sync-clause-none : goal.returns-in-Some-Sync-clause-none
returns-in-Some-Sync-clause-none c _ = stays_synced _ _ _ _ _ c.in-Some-Sync.ensures.items c.in-Some-Sync.field-0-is c.requires c.push_change.ensures.items
