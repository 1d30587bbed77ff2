use Rattle.std.proofs.Common.{◌≡◌, ◌-◌, ◌≤◌, length}
use Rattle.journal_disk.specs.Calls.{Reaches}
use Rattle.journal_disk.specs.Moments.{IsQuiet}
use Rattle.shard_journal.proofs.Scans.{IsScanned}
use Rattle.shard_journal.proofs.scan.scan.Given as goal

abbrev pub invariant-loop-flag : goal.invariant-loop-flag
invariant-loop-flag g l = record {
  scanned : IsScanned (g.D.Disk.seen l.fn.disk) l.found l.flag;
  quiet : IsQuiet g.D.Disk.seen g.D.Disk.may_leave g.D.Disk.moment g.D.Disk.left_since l.fn.disk l.disk;
  reaches : Reaches g.D.Disk.made g.D.Disk.alike l.fn.disk l.disk;
  grows : g.D.Disk.faults l.fn.disk ≤ g.D.Disk.faults l.disk;
}

abbrev pub decreases-loop-flag : goal.decreases-loop-flag
decreases-loop-flag g l = l.size - l.found.end
