use Rattle.std.proofs.Common.{ℕ, List, arith, subst}
use Rattle.journal_disk.proofs.Calling.{reach_then}
use Rattle.journal_disk.proofs.MomentLemmas.{quiet_then}
use Rattle.shard_journal.specs.Reading.{ReadOn}
use Rattle.shard_journal.proofs.Scans.{IsScanned, one_more}
use Rattle.journal_disk.proofs.Calling.{reach_none, reach_call}
use Rattle.shard_journal.proofs.scan.scan.Goals as goal

pub loop-flag-preserved : goal.loop-flag-preserved
loop-flag-preserved g c =
    let k = g.D.Disk in
    let inv = c.loop-flag.invariant in
    let scanned : IsScanned (k.seen c.args.disk.now) c.loop-flag.found 1 = subst (λ (n : ℕ). IsScanned (k.seen c.args.disk.now) c.loop-flag.found n) c.loop-flag-test.true inv.scanned in
    let read : ReadOn (k.seen c.args.disk.now) c.loop-flag.found c.read_next.new.found c.in_ok-flag.flag = subst (λ (l : List ℕ). ReadOn l c.loop-flag.found c.read_next.new.found c.in_ok-flag.flag) inv.quiet.reads c.in_ok-flag.ensures.read in
    record {
      scanned = one_more (k.seen c.args.disk.now) c.loop-flag.found c.read_next.new.found c.in_ok-flag.flag scanned read;
      quiet = quiet_then k.seen k.may_leave k.moment k.left_since c.args.disk.now c.loop-flag.disk c.read_next.new.disk inv.quiet c.read_next.ensures.quiet;
      reaches = reach_then k.made k.alike c.args.disk.now c.loop-flag.disk c.read_next.new.disk inv.reaches c.read_next.ensures.reaches;
      grows = omega (arith, inv.grows, c.read_next.ensures.grows);
    }

pub returns-in_err-read-clause-reaches : goal.returns-in_err-read-clause-reaches
returns-in_err-read-clause-reaches g c =
    reach_call g.D.Disk.made g.D.Disk.alike c.args.disk.now c.args.disk.now c.read.new.self _ _ (reach_none g.D.Disk.made g.D.Disk.alike c.args.disk.now) c.read.ensures.makes

pub returns-in_err-flag-clause-reaches : goal.returns-in_err-flag-clause-reaches
returns-in_err-flag-clause-reaches g c = reach_then g.D.Disk.made g.D.Disk.alike c.args.disk.now c.loop-flag.disk c.read_next.new.disk c.loop-flag.invariant.reaches c.read_next.ensures.reaches
