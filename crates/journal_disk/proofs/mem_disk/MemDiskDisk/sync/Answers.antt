use Rattle.std.proofs.Common.{ap, subst, sym, ◌∙◌}
use Rattle.journal_disk.specs.Disk.{Only, AddsNothing}
use Rattle.journal_disk.specs.Past.{Memory, after_deed, Taped, LeftBy, Synced, file_of}
use Rattle.journal_disk.proofs.Crashes.{only_synced, syncs_add, synced_reads}
use Rattle.std.proofs.Common.{◌≡◌, false, rules}
use Rattle.journal_disk.specs.Meter.{fails_next, after_call}
use Rattle.journal_disk.proofs.Driving.{made_sync}
use Rattle.journal_disk.proofs.mem_disk.MemDiskDisk.sync.Goals as goal

pub returns-in-Ok-clause-durable : goal.returns-in-Ok-clause-durable
returns-in-Ok-clause-durable c = subst (λ (tape : Taped). Only (file_of c.args.self.now.tape.past) (LeftBy tape.past)) (sym (c.sync.ensures ∙ ap (λ (disk : Memory). after_deed disk.tape Synced 0) c.self.view_is)) (only_synced c.args.self.now.tape.past)

pub returns-in-Ok-clause-reads : goal.returns-in-Ok-clause-reads
returns-in-Ok-clause-reads c = ap (λ (tape : Taped). file_of tape.past) (c.sync.ensures ∙ ap (λ (disk : Memory). after_deed disk.tape Synced 0) c.self.view_is) ∙ synced_reads c.args.self.now.tape.past

pub returns-in-Ok-clause-crash : goal.returns-in-Ok-clause-crash
returns-in-Ok-clause-crash c = subst (λ (tape : Taped). AddsNothing (LeftBy c.args.self.now.tape.past) (LeftBy tape.past)) (sym (c.sync.ensures ∙ ap (λ (disk : Memory). after_deed disk.tape Synced 0) c.self.view_is)) (syncs_add c.args.self.now.tape.past)

pub returns-in-Ok-clause-makes : goal.returns-in-Ok-clause-makes
returns-in-Ok-clause-makes c =
    let ok : fails_next c.args.self.now.meter ≡ false = search rules in
    record {
      done =
          made_sync c.args.self.now (record { tape = c.sync.new.self; meter = c.count.new.self }) ok (c.count.ensures.after ∙ ap (λ (disk : Memory). after_call disk.meter) c.self.view_is)
          (ap (λ (tape : Taped). tape.past) (c.sync.ensures ∙ ap (λ (disk : Memory). after_deed disk.tape Synced 0) c.self.view_is));
      failed = tt;
    }
