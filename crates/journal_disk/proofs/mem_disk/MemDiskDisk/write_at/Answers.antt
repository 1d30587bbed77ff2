use Rattle.std.proofs.Common.{length, ap, subst, sym, ◌∙◌}
use Rattle.journal_disk.specs.Disk.{Follows, Torn}
use Rattle.journal_disk.specs.Past.{Memory, after_deed, Taped, Written, LeftBy, file_of}
use Rattle.journal_disk.proofs.Crashes.{file-push, writes_follow}
use Rattle.std.proofs.Common.{◌≡◌, false, rules}
use Rattle.journal_disk.specs.Meter.{fails_next, after_call}
use Rattle.journal_disk.proofs.Driving.{made_write}
use Rattle.journal_disk.proofs.mem_disk.MemDiskDisk.write_at.Goals as goal

pub returns-in-Ok-clause-written : goal.returns-in-Ok-clause-written
returns-in-Ok-clause-written c = ap (λ (tape : Taped). file_of tape.past) (c.write.ensures ∙ ap (λ (disk : Memory). after_deed disk.tape (Written c.args.at c.args.bytes.now) (length c.args.bytes.now)) c.self.view_is) ∙ file-push c.args.self.now.tape.past (Written c.args.at c.args.bytes.now)

pub returns-in-Ok-clause-crash : goal.returns-in-Ok-clause-crash
returns-in-Ok-clause-crash c =
    subst (λ (tape : Taped). Follows (Torn c.args.at (length c.args.bytes.now)) (LeftBy c.args.self.now.tape.past) (LeftBy tape.past)) (sym (c.write.ensures ∙ ap (λ (disk : Memory). after_deed disk.tape (Written c.args.at c.args.bytes.now) (length c.args.bytes.now)) c.self.view_is)) (writes_follow c.args.self.now.tape.past c.args.at c.args.bytes.now c.requires.begins)

pub returns-in-Ok-clause-makes : goal.returns-in-Ok-clause-makes
returns-in-Ok-clause-makes c =
    let ok : fails_next c.args.self.now.meter ≡ false = search rules in
    record {
      done =
          made_write c.args.self.now (record { tape = c.write.new.self; meter = c.count.new.self }) c.args.at c.args.bytes.now ok (c.count.ensures.after ∙ ap (λ (disk : Memory). after_call disk.meter) c.self.view_is)
          (ap (λ (tape : Taped). tape.past) (c.write.ensures ∙ ap (λ (disk : Memory). after_deed disk.tape (Written c.args.at c.args.bytes.now) (length c.args.bytes.now)) c.self.view_is));
      failed = tt;
    }
