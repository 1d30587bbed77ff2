use Rattle.std.proofs.Common.{ap, subst, sym, ◌∙◌}
use Rattle.journal_disk.specs.Disk.{Follows, PartCut}
use Rattle.journal_disk.specs.Past.{Memory, after_deed, Taped, CutTo, LeftBy, file_of}
use Rattle.journal_disk.proofs.Crashes.{file-push, cuts_follow}
use Rattle.std.proofs.Common.{◌≡◌, false, rules}
use Rattle.journal_disk.specs.Meter.{fails_next, after_call}
use Rattle.journal_disk.proofs.Driving.{made_cut}
use Rattle.journal_disk.proofs.mem_disk.MemDiskDisk.cut.Goals as goal

pub returns-in-Ok-clause-cut : goal.returns-in-Ok-clause-cut
returns-in-Ok-clause-cut c = ap (λ (tape : Taped). file_of tape.past) (c.cut.ensures ∙ ap (λ (disk : Memory). after_deed disk.tape (CutTo c.args.size) 0) c.self.view_is) ∙ file-push c.args.self.now.tape.past (CutTo c.args.size)

pub returns-in-Ok-clause-crash : goal.returns-in-Ok-clause-crash
returns-in-Ok-clause-crash c =
    subst (λ (tape : Taped). Follows (PartCut c.args.size) (LeftBy c.args.self.now.tape.past) (LeftBy tape.past)) (sym (c.cut.ensures ∙ ap (λ (disk : Memory). after_deed disk.tape (CutTo c.args.size) 0) c.self.view_is)) (cuts_follow c.args.self.now.tape.past c.args.size c.requires.within)

pub returns-in-Ok-clause-makes : goal.returns-in-Ok-clause-makes
returns-in-Ok-clause-makes c =
    let ok : fails_next c.args.self.now.meter ≡ false = search rules in
    record {
      done =
          made_cut c.args.self.now (record { tape = c.cut.new.self; meter = c.count.new.self }) c.args.size ok (c.count.ensures.after ∙ ap (λ (disk : Memory). after_call disk.meter) c.self.view_is)
          (ap (λ (tape : Taped). tape.past) (c.cut.ensures ∙ ap (λ (disk : Memory). after_deed disk.tape (CutTo c.args.size) 0) c.self.view_is));
      failed = tt;
    }
