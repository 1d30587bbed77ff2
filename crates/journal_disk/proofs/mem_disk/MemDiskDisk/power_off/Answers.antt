use Rattle.std.proofs.Common.{ap, subst, sym, ◌∙◌}
use Rattle.journal_disk.specs.Disk.{AddsNothing}
use Rattle.journal_disk.specs.Past.{Memory, rewound, Taped, LeftBy}
use Rattle.journal_disk.proofs.Crashes.{off_adds}
use Rattle.journal_disk.proofs.mem_disk.MemDiskDisk.power_off.Goals as goal

pub returns-clause-crash : goal.returns-clause-crash
returns-clause-crash c = subst (λ (tape : Taped). AddsNothing (LeftBy c.args.self.now.tape.past) (LeftBy tape.past)) (sym (c.rewind.ensures ∙ ap (λ (disk : Memory). rewound disk.tape) c.self.view_is)) (off_adds c.args.self.now.tape.past)
