use Rattle.std.proofs.Common.{ℕ, List, length, ap, subst, sym}
use Rattle.journal_disk.specs.Disk.{AddsNothing}
use Rattle.journal_disk.specs.Past.{Memory, LeftBy, LeftSince, file_of}
use Rattle.shard_journal.proofs.Adding.{settled_still}
use Rattle.shard_journal.proofs.journal.Journal+MemDisk.stop_after.Goals as goal

pub invariant_of-self : goal.invariant_of-self
invariant_of-self c = λ is_open.
    settled_still (λ (disk : Memory). file_of disk.tape.past) (λ (disk : Memory). LeftBy disk.tape.past) (λ (disk : Memory). length disk.tape.past) (λ (disk : Memory) (t : ℕ) (file : List ℕ). LeftSince disk.tape.past t file)
    c.self.inside.disk c.stop_after.new.self c.self.inside.kept c.self.inside.end (c.self.invariant is_open)
    (ap (λ (disk : Memory). file_of disk.tape.past) c.stop_after.ensures) (subst (λ (disk : Memory). AddsNothing (LeftBy c.self.inside.disk.tape.past) (LeftBy disk.tape.past)) (sym c.stop_after.ensures) (λ file left. left))
