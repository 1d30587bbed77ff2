use Rattle.std.proofs.Common.{arith}
use Rattle.journal_disk.proofs.Overwriting.{overwritten}
use Rattle.journal_disk.proofs.past.write_over.Goals as goal

pub returns-clause-written : goal.returns-clause-written
returns-clause-written c =
    overwritten _ _ c.args.bytes.now _ _ c.args.at c.args.len _ _ c.deref_mut.ensures.value c.args.buffer.now.ok.0 c.copy_from_slice.ensures.after (omega arith) c.max.ensures c.requires.begins c.requires.within c.requires.ends
