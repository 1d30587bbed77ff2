use Rattle.std.proofs.Common.{length, refl, arith}
use Rattle.std.proofs.lemmas.Option.{slice_get_read}
use Rattle.log_law.proofs.ReadEnds.{ends_from, asked_at}
use Rattle.log_law.proofs.reads.asked_by.Goals as goal

pub returns-in-Some : goal.returns-in-Some
returns-in-Some c =
    let ends = rw (c.requires.begun, c.requires.ended) at c.in-Some.ensures in
    let b = ends.before in
    let w = c.requires.within in
    let here = slice_get_read c.args.history.now (length c.args.history.now) c.in-Some.b c.index-history-b.result refl (omega arith) c.index-history-b.is in
    rw c.ask_of.ensures (asked_at c.args.history.now c.args.j c.args.key c.in-Some.b ends c.index-history-b.result here)

pub returns-in-None : goal.returns-in-None
returns-in-None c = λ h. (let none = rw (c.requires.begun, c.requires.ended) at c.in-None.ensures in none h.begun.index (ends_from c.args.history.now c.args.j c.args.key h))
