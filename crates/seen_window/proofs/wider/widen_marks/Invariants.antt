use Rattle.rec_id.specs.Marks.{is_seen, stands_marked}
use Rattle.seen_window.proofs.WiderMarks.{Made}
use Rattle.seen_window.proofs.wider.widen_marks.Given as goal

abbrev pub invariant-loop-i : goal.invariant-loop-i
invariant-loop-i l = Made (stands_marked l.marks.top (is_seen l.marks)) l.i l.bits.items
