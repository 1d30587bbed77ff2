use Rattle.std.proofs.Common.{List, ℕ, ap, subst, ◌∙◌, arith}
use Rattle.rec_id.specs.declared.marks.Marks.{Marks}
use Rattle.rec_id.specs.Marks.{is_seen, stands_marked}
use Rattle.seen_window.proofs.WiderMarks.{Made, made_none, made_more, widened_is}
use Rattle.seen_window.proofs.wider.widen_marks.Goals as goal

pub loop-i-init : goal.loop-i-init
loop-i-init c = rw c.in_ok-bits.ensures.items (made_none (stands_marked c.args.marks.now.top (is_seen c.args.marks.now)))

pub loop-i-preserved : goal.loop-i-preserved
loop-i-preserved c =
    rw c.in_ok-push.ensures.items
    (made_more (stands_marked c.args.marks.now.top (is_seen c.args.marks.now)) c.loop-i.i c.loop-i.bits.items c.widened_word.result c.loop-i.invariant c.widened_word.type_inv c.widened_word.ensures)

pub returns : goal.returns
returns c =
    let marks = c.args.marks.now in
    let made = subst (λ (n : ℕ). Made (stands_marked marks.top (is_seen marks)) n c.loop-i.bits.items) (omega arith) c.loop-i.invariant in
    ap (λ (list : List ℕ). let whole : Marks = record { top = marks.top; bits = list } in whole) c.from_vec.ensures
    ∙ widened_is marks c.loop-i.bits.items made
