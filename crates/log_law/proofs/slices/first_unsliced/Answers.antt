use Rattle.std.proofs.Common.{below_more, refl, arith}
use Rattle.std.proofs.lemmas.Option.{slice_get_read}
use Rattle.log_law.proofs.Slicing.{slices_to, slices_past}
use Rattle.log_law.proofs.slices.first_unsliced.Goals as goal

pub loop-j-preserved : goal.loop-j-preserved
loop-j-preserved c =
    let here = slice_get_read _ _ _ _ refl c.loop-j-test.true c.index-history-j.is in
    below_more _ _ c.loop-j.invariant (slices_to c.args.history.now c.args.line.now c.loop-j.j _ here (c.keeps_slices.ensures.0 c.if-not-keeps_slices.false))

pub returns : goal.returns
returns c = λ i _. slices_past c.args.history.now c.args.line.now c.loop-j.j (omega arith) c.loop-j.invariant i
