use Rattle.std.proofs.Common.{below_more, refl, arith}
use Rattle.std.proofs.lemmas.Option.{slice_get_read}
use Rattle.log_law.proofs.ReadEnds.{trims_to, trims_past}
use Rattle.log_law.proofs.trims.first_untrimmed.Goals as goal

pub loop-j-preserved : goal.loop-j-preserved
loop-j-preserved c =
    let here = slice_get_read _ _ _ _ refl c.loop-j-test.true c.index-history-j.is in
    record {
      highest = c.raised-highest.ensures;
      kept = below_more _ _ c.loop-j.invariant.kept (trims_to c.args.history.now c.loop-j.j _ here (c.keeps_trims.ensures.0 c.if-not-keeps_trims.false));
    }

pub returns : goal.returns
returns c = λ i _. trims_past c.args.history.now c.loop-j.j (omega arith) c.loop-j.invariant.kept i
