use Rattle.std.proofs.Common.{◌≡◌, ◌∙◌, arith, length}
use Rattle.std.specs.Prelude.{min}
use Rattle.lazy_core.proofs.Walks.{ids_more, ids_whole}
use Rattle.lazy_core.proofs.peek.ids_in.Goals as goal

pub loop-place-preserved : goal.loop-place-preserved
loop-place-preserved c = record {
  ids = c.in_ok-push.ensures.ok ∙ ids_more c.args.store.now.order c.args.from c.loop-place.place c.cell.result.now c.loop-place.ids c.loop-place.auto.place c.cell.ensures c.loop-place.invariant.ids;
  far = λ past. absurd (omega arith);
}

pub returns : goal.returns
returns c =
    let end : c.min-place-end.result ≡ min c.args.to (length c.args.store.now.order) = omega arith in
    ids_whole c.args.store.now.order c.args.from c.args.to c.loop-place.place c.min-place-end.result c.loop-place.ids end c.loop-place-test.false c.loop-place.auto.place-end c.loop-place.invariant.far c.loop-place.invariant.ids
