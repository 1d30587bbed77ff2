use Rattle.std.proofs.lemmas.Result.{err_from_is_err_and}
use Rattle.wire_frames.specs.Readers.{members_at, item_at}
use Rattle.wire_frames.proofs.Ends.{after_item}
use Rattle.wire_frames.proofs.Members.{one_more, stops}
use Rattle.wire_frames.proofs.reading.lists.items_in.Goals as goal

pub returns-in_err-item : goal.returns-in_err-item
returns-in_err-item c =
    let p = err_from_is_err_and c.from_residual-in_err-item.result c.from_residual-in_err-item.ensures.1 in
    rw (p.1, p.2) (stops (item_at c.args.edition c.args.size) c.loop.items c.args.count c.loop.counter c.loop.rest.now c.in_err-item.field-0.0 (members_at (item_at c.args.edition c.args.size) c.args.count c.args.left.now.now) c.loop-test.true c.in_err-item.ensures.gives c.loop.invariant.so_far)

pub loop-preserved : goal.loop-preserved
loop-preserved c = record {
  so_far = rw (c.in_ok-push.ensures.ok) (one_more (item_at c.args.edition c.args.size) c.loop.items c.args.count c.loop.counter c.loop.rest.now c.in_ok-item.item c.item_of.new.left.now (members_at (item_at c.args.edition c.args.size) c.args.count c.args.left.now.now) c.loop-test.true c.in_ok-item.ensures.gives c.loop.invariant.so_far);
  end = rw (c.in_ok-item.ensures.same) (after_item c.args.edition c.args.size c.loop.pool c.loop.rest.now c.item_of.new.left.now c.in_ok-item.item c.loop.invariant.end c.in_ok-item.ensures.gives);
}
