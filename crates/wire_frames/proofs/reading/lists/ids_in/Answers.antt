use Rattle.std.proofs.lemmas.Result.{err_from_is_err_and}
use Rattle.wire_frames.specs.Readers.{members_at, id_at}
use Rattle.wire_frames.proofs.Members.{one_more, stops}
use Rattle.wire_frames.proofs.reading.lists.ids_in.Goals as goal

pub returns-in_err-id : goal.returns-in_err-id
returns-in_err-id c =
    let p = err_from_is_err_and c.from_residual-in_err-id.result c.from_residual-in_err-id.ensures.1 in
    rw (p.1, p.2) (stops (id_at c.args.size) c.loop.ids c.args.count c.loop.counter c.loop.rest.now c.in_err-id.field-0.0 (members_at (id_at c.args.size) c.args.count c.args.left.now.now) c.loop-test.true c.in_err-id.ensures c.loop.invariant)

pub loop-preserved : goal.loop-preserved
loop-preserved c =
    rw (c.in_ok-push.ensures.ok) (one_more (id_at c.args.size) c.loop.ids c.args.count c.loop.counter c.loop.rest.now c.in_ok-id.id c.id_of.new.left.now (members_at (id_at c.args.size) c.args.count c.args.left.now.now) c.loop-test.true c.in_ok-id.ensures c.loop.invariant)
