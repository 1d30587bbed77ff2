use Rattle.std.proofs.lemmas.Result.{err_from_is_err_and}
use Rattle.wire_frames.specs.Readers.{members_at, node_at}
use Rattle.wire_frames.proofs.Members.{one_more, stops}
use Rattle.wire_frames.proofs.reading.lists.nodes_in.Goals as goal

pub returns-in_err-node : goal.returns-in_err-node
returns-in_err-node c =
    let p = err_from_is_err_and c.from_residual-in_err-node.result c.from_residual-in_err-node.ensures.1 in
    rw (p.1, p.2) (stops (node_at c.args.size) c.loop.nodes c.args.count c.loop.counter c.loop.left.now c.in_err-node.field-0.0 (members_at (node_at c.args.size) c.args.count c.args.left.now.now) c.loop-test.true c.in_err-node.ensures c.loop.invariant)

pub loop-preserved : goal.loop-preserved
loop-preserved c =
    rw (c.in_ok-push.ensures.ok) (one_more (node_at c.args.size) c.loop.nodes c.args.count c.loop.counter c.loop.left.now c.in_ok-node.node c.node_of.new.left.now (members_at (node_at c.args.size) c.args.count c.args.left.now.now) c.loop-test.true c.in_ok-node.ensures c.loop.invariant)
