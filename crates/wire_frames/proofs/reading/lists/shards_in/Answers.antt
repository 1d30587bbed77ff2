use Rattle.std.proofs.lemmas.Result.{err_from_is_err_and}
use Rattle.wire_frames.specs.Readers.{members_at, nodes_at}
use Rattle.wire_frames.proofs.Members.{one_more, stops}
use Rattle.view_config.specs.declared.limits.TheConstants.{MAX_COPIES}
use Rattle.wire_frames.proofs.reading.lists.shards_in.Goals as goal

pub returns-in_err-nodes : goal.returns-in_err-nodes
returns-in_err-nodes c =
    let p = err_from_is_err_and c.from_residual-in_err-nodes.result c.from_residual-in_err-nodes.ensures.1 in
    rw (p.1, p.2) (stops (nodes_at c.args.size MAX_COPIES) c.loop.shards c.args.count c.loop.counter c.loop.left.now c.in_err-nodes.field-0.0 (members_at (nodes_at c.args.size MAX_COPIES) c.args.count c.args.left.now.now) c.loop-test.true c.in_err-nodes.ensures c.loop.invariant)

pub loop-preserved : goal.loop-preserved
loop-preserved c =
    rw (c.in_ok-push.ensures.ok) (one_more (nodes_at c.args.size MAX_COPIES) c.loop.shards c.args.count c.loop.counter c.loop.left.now c.in_ok-nodes.nodes c.nodes_of.new.left.now (members_at (nodes_at c.args.size MAX_COPIES) c.args.count c.args.left.now.now) c.loop-test.true c.in_ok-nodes.ensures c.loop.invariant)
