use Rattle.std.proofs.lemmas.Result.{err_from_is_err_and}
use Rattle.wire_frames.specs.Readers.{members_at, placed_at}
use Rattle.wire_frames.proofs.Ends.{after_placed}
use Rattle.wire_frames.proofs.Members.{one_more, stops}
use Rattle.wire_frames.proofs.reading.lists.entries_in.Goals as goal

pub returns-in_err-placed : goal.returns-in_err-placed
returns-in_err-placed c =
    let p = err_from_is_err_and c.from_residual-in_err-placed.result c.from_residual-in_err-placed.ensures.1 in
    rw (p.1, p.2) (stops (placed_at c.args.edition c.args.size) c.loop.entries c.args.count c.loop.counter c.loop.rest.now c.in_err-placed.field-0.0 (members_at (placed_at c.args.edition c.args.size) c.args.count c.args.left.now.now) c.loop-test.true c.in_err-placed.ensures.gives c.loop.invariant.so_far)

pub loop-preserved : goal.loop-preserved
loop-preserved c = record {
  so_far = rw (c.in_ok-push.ensures.ok) (one_more (placed_at c.args.edition c.args.size) c.loop.entries c.args.count c.loop.counter c.loop.rest.now c.in_ok-placed.placed c.placed_of.new.left.now (members_at (placed_at c.args.edition c.args.size) c.args.count c.args.left.now.now) c.loop-test.true c.in_ok-placed.ensures.gives c.loop.invariant.so_far);
  end = rw (c.in_ok-placed.ensures.same) (after_placed c.args.edition c.args.size c.loop.pool c.loop.rest.now c.placed_of.new.left.now c.in_ok-placed.placed c.loop.invariant.end c.in_ok-placed.ensures.gives);
}
