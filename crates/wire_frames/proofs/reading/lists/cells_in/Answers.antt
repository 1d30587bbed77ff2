use Rattle.std.proofs.lemmas.Result.{err_from_is_err_and}
use Rattle.wire_frames.specs.Readers.{members_at, cell_at}
use Rattle.wire_frames.proofs.Ends.{after_cell}
use Rattle.wire_frames.proofs.Members.{one_more, stops}
use Rattle.wire_frames.proofs.reading.lists.cells_in.Goals as goal

pub returns-in_err-cell : goal.returns-in_err-cell
returns-in_err-cell c =
    let p = err_from_is_err_and c.from_residual-in_err-cell.result c.from_residual-in_err-cell.ensures.1 in
    rw (p.1, p.2) (stops (cell_at c.args.edition c.args.size) c.loop.cells c.args.count c.loop.counter c.loop.rest.now c.in_err-cell.field-0.0 (members_at (cell_at c.args.edition c.args.size) c.args.count c.args.left.now.now) c.loop-test.true c.in_err-cell.ensures.gives c.loop.invariant.so_far)

pub loop-preserved : goal.loop-preserved
loop-preserved c = record {
  so_far = rw (c.in_ok-push.ensures.ok) (one_more (cell_at c.args.edition c.args.size) c.loop.cells c.args.count c.loop.counter c.loop.rest.now c.in_ok-cell.cell c.cell_of.new.left.now (members_at (cell_at c.args.edition c.args.size) c.args.count c.args.left.now.now) c.loop-test.true c.in_ok-cell.ensures.gives c.loop.invariant.so_far);
  end = rw (c.in_ok-cell.ensures.same) (after_cell c.args.edition c.args.size c.loop.pool c.loop.rest.now c.cell_of.new.left.now c.in_ok-cell.cell c.loop.invariant.end c.in_ok-cell.ensures.gives);
}
