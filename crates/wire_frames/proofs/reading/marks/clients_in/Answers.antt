use Rattle.std.proofs.lemmas.Result.{err_from_is_err_and}
use Rattle.wire_frames.specs.Readers.{members_at, marks_at}
use Rattle.wire_frames.proofs.Members.{one_more, stops}
use Rattle.wire_frames.proofs.reading.marks.clients_in.Goals as goal

pub returns-in_err-marks : goal.returns-in_err-marks
returns-in_err-marks c =
    let p = err_from_is_err_and c.from_residual-in_err-marks.result c.from_residual-in_err-marks.ensures.1 in
    rw (p.1, p.2) (stops (marks_at c.args.edition c.args.size) c.loop.window c.args.count c.loop.counter c.loop.left.now c.in_err-marks.field-0.0 (members_at (marks_at c.args.edition c.args.size) c.args.count c.args.left.now.now) c.loop-test.true c.in_err-marks.ensures c.loop.invariant)

pub loop-preserved : goal.loop-preserved
loop-preserved c =
    rw (c.in_ok-push.ensures.ok) (one_more (marks_at c.args.edition c.args.size) c.loop.window c.args.count c.loop.counter c.loop.left.now c.in_ok-marks.marks c.marks_of.new.left.now (members_at (marks_at c.args.edition c.args.size) c.args.count c.args.left.now.now) c.loop-test.true c.in_ok-marks.ensures c.loop.invariant)
