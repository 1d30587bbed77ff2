use Rattle.std.proofs.Common.{◌≤◌, length, arith}
use Rattle.view_config.specs.Limits.{line_limit}
use Rattle.lazylog_trace.proofs.ByteOutput.{newline_writes, too_long_writes}
use Rattle.lazylog_trace.specs.Trace.{progress_of}
use Rattle.lazylog_trace.proofs.trace.Trace.feed_byte.Goals as goal

pub returns-then-byte-eq10-clause-writes : goal.returns-then-byte-eq10-clause-writes
returns-then-byte-eq10-clause-writes g c = newline_writes (progress_of c.args.self.now) c.args.byte _ _ _ _ c.if-byte-eq10.true c.apply_line.ensures.writes

pub returns-then-len-line_limit-clause-writes : goal.returns-then-len-line_limit-clause-writes
returns-then-len-line_limit-clause-writes g c =
    let full : line_limit c.args.self.now.world.shape.edition ≤ length c.args.self.now.part.items = grind arith in
    too_long_writes (progress_of c.args.self.now) c.args.byte _ _ _ _ c.if-byte-eq10.false full (c.refuse_line.ensures.writes (g.K.Sink.written c.args.sink.now))
