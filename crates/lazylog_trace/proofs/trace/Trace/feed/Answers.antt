use Rattle.std.proofs.Common.{◌≡◌, ◌∙◌, get_or, refl, arith}
use Rattle.io_edges.specs.declared.status.Status.TheVariants.{WriteFault}
use Rattle.lazylog_trace.specs.Trace.{progress_of}
use Rattle.lazylog_trace.proofs.ByteOutput.{one_more, stop_at, stop_led, stop_failed}
use Rattle.lazylog_trace.proofs.trace.Trace.feed.Goals as goal

pub returns-in-Err-clause-writes : goal.returns-in-Err-clause-writes
returns-in-Err-clause-writes g c =
    stop_at (progress_of c.args.self.now) (progress_of c.loop-byte.self) _ c.args.bytes.now c.loop-byte.byte-index (get_or c.args.bytes.now c.loop-byte.byte-index 0) (g.K.Sink.written c.args.sink.now) (g.K.Sink.written c.loop-byte.sink) (g.K.Sink.written c.feed_byte.new.sink) _ (omega arith) refl c.loop-byte.invariant.so_far c.in-Err.ensures.writes

pub returns-in-Err-clause-led : goal.returns-in-Err-clause-led
returns-in-Err-clause-led g c =
    stop_led (progress_of c.args.self.now) (progress_of c.loop-byte.self) (progress_of c.feed_byte.new.self) c.args.bytes.now c.loop-byte.byte-index (get_or c.args.bytes.now c.loop-byte.byte-index 0) (g.K.Sink.written c.args.sink.now) (g.K.Sink.written c.loop-byte.sink) (g.K.Sink.written c.feed_byte.new.sink) _ (omega arith) refl c.loop-byte.invariant.so_far c.in-Err.ensures.writes c.in-Err.ensures.led

pub returns-in-Err-clause-failed : goal.returns-in-Err-clause-failed
returns-in-Err-clause-failed g c = λ more e.
    let is : c.in-Err.status ≡ WriteFault = cc in
    stop_failed (progress_of c.args.self.now) (progress_of c.loop-byte.self) (progress_of c.feed_byte.new.self) c.args.bytes.now c.loop-byte.byte-index (get_or c.args.bytes.now c.loop-byte.byte-index 0) (g.K.Sink.written c.args.sink.now) (g.K.Sink.written c.loop-byte.sink) (g.K.Sink.written c.feed_byte.new.sink) _ (omega arith) refl c.loop-byte.invariant.so_far c.in-Err.ensures.writes c.in-Err.ensures.led
    more (c.in-Err.ensures.newline e) is

pub loop-byte-preserved : goal.loop-byte-preserved
loop-byte-preserved g c =
    let so_far = c.loop-byte.invariant in
    let now = c.in-Ok.ensures in
    record {
      kept = now.kept;
      nearer = omega (arith, so_far.nearer, now.nearer);
      so_far = one_more (progress_of c.args.self.now) (progress_of c.loop-byte.self) _ c.args.bytes.now c.loop-byte.byte-index (get_or c.args.bytes.now c.loop-byte.byte-index 0) (g.K.Sink.written c.args.sink.now) (g.K.Sink.written c.loop-byte.sink) (g.K.Sink.written c.feed_byte.new.sink) _ (omega arith) refl so_far.so_far now.writes;
      faultless = now.stopped.faultless (λ e. cc) ∙ so_far.faultless;
    }
