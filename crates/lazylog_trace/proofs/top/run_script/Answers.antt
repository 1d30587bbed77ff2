use Rattle.io_edges.specs.Faults.{Rose}
use Rattle.std.proofs.Common.{subst, ℕ, take, ap, refl, ◌∙◌, arith}
use Rattle.std.specs.Prelude.{Err}
use Rattle.std.specs.Io.KnownBytes.{prepend_known}
use Rattle.lazylog_trace.specs.Trace.{progress_of}
use Rattle.io_edges.specs.declared.status.Status.TheVariants.{ReadFault}
use Rattle.lazylog_trace.proofs.ScriptOutput.{far_fault, far_more, far_stop, far_end}
use Rattle.lazylog_trace.proofs.top.run_script.Goals as goal

pub returns-in_default-clause-ran : goal.returns-in_default-clause-ran
returns-in_default-clause-ran g c =
    far_fault (progress_of c.args.trace.now) (progress_of c.loop-count.trace) (g.S.Source.left c.args.source.now) (g.S.Source.left c.loop-count.source) (g.S.Source.left c.read.new.self) (g.K.Sink.written c.args.sink.now) (g.K.Sink.written c.loop-count.sink) c.loop-count.invariant.far (g.S.Source.faults c.args.source.now) (g.S.Source.faults c.read.new.self) ReadFault refl c.in_default.ensures.unread
    (subst (λ (n : ℕ). Rose n (g.S.Source.faults c.read.new.self)) c.loop-count.invariant.source_faultless c.in_default.ensures.failed)

pub returns-then-count-eq0-clause-ran : goal.returns-then-count-eq0-clause-ran
returns-then-count-eq0-clause-ran g c =
    far_end (progress_of c.args.trace.now) (progress_of c.loop-count.trace) (g.S.Source.left c.args.source.now) (g.S.Source.left c.loop-count.source) (g.S.Source.left c.read.new.self) (g.K.Sink.written c.args.sink.now) (g.K.Sink.written c.loop-count.sink) c.loop-count.invariant.far
    (c.in-Ok.ensures.bytes ∙ ap (λ (n : ℕ). prepend_known (take n c.read.new.buf) (g.S.Source.left c.read.new.self)) c.if-count-eq0.true)
    (c.in-Ok.ensures.end c.if-count-eq0.true (let kept = c.read.auto.buf in let piece = c.loop-count.invariant.piece in omega arith)) _ _ (g.S.Source.faults c.args.source.now) (g.S.Source.faults c.read.new.self) (c.in-Ok.ensures.faultless ∙ c.loop-count.invariant.source_faultless) c.feed_end.result c.feed_end.ensures.stopped.no_read_fault c.feed_end.ensures.writes c.feed_end.ensures.led c.feed_end.ensures.line

pub returns-in-Err-clause-ran : goal.returns-in-Err-clause-ran
returns-in-Err-clause-ran g c =
    far_stop (progress_of c.args.trace.now) (progress_of c.loop-count.trace) (g.S.Source.left c.args.source.now) (g.S.Source.left c.loop-count.source) (g.S.Source.left c.read.new.self) (g.K.Sink.written c.args.sink.now) (g.K.Sink.written c.loop-count.sink) c.loop-count.invariant.far
    (take c.in-Ok.count c.read.new.buf) c.in-Ok.ensures.bytes _ _ (g.S.Source.faults c.args.source.now) (g.S.Source.faults c.read.new.self) (c.in-Ok.ensures.faultless ∙ c.loop-count.invariant.source_faultless) c.in-Err.status (λ e. c.in-Err.ensures.stopped.no_read_fault (ap Err e)) c.in-Err.ensures.writes c.in-Err.ensures.led c.in-Err.ensures.failed

pub loop-count-preserved : goal.loop-count-preserved
loop-count-preserved g c =
    let so_far = c.loop-count.invariant in
    let now = c.in-Ok-feed.ensures in
    record {
      far =
          far_more (progress_of c.args.trace.now) (progress_of c.loop-count.trace) (g.S.Source.left c.args.source.now) (g.S.Source.left c.loop-count.source) (g.S.Source.left c.read.new.self) (g.K.Sink.written c.args.sink.now) (g.K.Sink.written c.loop-count.sink) so_far.far
          (take c.in-Ok.count c.read.new.buf) c.in-Ok.ensures.bytes _ _ c.in-Ok-feed.field-0 now.writes;
      kept = now.kept;
      piece = let kept = c.read.auto.buf in let piece = so_far.piece in omega arith;
      faultless = now.stopped.faultless (λ e. cc) ∙ so_far.faultless;
      source_faultless = c.in-Ok.ensures.faultless ∙ so_far.source_faultless;
    }
