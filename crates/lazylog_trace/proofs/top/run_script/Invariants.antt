use Rattle.std.proofs.Common.{◌≡◌, length}
use Rattle.lazylog_trace.specs.Trace.{IsUnderWay, bytes_left, progress_of}
use Rattle.lazylog_trace.proofs.ScriptOutput.{Far}
use Rattle.lazylog_trace.proofs.top.run_script.Given as goal

abbrev pub invariant-loop-count : goal.invariant-loop-count
invariant-loop-count g l = record {
  far : Far (progress_of l.fn.trace) (g.S.Source.left l.fn.source) (g.S.Source.left l.source) (g.K.Sink.written l.fn.sink) (g.K.Sink.written l.sink) (progress_of l.trace);
  kept : IsUnderWay l.trace;
  piece : length l.piece ≡ 4096;
  faultless : g.K.Sink.faults l.sink ≡ g.K.Sink.faults l.fn.sink;
  source_faultless : g.S.Source.faults l.source ≡ g.S.Source.faults l.fn.source;
}

abbrev pub decreases-loop-count : goal.decreases-loop-count
decreases-loop-count g l = bytes_left l.trace
