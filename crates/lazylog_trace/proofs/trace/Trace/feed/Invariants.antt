use Rattle.std.proofs.Common.{◌≡◌, ◌+◌, ◌≤◌, take}
use Rattle.lazylog_trace.specs.Trace.{IsUnderWay, bytes_left, progress_of}
use Rattle.lazylog_trace.proofs.ByteOutput.{SoFar}
use Rattle.lazylog_trace.proofs.trace.Trace.feed.Given as goal

abbrev pub invariant-loop-byte : goal.invariant-loop-byte
invariant-loop-byte g l = record {
  kept : IsUnderWay l.self;
  nearer : bytes_left l.self + l.byte-index ≤ bytes_left l.fn.self;
  so_far : SoFar (progress_of l.fn.self) (take l.byte-index l.bytes) (g.K.Sink.written l.fn.sink) (g.K.Sink.written l.sink) (progress_of l.self);
  faultless : g.K.Sink.faults l.sink ≡ g.K.Sink.faults l.fn.sink;
}
