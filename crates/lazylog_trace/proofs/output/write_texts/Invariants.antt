use Rattle.std.proofs.Common.{◌≡◌, drop}
use Rattle.io_edges.specs.Telling.{Goes}
use Rattle.script_streams.specs.Texts.{printed}
use Rattle.lazylog_trace.proofs.output.write_texts.Given as goal

abbrev pub invariant-loop-text : goal.invariant-loop-text
invariant-loop-text g l = record {
  goes : Goes (g.K.Sink.written l.fn.sink) (g.K.Sink.written l.sink) (printed l.texts) (printed (drop l.text-index l.texts));
  faultless : g.K.Sink.faults l.sink ≡ g.K.Sink.faults l.fn.sink;
}
