use Rattle.std.proofs.Common.{◌≡◌, ◌-◌}
use Rattle.script_streams.specs.Reading.{coming}
use Rattle.recode_top.specs.declared.counts.TheConstants.{LINE_LIMIT, LINES_LIMIT}
use Rattle.recode_top.specs.Output.{IsUnderWay}
use Rattle.recode_top.proofs.Far.{Far}
use Rattle.recode_top.proofs.top.run_lines.Given as goal

abbrev pub invariant-loop-counts : goal.invariant-loop-counts
invariant-loop-counts g l = record {
  far : Far (g.S.Source.left l.fn.source) (coming l.reader (g.S.Source.left l.source)) (g.K.Sink.written l.fn.sink) (g.K.Sink.written l.sink) l.counts;
  kept : IsUnderWay l.counts;
  most : l.reader.most ≡ LINE_LIMIT;
  faultless : g.K.Sink.faults l.sink ≡ g.K.Sink.faults l.fn.sink;
  source_faultless : g.S.Source.faults l.source ≡ g.S.Source.faults l.fn.source;
}

abbrev pub decreases-loop-counts : goal.decreases-loop-counts
decreases-loop-counts g l = LINES_LIMIT - l.counts.lines
