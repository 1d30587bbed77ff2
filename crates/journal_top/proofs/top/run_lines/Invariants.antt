use Rattle.std.proofs.Common.{◌≡◌, ◌-◌}
use Rattle.script_streams.specs.Reading.{coming}
use Rattle.view_config.specs.declared.limits.TheConstants.{LINE_LIMIT_ONE}
use Rattle.journal_top.specs.declared.tool.TheConstants.{LINES_LIMIT}
use Rattle.journal_top.proofs.Far.{Far}
use Rattle.journal_top.proofs.top.run_lines.Given as goal

abbrev pub invariant-loop-tool : goal.invariant-loop-tool
invariant-loop-tool g l = record {
  far : Far l.fn.shard (g.S.Source.left l.fn.source) (coming l.reader (g.S.Source.left l.source)) (g.K.Sink.written l.fn.sink) (g.K.Sink.written l.sink) l.tool;
  most : l.reader.most ≡ LINE_LIMIT_ONE;
  faultless : g.K.Sink.faults l.sink ≡ g.K.Sink.faults l.fn.sink;
  source_faultless : g.S.Source.faults l.source ≡ g.S.Source.faults l.fn.source;
}

abbrev pub decreases-loop-tool : goal.decreases-loop-tool
decreases-loop-tool g l = LINES_LIMIT - l.tool.lines
