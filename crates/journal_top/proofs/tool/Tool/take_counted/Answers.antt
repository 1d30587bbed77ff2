use Rattle.std.proofs.Common.{refl}
use Rattle.script_streams.specs.Streams.{sink_use}
use Rattle.journal_top.proofs.LineOutput.{memory_writes}
use Rattle.journal_top.proofs.tool.Tool.take_counted.Goals as goal

pub returns-clause-writes : goal.returns-clause-writes
returns-clause-writes g c = memory_writes (sink_use g.K.Sink.written g.K.Sink.faults c.args.sink.now c.args.sink.now) refl refl _
