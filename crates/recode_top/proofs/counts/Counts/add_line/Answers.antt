use Rattle.std.proofs.Common.{refl}
use Rattle.script_streams.specs.Streams.{sink_use}
use Rattle.recode_top.proofs.LineOutput.{memory_writes}
use Rattle.recode_top.proofs.counts.Counts.add_line.Goals as goal

pub returns-in-Err-Memory-clause-writes : goal.returns-in-Err-Memory-clause-writes
returns-in-Err-Memory-clause-writes g c = memory_writes (sink_use g.K.Sink.written g.K.Sink.faults c.args.sink.now c.args.sink.now) refl refl _ _
