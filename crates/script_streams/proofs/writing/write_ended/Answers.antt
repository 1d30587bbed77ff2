use Rattle.script_streams.proofs.Texts.{unwritten}
use Rattle.script_streams.proofs.writing.write_ended.Goals as goal

pub returns : goal.returns
returns g c = unwritten (g.K.Sink.written c.args.sink.now) (g.K.Sink.faults c.args.sink.now) _
