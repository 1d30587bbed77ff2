use Rattle.script_streams.specs.Streams.{sink_use, source_use}
use Rattle.recode_top.proofs.Ends.{recoding}
use Rattle.recode_top.proofs.top.recode_top.Goals as goal

pub returns-clause-recoding : goal.returns-clause-recoding
returns-clause-recoding g c =
    let ran = c.run_lines-ended in
    recoding (source_use g.S.Source.left g.S.Source.faults c.args.source.now ran.new.source) (sink_use g.K.Sink.written g.K.Sink.faults c.args.sink.now c.close.new.sink) (g.K.Sink.written ran.new.sink) c.close.result ran.new.counts ran.result ran.ensures.faults.source_faultless ran.ensures.faults.no_usage ran.ensures.not_done ran.ensures.ran c.close.ensures.closed
