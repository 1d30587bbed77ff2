use Rattle.script_streams.specs.Streams.{sink_use, source_use}
use Rattle.journal_top.proofs.Ends.{journal}
use Rattle.journal_top.proofs.top.run_journal.Goals as goal

pub returns-clause-journal : goal.returns-clause-journal
returns-clause-journal g c =
    let ran = c.run_lines-ended in
    journal c.args.shard (source_use g.S.Source.left g.S.Source.faults c.args.source.now ran.new.source) (sink_use g.K.Sink.written g.K.Sink.faults c.args.sink.now c.close.new.sink) (g.K.Sink.written ran.new.sink) c.close.result ran.result ran.ensures.faults.source_faultless ran.ensures.faults.no_usage ran.ensures.not_done ran.ensures.ran c.close.ensures.closed
