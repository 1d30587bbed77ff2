use Rattle.std.proofs.Common.{subst}
use Rattle.script_streams.specs.Streams.{sink_use, source_use}
use Rattle.journal_top.specs.declared.words.Shard.{Shard}
use Rattle.journal_top.specs.Telling.{IsJournal}
use Rattle.journal_top.proofs.CommandLine.{one_asked}
use Rattle.journal_top.proofs.Outliving.{loses_nothing}
use Rattle.journal_top.proofs.top.journal_top.Goals as goal

pub returns-clause-journal : goal.returns-clause-journal
returns-clause-journal g c = λ shard asked.
    let source = source_use g.S.Source.left g.S.Source.faults c.args.source.now c.run_journal.new.source in
    let sink = sink_use g.K.Sink.written g.K.Sink.faults c.args.sink.now c.run_journal.new.sink in
    subst (λ (s : Shard). IsJournal s source sink c.run_journal.result) (one_asked c.args.words.now c.in-Some.shard shard c.in-Some.ensures.some asked) c.run_journal.ensures.journal

pub returns-clause-lasting : goal.returns-clause-lasting
returns-clause-lasting g c = λ shard asked. loses_nothing shard
