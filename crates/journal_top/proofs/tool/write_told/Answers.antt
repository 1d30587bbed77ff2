use Rattle.std.proofs.Common.{ℕ, List, Option, sym, subst}
use Rattle.script_streams.specs.Streams.{sink_use}
use Rattle.journal_top.specs.Output.{closing_of}
use Rattle.journal_top.specs.Telling.{WritesTexts}
use Rattle.journal_top.proofs.Texts.{one_text}
use Rattle.journal_top.proofs.tool.write_told.Goals as goal

pub returns-in-Some-clause-written : goal.returns-in-Some-clause-written
returns-in-Some-clause-written g c =
    let sink = sink_use g.K.Sink.written g.K.Sink.faults c.args.sink.now c.write_ended.new.sink in
    subst (λ (text : Option (List ℕ)). WritesTexts {R = Unit {0}} (closing_of text) sink c.write_ended.result) (sym c.in-Some.is) (one_text c.in-Some.text sink c.write_ended.result c.write_ended.ensures)
