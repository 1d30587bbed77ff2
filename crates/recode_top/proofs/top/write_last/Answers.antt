use Rattle.std.proofs.Common.{ℕ, List, Option, sym, subst}
use Rattle.script_streams.specs.Streams.{sink_use}
use Rattle.recode_top.specs.Output.{closing_of}
use Rattle.recode_top.specs.Recoding.{WritesTexts}
use Rattle.recode_top.proofs.Texts.{one_text}
use Rattle.recode_top.proofs.top.write_last.Goals as goal

pub returns-in-Some-clause-written : goal.returns-in-Some-clause-written
returns-in-Some-clause-written g c =
    let sink = sink_use g.K.Sink.written g.K.Sink.faults c.args.sink.now c.write_ended.new.sink in
    subst (λ (last : Option (List ℕ)). WritesTexts {R = Unit {0}} (closing_of last) sink c.write_ended.result) (sym c.in-Some.is) (one_text c.in-Some.text sink c.write_ended.result c.write_ended.ensures)
