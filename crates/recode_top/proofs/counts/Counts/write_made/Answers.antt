use Rattle.std.proofs.Common.{◌+◌, sym, subst}
use Rattle.script_streams.specs.Streams.{sink_use}
use Rattle.frame_recode.specs.declared.recode.Recoded.{Recoded}
use Rattle.recode_top.specs.declared.counts.Counts.{Counts}
use Rattle.recode_top.specs.Output.{made_output}
use Rattle.recode_top.specs.Recoding.{Writes}
use Rattle.recode_top.proofs.LineOutput.{brought_writes, refused_writes}
use Rattle.recode_top.proofs.counts.Counts.write_made.Goals as goal

pub returns-in-Brought-clause-writes : goal.returns-in-Brought-clause-writes
returns-in-Brought-clause-writes g c =
    let r = c.args.self.now in
    let now : Counts = record r { frames = r.frames + 1 } in
    let sink = sink_use g.K.Sink.written g.K.Sink.faults c.args.sink.now c.write_ended.new.sink in
    subst (λ (m : Recoded). Writes {R = Unit {0}} (made_output r m) sink now c.write_ended.result) (sym c.in-Brought.is) (brought_writes r c.in-Brought.text sink c.write_ended.result c.write_ended.ensures)

pub returns-in-Refused-clause-writes : goal.returns-in-Refused-clause-writes
returns-in-Refused-clause-writes g c =
    let r = c.args.self.now in
    let now : Counts = record r { frames = r.frames + 1; refused = r.refused + 1 } in
    let sink = sink_use g.K.Sink.written g.K.Sink.faults c.args.sink.now c.write_ended-in-Refused.new.sink in
    subst (λ (m : Recoded). Writes {R = Unit {0}} (made_output r m) sink now c.write_ended-in-Refused.result) (sym c.in-Refused.is) (refused_writes r c.in-Refused.text sink c.write_ended-in-Refused.result c.write_ended-in-Refused.ensures)
