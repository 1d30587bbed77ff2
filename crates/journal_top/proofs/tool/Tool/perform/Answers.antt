use Rattle.std.proofs.Common.{◌≡◌, ℕ, Err, refl, sym, ap, ◌∙◌, subst}
use Rattle.io_edges.specs.declared.status.Status.TheVariants.{Limit}
use Rattle.script_streams.specs.Streams.{sink_use}
use Rattle.journal_top.specs.Output.{stops}
use Rattle.journal_top.specs.Rules.{Told, ToolState}
use Rattle.journal_top.specs.Telling.{Writes}
use Rattle.journal_top.proofs.LineCounts.{follow_lines}
use Rattle.journal_top.proofs.LineOutput.{command_stops, memory_writes, stop_writes}
use Rattle.journal_top.proofs.tool.Tool.perform.Goals as goal

pub returns-then-is_over-clause-writes : goal.returns-then-is_over-clause-writes
returns-then-is_over-clause-writes g c =
    let sink = sink_use g.K.Sink.written g.K.Sink.faults c.args.sink.now c.args.sink.now in
    let lines : c.self.inside.lines ≡ c.args.self.lines = ap (λ (t : ToolState). t.lines) c.self.view_is in
    command_stops c.args.self sink (Err (Limit c.self.inside.lines)) c.args.command (sym c.is_over.ensures ∙ c.if-is_over.true)
    (subst (λ (n : ℕ). Writes (stops (Limit c.args.self.lines)) sink (Err (Limit n))) (sym lines) (stop_writes sink refl refl (Limit c.args.self.lines) (λ e. cc) (λ e. cc) (λ e. cc)))

pub returns-in-Ok-write_told-clause-lines : goal.returns-in-Ok-write_told-clause-lines
returns-in-Ok-write_told-clause-lines g c = ap (λ (told : Told). told.0.lines) c.in-Ok.ensures ∙ follow_lines c.args.self c.args.command

pub returns-in-Err-clause-writes : goal.returns-in-Err-clause-writes
returns-in-Err-clause-writes g c = memory_writes (sink_use g.K.Sink.written g.K.Sink.faults c.args.sink.now c.args.sink.now) refl refl _
