use Rattle.std.proofs.Common.{◌≡◌, ◌+◌, ◌<◌, Err, refl, sym, ap, ◌∙◌, subst, arith}
use Rattle.io_edges.specs.declared.status.Status.TheVariants.{Limit}
use Rattle.script_streams.specs.Streams.{sink_use}
use Rattle.journal_script.specs.Script.{command_of}
use Rattle.journal_top.specs.declared.tool.TheConstants.{LINES_LIMIT}
use Rattle.journal_top.specs.Output.{parsed_output}
use Rattle.journal_top.specs.Rules.{ToolState}
use Rattle.journal_top.specs.Telling.{Writes}
use Rattle.journal_top.proofs.LineOutput.{line_below, line_over, stop_writes}
use Rattle.journal_top.proofs.tool.Tool.take_line.Goals as goal

pub returns-then-tool-eq-LINES_LIMIT-clause-writes : goal.returns-then-tool-eq-LINES_LIMIT-clause-writes
returns-then-tool-eq-LINES_LIMIT-clause-writes g c =
    let sink = sink_use g.K.Sink.written g.K.Sink.faults c.args.sink.now c.args.sink.now in
    let lines : c.args.self.lines ≡ LINES_LIMIT = sym (ap (λ (t : ToolState). t.lines) c.tool.view_is) ∙ c.if-tool-eq-LINES_LIMIT.true in
    line_over c.args.self sink (Err (Limit (LINES_LIMIT + 1))) c.args.line.now lines (stop_writes sink refl refl (Limit (LINES_LIMIT + 1)) (λ e. cc) (λ e. cc) (λ e. cc))

pub returns-clause-writes : goal.returns-clause-writes
returns-clause-writes g c =
    let sink = sink_use g.K.Sink.written g.K.Sink.faults c.args.sink.now c.take_counted.new.sink in
    let inside : c.tool.inside.lines < LINES_LIMIT = omega (arith, c.tool.invariant.few, c.if-tool-eq-LINES_LIMIT.false) in
    let below : c.args.self.lines < LINES_LIMIT = subst (λ (t : ToolState). t.lines < LINES_LIMIT) c.tool.view_is inside in
    line_below c.args.self sink c.take_counted.result c.args.line.now below
    (subst (λ (t : ToolState). Writes (parsed_output (record t { lines = t.lines + 1 }) (command_of c.args.line.now)) sink c.take_counted.result) c.tool.view_is c.take_counted.ensures.writes)
