use Rattle.std.proofs.Common.{◌≡◌, ℕ, List, None, ◌∙◌, ap, subst, refl}
use Rattle.std.specs.Prelude.{Err}
use Rattle.trace_script.specs.Script.{command_of}
use Rattle.lazylog_trace.specs.declared.trace.Trace.{Trace}
use Rattle.script_streams.specs.Streams.{sink_use}
use Rattle.lazylog_trace.specs.Trace.{progress_of}
use Rattle.lazylog_trace.proofs.LineOutput.{bad_writes, memory_writes}
use Rattle.lazylog_trace.proofs.TraceLines.{failed_led, line_failed, line_led, line_spent, line_through}
use Rattle.lazylog_trace.proofs.trace.Trace.apply_line.Goals as goal

pub returns-in-Err-Memory-clause-writes : goal.returns-in-Err-Memory-clause-writes
returns-in-Err-Memory-clause-writes g c = memory_writes _ _ _

pub returns-in-Err-BadLine-clause-writes : goal.returns-in-Err-BadLine-clause-writes
returns-in-Err-BadLine-clause-writes g c =
    let ok = c.in_ok-number.ensures.ok in
    let line : c.as_slice.result.now ≡ c.args.self.now.part.items = c.as_slice.ensures.value ∙ ap (λ (t : Trace). t.part.items) ok.0 in
    let bad : command_of c.args.self.now.part.items ≡ None = subst (λ (l : List ℕ). command_of l ≡ None) line (c.in-Err-BadLine.ensures.bad (ap Err c.in-Err-BadLine.field-0-is)) in
    rw c.in_ok-number.ensures.number (bad_writes (progress_of c.args.self.now) (g.K.Sink.written c.args.sink.now) _ ok.1 bad)

pub returns-in-Ok-Through-clause-writes : goal.returns-in-Ok-Through-clause-writes
returns-in-Ok-Through-clause-writes g c =
    line_through c.args.self.now c.count_line.new.self c.in_ok-number.ensures.ok.0 c.in_ok-number.ensures.ok.1 c.as_slice.result.now c.as_slice.ensures.value c.in-Ok.command c.in-Ok.ensures.said
    (sink_use g.K.Sink.written g.K.Sink.faults c.args.sink.now c.apply_command.new.sink) c.in-Ok-Through.field-0 c.in-Ok-Through.ensures.written c.apply_command.new.world c.in-Ok-Through.ensures.applied
    _ _ c.in-Ok-Through.field-0-is (rw c.clear.ensures.items refl)

pub returns-in-Ok-Spent-clause-writes : goal.returns-in-Ok-Spent-clause-writes
returns-in-Ok-Spent-clause-writes g c =
    line_spent c.args.self.now c.count_line.new.self c.in_ok-number.ensures.ok.0 c.in_ok-number.ensures.ok.1 c.as_slice.result.now c.as_slice.ensures.value c.in-Ok.command c.in-Ok.ensures.said
    (sink_use g.K.Sink.written g.K.Sink.faults c.args.sink.now c.apply_command.new.sink) c.in-Ok-Spent.field-0 c.in-Ok-Spent.ensures.written c.apply_command.new.world c.in-Ok-Spent.ensures.applied
    _ _ c.in-Ok-Spent.field-0-is c.in_ok-number.ensures.number

pub returns-in-Err-clause-writes : goal.returns-in-Err-clause-writes
returns-in-Err-clause-writes g c =
    line_failed c.args.self.now c.count_line.new.self c.in_ok-number.ensures.ok.0 c.in_ok-number.ensures.ok.1 c.as_slice.result.now c.as_slice.ensures.value c.in-Ok.command c.in-Ok.ensures.said
    (sink_use g.K.Sink.written g.K.Sink.faults c.args.sink.now c.apply_command.new.sink) c.in-Err.status c.in-Err.ensures.written _

pub returns-in-Ok-Through-clause-led : goal.returns-in-Ok-Through-clause-led
returns-in-Ok-Through-clause-led g c =
    line_led c.args.self.now c.count_line.new.self c.in_ok-number.ensures.ok.0 c.in_ok-number.ensures.ok.1 c.as_slice.result.now c.as_slice.ensures.value c.in-Ok.command c.in-Ok.ensures.said
    (sink_use g.K.Sink.written g.K.Sink.faults c.args.sink.now c.apply_command.new.sink) c.in-Ok-Through.field-0 c.in-Ok-Through.ensures.written c.apply_command.new.world c.in-Ok-Through.ensures.applied _

pub returns-in-Ok-Spent-clause-led : goal.returns-in-Ok-Spent-clause-led
returns-in-Ok-Spent-clause-led g c =
    line_led c.args.self.now c.count_line.new.self c.in_ok-number.ensures.ok.0 c.in_ok-number.ensures.ok.1 c.as_slice.result.now c.as_slice.ensures.value c.in-Ok.command c.in-Ok.ensures.said
    (sink_use g.K.Sink.written g.K.Sink.faults c.args.sink.now c.apply_command.new.sink) c.in-Ok-Spent.field-0 c.in-Ok-Spent.ensures.written c.apply_command.new.world c.in-Ok-Spent.ensures.applied _

pub returns-in-Err-clause-led : goal.returns-in-Err-clause-led
returns-in-Err-clause-led g c =
    failed_led c.args.self.now c.count_line.new.self c.in_ok-number.ensures.ok.0 c.in_ok-number.ensures.ok.1 c.as_slice.result.now c.as_slice.ensures.value c.in-Ok.command c.in-Ok.ensures.said
    (sink_use g.K.Sink.written g.K.Sink.faults c.args.sink.now c.apply_command.new.sink) c.in-Err.status c.in-Err.ensures.written c.apply_command.new.world (λ fault. c.in-Err.ensures.failed (ap Err fault))
