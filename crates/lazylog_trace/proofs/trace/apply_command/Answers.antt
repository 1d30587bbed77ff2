use Rattle.std.proofs.Common.{◌++◌, List, ℕ, ◌∙◌, ap}
use Rattle.lazylog_trace.specs.Apply.{command_texts}
use Rattle.script_streams.specs.Streams.{sink_use}
use Rattle.lazylog_trace.proofs.LineOutput.{applied_world, texts_part, texts_whole}
use Rattle.script_streams.proofs.Texts.{unwritten}
use Rattle.lazylog_trace.proofs.trace.apply_command.Goals as goal

pub returns-in-Err-clause-written : goal.returns-in-Err-clause-written
returns-in-Err-clause-written g c = unwritten (g.K.Sink.written c.args.sink.now) (g.K.Sink.faults c.args.sink.now) _

pub returns-in-Ok-write_texts-clause-written : goal.returns-in-Ok-write_texts-clause-written
returns-in-Ok-write_texts-clause-written g c =
    texts_whole c.args.world.now c.apply.new.world c.args.command c.in-Ok.outcome c.in-Ok.ensures.applied c.apply.new.texts
    (c.in-Ok.ensures.prints ∙ ap (λ (l : List (List ℕ)). l ++ command_texts c.args.world.now c.args.command c.apply.new.world) c.new-texts.ensures)
    (sink_use g.K.Sink.written g.K.Sink.faults c.args.sink.now c.write_texts.new.sink) _ c.in-Ok.outcome c.in-Ok-write_texts.ensures

pub returns-clause-written : goal.returns-clause-written
returns-clause-written g c =
    texts_part c.args.world.now c.apply.new.world c.args.command c.in-Ok.outcome c.in-Ok.ensures.applied c.apply.new.texts
    (c.in-Ok.ensures.prints ∙ ap (λ (l : List (List ℕ)). l ++ command_texts c.args.world.now c.args.command c.apply.new.world) c.new-texts.ensures)
    (sink_use g.K.Sink.written g.K.Sink.faults c.args.sink.now c.write_texts.new.sink) c.in-Err-write_texts.status c.in-Err-write_texts.ensures

pub returns-clause-failed : goal.returns-clause-failed
returns-clause-failed g c = λ e. applied_world c.args.world.now c.apply.new.world c.args.command c.in-Ok.outcome c.in-Ok.ensures.applied
