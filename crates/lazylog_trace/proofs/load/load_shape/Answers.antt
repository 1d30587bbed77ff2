use Rattle.std.proofs.Common.{◌≢◌, ◌-◌, ℕ, List, refl, subst}
use Rattle.io_edges.specs.declared.status.Status.{Status}
use Rattle.io_edges.specs.declared.status.Status.TheVariants.{Memory}
use Rattle.lazy_rules.specs.WorldState.{WorldState}
use Rattle.lazy_core.specs.Filled.{IsFilled}
use Rattle.load_gen.specs.Loading.{LoadState, Makes, many_steps}
use Rattle.load_gen.specs.declared.limits.TheConstants.{STEPS}
use Rattle.lazylog_trace.specs.LoadOutput.{EndsWith, last_of_load}
use Rattle.script_streams.specs.Texts.{with_newline}
use Rattle.script_streams.specs.Streams.{sink_use}
use Rattle.lazylog_trace.proofs.LoadOutput.{made_load, memory_load}
use Rattle.lazylog_trace.proofs.load.load_shape.Goals as goal

pub returns-in_default-clause-loaded : goal.returns-in_default-clause-loaded
returns-in_default-clause-loaded g c = memory_load c.args.shape.now c.args.seed (sink_use g.K.Sink.written g.K.Sink.faults c.args.sink.now c.args.sink.now) c.args.trail.now c.args.trail.now refl refl

pub returns-in_default-run-clause-loaded : goal.returns-in_default-run-clause-loaded
returns-in_default-run-clause-loaded g c = memory_load c.args.shape.now c.args.seed (sink_use g.K.Sink.written g.K.Sink.faults c.args.sink.now c.args.sink.now) c.args.trail.now c.args.trail.now refl refl

pub returns-in_default-last_line-clause-loaded : goal.returns-in_default-last_line-clause-loaded
returns-in_default-last_line-clause-loaded g c = memory_load c.args.shape.now c.args.seed (sink_use g.K.Sink.written g.K.Sink.faults c.args.sink.now c.args.sink.now) c.args.trail.now c.args.trail.now refl refl

pub returns-in_default-lines-clause-loaded : goal.returns-in_default-lines-clause-loaded
returns-in_default-lines-clause-loaded g c = memory_load c.args.shape.now c.args.seed (sink_use g.K.Sink.written g.K.Sink.faults c.args.sink.now c.args.sink.now) c.args.trail.now c.args.trail.now refl refl

pub returns-clause-loaded : goal.returns-clause-loaded
returns-clause-loaded g c =
    let l : LoadState = c.run.new.self in
    let sink = sink_use g.K.Sink.written g.K.Sink.faults c.args.sink.now c.close.new.sink in
    made_load c.args.shape.now c.args.seed l c.in-Ok-run.outcome sink c.args.trail.now c.close.new.trail c.close.result
    (subst (λ (f : LoadState). Makes (many_steps (STEPS - f.generator.steps) f) f l c.in-Ok-run.outcome) c.in-Ok.ensures c.in-Ok-run.ensures)
    (subst (λ (given : Status). EndsWith (with_newline (last_of_load l c.in-Ok-run.outcome)) given sink c.close.result) c.end_of.ensures
    (subst (λ (line : List ℕ). EndsWith (with_newline line) c.end_of.result sink c.close.result) c.in-Ok-last_line.ensures c.close.ensures.written))
    (subst (λ (w : WorldState). c.close.result ≢ Memory → IsFilled w c.args.trail.now c.close.new.trail) c.into_world.ensures c.close.ensures.filled)
