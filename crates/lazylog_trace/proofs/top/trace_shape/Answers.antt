use Rattle.std.proofs.Common.{◌≡◌, ◌≢◌, [], ◌∙◌, ap, inl, subst, refl}
use Rattle.io_edges.specs.declared.status.Status.TheVariants.{Memory}
use Rattle.lazy_rules.specs.WorldState.{WorldState}
use Rattle.lazy_core.specs.Filled.{IsFilled}
use Rattle.lazylog_trace.specs.Output.{Progress, first_progress, last_text, status_of}
use Rattle.script_streams.specs.Streams.{sink_use, source_use}
use Rattle.lazylog_trace.specs.Trace.{progress_of}
use Rattle.lazylog_trace.specs.Calls.{Closed, TracedTo}
use Rattle.lazylog_trace.proofs.TraceOutput.{both_traced, filled_trace, memory_trace}
use Rattle.lazylog_trace.proofs.top.trace_shape.Goals as goal

pub returns-in_default-clause-traced : goal.returns-in_default-clause-traced
returns-in_default-clause-traced g c = memory_trace c.args.shape.now (source_use g.S.Source.left g.S.Source.faults c.args.source.now c.args.source.now) (sink_use g.K.Sink.written g.K.Sink.faults c.args.sink.now c.args.sink.now) c.args.trail.now c.args.trail.now refl

pub returns-clause-traced : goal.returns-clause-traced
returns-clause-traced g c =
    let source = source_use g.S.Source.left g.S.Source.faults c.args.source.now c.run_script-ended.new.source in
    let sink = sink_use g.K.Sink.written g.K.Sink.faults c.args.sink.now c.close.new.sink in
    let between = g.K.Sink.written c.run_script-ended.new.sink in
    let world : WorldState = c.run_script-ended.new.trace.world in
    let start : progress_of c.new-trace.result ≡ first_progress c.args.shape.now = c.new-trace.ensures.progress ∙ ap (λ (w : WorldState). record { world = w; lines = 0; part = [] }) c.in-Ok.ensures in
    let closed : Closed (last_text world c.run_script-ended.result) (status_of c.run_script-ended.result) between sink.after c.close.result =
    subst (λ (w : WorldState). Closed (last_text w c.run_script-ended.result) (status_of c.run_script-ended.result) between sink.after c.close.result) c.into_world.ensures c.close.ensures.closed in
    let traced : TracedTo source (progress_of c.new-trace.result) sink.before sink.after world c.close.result =
    both_traced source (progress_of c.new-trace.result) sink.before between sink.after (progress_of c.run_script-ended.new.trace) c.run_script-ended.result c.close.result c.run_script-ended.ensures.ran closed in
    filled_trace c.args.shape.now source sink c.args.trail.now c.close.new.trail c.requires world c.close.result c.close.result
    (subst (λ (r : Progress). TracedTo source r sink.before sink.after world c.close.result) start traced)
    (subst (λ (w : WorldState). c.close.result ≢ Memory → IsFilled w c.args.trail.now c.close.new.trail) c.into_world.ensures c.close.ensures.filled)
    (inl refl) (λ e. e)
