use Rattle.std.proofs.Common.{ℕ, ap, refl, subst, ◌∙◌}
use Rattle.std.specs.Prelude.{Err}
use Rattle.io_edges.specs.Faults.{Rose}
use Rattle.script_streams.specs.Streams.{sink_use}
use Rattle.script_streams.specs.Reading.{Reading}
use Rattle.journal_top.specs.Rules.{start}
use Rattle.journal_top.proofs.Steps.{far_fresh, next_end, next_failed, next_last, next_long, next_memory, next_more, next_stopped, none_read}
use Rattle.journal_top.proofs.top.run_lines.Goals as goal

-- there was no memory for the reader
pub returns-in_default-clause-ran : goal.returns-in_default-clause-ran
returns-in_default-clause-ran g c = none_read c.args.shard (g.S.Source.left c.args.source.now) (g.K.Sink.written c.args.sink.now) (start c.args.shard) refl (g.S.Source.faults c.args.source.now)

-- or for the tool
pub returns-in_default-new-clause-ran : goal.returns-in_default-new-clause-ran
returns-in_default-new-clause-ran g c = none_read c.args.shard (g.S.Source.left c.args.source.now) (g.K.Sink.written c.args.sink.now) (start c.args.shard) refl (g.S.Source.faults c.args.source.now)

pub loop-tool-init : goal.loop-tool-init
loop-tool-init g c = record {
  far =
      far_fresh c.args.shard (g.S.Source.left c.args.source.now) (g.K.Sink.written c.args.sink.now) c.in-Ok.reader c.in-Ok-new.tool c.in-Ok-new.ensures
      (ap (λ (r : Reading). r.ahead) c.in-Ok.ensures);
  most = ap (λ (r : Reading). r.most) c.in-Ok.ensures ∙ c.line_limit.ensures;
  faultless = refl;
  source_faultless = refl;
}

-- a line went on
pub loop-tool-preserved : goal.loop-tool-preserved
loop-tool-preserved g c =
    let so_far = c.loop-tool.invariant in
    let next = c.in-Ok-Line.ensures in
    let added = c.in-Ok-take_line.ensures in
    record {
      far =
          next_more c.args.shard (g.S.Source.left c.args.source.now) (g.K.Sink.written c.args.sink.now) (g.K.Sink.written c.loop-tool.sink) c.loop-tool.reader c.next_line.new.self (g.S.Source.left c.loop-tool.source) (g.S.Source.left c.next_line.new.source) c.loop-tool.tool so_far.far so_far.most
          c.in-Ok-Line.field-0 c.in-Ok-Line.field-0-is next.gives c.line.result.now c.line.ensures (sink_use g.K.Sink.written g.K.Sink.faults c.loop-tool.sink c.take_line.new.sink) refl c.in-Ok-take_line.next added.writes;
      most = next.most ∙ so_far.most;
      faultless = added.writes.faults.faultless (λ e. cc) ∙ so_far.faultless;
      source_faultless = next.faultless (λ e. cc) ∙ so_far.source_faultless;
    }

-- or stopped
pub returns-in-Err-clause-ran : goal.returns-in-Err-clause-ran
returns-in-Err-clause-ran g c =
    let so_far = c.loop-tool.invariant in
    next_stopped c.args.shard (g.S.Source.left c.args.source.now) (g.K.Sink.written c.args.sink.now) (g.K.Sink.written c.loop-tool.sink) c.loop-tool.reader c.next_line.new.self (g.S.Source.left c.loop-tool.source) (g.S.Source.left c.next_line.new.source) c.loop-tool.tool so_far.far so_far.most
    c.in-Ok-Line.field-0 c.in-Ok-Line.field-0-is c.in-Ok-Line.ensures.gives c.line.result.now c.line.ensures (g.S.Source.faults c.args.source.now) (g.S.Source.faults c.next_line.new.source) (sink_use g.K.Sink.written g.K.Sink.faults c.loop-tool.sink c.take_line.new.sink) refl c.in-Err.status c.in-Err.ensures.writes

pub returns-in-Ok-Last-clause-ran : goal.returns-in-Ok-Last-clause-ran
returns-in-Ok-Last-clause-ran g c =
    let so_far = c.loop-tool.invariant in
    next_last c.args.shard (g.S.Source.left c.args.source.now) (g.K.Sink.written c.args.sink.now) (g.K.Sink.written c.loop-tool.sink) c.loop-tool.reader c.next_line.new.self (g.S.Source.left c.loop-tool.source) (g.S.Source.left c.next_line.new.source) c.loop-tool.tool so_far.far so_far.most
    c.in-Ok-Last.field-0 c.in-Ok-Last.field-0-is c.in-Ok-Last.ensures.gives c.line-in-Ok-Last.result.now c.line-in-Ok-Last.ensures (g.S.Source.faults c.args.source.now) (g.S.Source.faults c.next_line.new.source) (sink_use g.K.Sink.written g.K.Sink.faults c.loop-tool.sink c.take_line-in-Ok-Last.new.sink) refl c.take_line-in-Ok-Last.result c.take_line-in-Ok-Last.ensures.writes

pub returns-in-Ok-End-clause-ran : goal.returns-in-Ok-End-clause-ran
returns-in-Ok-End-clause-ran g c =
    let so_far = c.loop-tool.invariant in
    next_end c.args.shard (g.S.Source.left c.args.source.now) (g.K.Sink.written c.args.sink.now) (g.K.Sink.written c.loop-tool.sink) c.loop-tool.reader c.next_line.new.self (g.S.Source.left c.loop-tool.source) (g.S.Source.left c.next_line.new.source) c.loop-tool.tool so_far.far so_far.most
    c.in-Ok-End.field-0 c.in-Ok-End.field-0-is c.in-Ok-End.ensures.gives (g.S.Source.faults c.args.source.now) (g.S.Source.faults c.next_line.new.source)

pub returns-in-Err-TooLong-clause-ran : goal.returns-in-Err-TooLong-clause-ran
returns-in-Err-TooLong-clause-ran g c =
    let so_far = c.loop-tool.invariant in
    next_long c.args.shard (g.S.Source.left c.args.source.now) (g.K.Sink.written c.args.sink.now) (g.K.Sink.written c.loop-tool.sink) c.loop-tool.reader c.next_line.new.self (g.S.Source.left c.loop-tool.source) (g.S.Source.left c.next_line.new.source) c.loop-tool.tool so_far.far so_far.most
    c.in-Err-TooLong.field-0 c.in-Err-TooLong.field-0-is c.in-Err-TooLong.ensures.stops (g.S.Source.faults c.args.source.now) (g.S.Source.faults c.next_line.new.source) (sink_use g.K.Sink.written g.K.Sink.faults c.loop-tool.sink c.loop-tool.sink) refl refl refl c.long_line.result c.long_line.ensures.stops c.long_line.ensures.at_line

pub returns-in-Err-Failed-clause-ran : goal.returns-in-Err-Failed-clause-ran
returns-in-Err-Failed-clause-ran g c =
    let so_far = c.loop-tool.invariant in
    let rose = c.in-Err-Failed.ensures.failed (ap Err c.in-Err-Failed.field-0-is) in
    next_failed c.args.shard (g.S.Source.left c.args.source.now) (g.K.Sink.written c.args.sink.now) (g.K.Sink.written c.loop-tool.sink) c.loop-tool.reader c.next_line.new.self (g.S.Source.left c.loop-tool.source) (g.S.Source.left c.next_line.new.source) c.loop-tool.tool so_far.far so_far.most
    c.in-Err-Failed.field-0 c.in-Err-Failed.field-0-is c.in-Err-Failed.ensures.stops (g.S.Source.faults c.args.source.now) (g.S.Source.faults c.next_line.new.source)
    (subst (λ (n : ℕ). Rose n (g.S.Source.faults c.next_line.new.source)) so_far.source_faultless rose)

pub returns-in-Err-Memory-clause-ran : goal.returns-in-Err-Memory-clause-ran
returns-in-Err-Memory-clause-ran g c =
    let so_far = c.loop-tool.invariant in
    next_memory c.args.shard (g.S.Source.left c.args.source.now) (g.K.Sink.written c.args.sink.now) (g.K.Sink.written c.loop-tool.sink) c.loop-tool.reader c.next_line.new.self (g.S.Source.left c.loop-tool.source) (g.S.Source.left c.next_line.new.source) c.loop-tool.tool so_far.far so_far.most
    (g.S.Source.faults c.args.source.now) (g.S.Source.faults c.next_line.new.source)
