use Rattle.std.proofs.Common.{ℕ, ap, refl, subst, ◌∙◌}
use Rattle.std.specs.Prelude.{Err}
use Rattle.io_edges.specs.Faults.{Rose}
use Rattle.script_streams.specs.Streams.{sink_use}
use Rattle.recode_top.proofs.Steps.{next_end, next_failed, next_last, next_long, next_memory, next_more, next_stopped, none_read}
use Rattle.recode_top.proofs.top.run_lines.Goals as goal

-- there was no memory for the reader
pub returns-in_default-clause-ran : goal.returns-in_default-clause-ran
returns-in_default-clause-ran g c = none_read (g.S.Source.left c.args.source.now) (g.K.Sink.written c.args.sink.now) c.args.counts.now c.requires (g.S.Source.faults c.args.source.now)

-- a line went on
pub loop-counts-preserved : goal.loop-counts-preserved
loop-counts-preserved g c =
    let so_far = c.loop-counts.invariant in
    let next = c.in-Ok-Line.ensures in
    let added = c.in-Ok-add_line.ensures in
    record {
      far =
          next_more (g.S.Source.left c.args.source.now) (g.K.Sink.written c.args.sink.now) (g.K.Sink.written c.loop-counts.sink) c.loop-counts.reader c.next_line.new.self (g.S.Source.left c.loop-counts.source) (g.S.Source.left c.next_line.new.source) c.loop-counts.counts so_far.far so_far.most
          c.in-Ok-Line.field-0 c.in-Ok-Line.field-0-is next.gives c.line.result.now c.line.ensures (sink_use g.K.Sink.written g.K.Sink.faults c.loop-counts.sink c.add_line.new.sink) refl c.add_line.new.self c.in-Ok-add_line.field-0 added.writes;
      kept = added.kept;
      most = next.most ∙ so_far.most;
      faultless = added.writes.faults.faultless (λ e. cc) ∙ so_far.faultless;
      source_faultless = next.faultless (λ e. cc) ∙ so_far.source_faultless;
    }

-- or stopped
pub returns-in-Err-clause-ran : goal.returns-in-Err-clause-ran
returns-in-Err-clause-ran g c =
    let so_far = c.loop-counts.invariant in
    next_stopped (g.S.Source.left c.args.source.now) (g.K.Sink.written c.args.sink.now) (g.K.Sink.written c.loop-counts.sink) c.loop-counts.reader c.next_line.new.self (g.S.Source.left c.loop-counts.source) (g.S.Source.left c.next_line.new.source) c.loop-counts.counts so_far.far so_far.most
    c.in-Ok-Line.field-0 c.in-Ok-Line.field-0-is c.in-Ok-Line.ensures.gives c.line.result.now c.line.ensures (g.S.Source.faults c.args.source.now) (g.S.Source.faults c.next_line.new.source) (sink_use g.K.Sink.written g.K.Sink.faults c.loop-counts.sink c.add_line.new.sink) refl c.add_line.new.self c.in-Err.status c.in-Err.ensures.writes

pub returns-in-Ok-Last-clause-ran : goal.returns-in-Ok-Last-clause-ran
returns-in-Ok-Last-clause-ran g c =
    let so_far = c.loop-counts.invariant in
    next_last (g.S.Source.left c.args.source.now) (g.K.Sink.written c.args.sink.now) (g.K.Sink.written c.loop-counts.sink) c.loop-counts.reader c.next_line.new.self (g.S.Source.left c.loop-counts.source) (g.S.Source.left c.next_line.new.source) c.loop-counts.counts so_far.far so_far.most
    c.in-Ok-Last.field-0 c.in-Ok-Last.field-0-is c.in-Ok-Last.ensures.gives c.line-in-Ok-Last.result.now c.line-in-Ok-Last.ensures (g.S.Source.faults c.args.source.now) (g.S.Source.faults c.next_line.new.source) (sink_use g.K.Sink.written g.K.Sink.faults c.loop-counts.sink c.add_line-in-Ok-Last.new.sink) refl c.add_line-in-Ok-Last.new.self c.add_line-in-Ok-Last.result c.add_line-in-Ok-Last.ensures.writes

pub returns-in-Ok-End-clause-ran : goal.returns-in-Ok-End-clause-ran
returns-in-Ok-End-clause-ran g c =
    let so_far = c.loop-counts.invariant in
    next_end (g.S.Source.left c.args.source.now) (g.K.Sink.written c.args.sink.now) (g.K.Sink.written c.loop-counts.sink) c.loop-counts.reader c.next_line.new.self (g.S.Source.left c.loop-counts.source) (g.S.Source.left c.next_line.new.source) c.loop-counts.counts so_far.far so_far.most
    c.in-Ok-End.field-0 c.in-Ok-End.field-0-is c.in-Ok-End.ensures.gives (g.S.Source.faults c.args.source.now) (g.S.Source.faults c.next_line.new.source) tt

pub returns-in-Err-TooLong-clause-ran : goal.returns-in-Err-TooLong-clause-ran
returns-in-Err-TooLong-clause-ran g c =
    let so_far = c.loop-counts.invariant in
    next_long (g.S.Source.left c.args.source.now) (g.K.Sink.written c.args.sink.now) (g.K.Sink.written c.loop-counts.sink) c.loop-counts.reader c.next_line.new.self (g.S.Source.left c.loop-counts.source) (g.S.Source.left c.next_line.new.source) c.loop-counts.counts so_far.far so_far.most
    c.in-Err-TooLong.field-0 c.in-Err-TooLong.field-0-is c.in-Err-TooLong.ensures.stops (g.S.Source.faults c.args.source.now) (g.S.Source.faults c.next_line.new.source) (sink_use g.K.Sink.written g.K.Sink.faults c.loop-counts.sink c.loop-counts.sink) refl refl refl c.long_line.result c.long_line.ensures.stops c.long_line.ensures.at_line

pub returns-in-Err-Failed-clause-ran : goal.returns-in-Err-Failed-clause-ran
returns-in-Err-Failed-clause-ran g c =
    let so_far = c.loop-counts.invariant in
    let rose = c.in-Err-Failed.ensures.failed (ap Err c.in-Err-Failed.field-0-is) in
    next_failed (g.S.Source.left c.args.source.now) (g.K.Sink.written c.args.sink.now) (g.K.Sink.written c.loop-counts.sink) c.loop-counts.reader c.next_line.new.self (g.S.Source.left c.loop-counts.source) (g.S.Source.left c.next_line.new.source) c.loop-counts.counts so_far.far so_far.most
    c.in-Err-Failed.field-0 c.in-Err-Failed.field-0-is c.in-Err-Failed.ensures.stops (g.S.Source.faults c.args.source.now) (g.S.Source.faults c.next_line.new.source)
    (subst (λ (n : ℕ). Rose n (g.S.Source.faults c.next_line.new.source)) so_far.source_faultless rose)

pub returns-in-Err-Memory-clause-ran : goal.returns-in-Err-Memory-clause-ran
returns-in-Err-Memory-clause-ran g c =
    let so_far = c.loop-counts.invariant in
    next_memory (g.S.Source.left c.args.source.now) (g.K.Sink.written c.args.sink.now) (g.K.Sink.written c.loop-counts.sink) c.loop-counts.reader c.next_line.new.self (g.S.Source.left c.loop-counts.source) (g.S.Source.left c.next_line.new.source) c.loop-counts.counts so_far.far so_far.most
    (g.S.Source.faults c.args.source.now) (g.S.Source.faults c.next_line.new.source)
