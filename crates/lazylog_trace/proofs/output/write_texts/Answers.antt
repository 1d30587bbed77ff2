use Rattle.std.proofs.Common.{◌≡◌, ◌<◌, ℕ, List, length, get_or, ◌∙◌, ap, subst, arith}
use Rattle.std.specs.Prelude.{Err}
use Rattle.std.specs.Io.KnownBytes.{append_known}
use Rattle.script_streams.specs.Streams.{IsWritten, sink_use}
use Rattle.lazylog_trace.proofs.Texts.{text_goes, text_stops}
use Rattle.lazylog_trace.proofs.output.write_texts.Goals as goal

pub returns-in-Err : goal.returns-in-Err
returns-in-Err g c =
    let same = c.as_slice-text-items.ensures in
    text_stops (g.K.Sink.written c.args.sink.now) (g.K.Sink.written c.loop-text.sink) (g.K.Sink.written c.write_text.new.sink) c.args.texts.now c.loop-text.text-index c.text-item.result
    (subst (λ (xs : List (List ℕ)). c.loop-text.text-index < length xs) same (omega arith))
    (subst (λ (xs : List (List ℕ)). c.text-item.result ≡ get_or xs c.loop-text.text-index c.text-item.result) same c.text-item.is)
    c.loop-text.invariant.goes (g.K.Sink.faults c.args.sink.now) (g.K.Sink.faults c.write_text.new.sink) c.in-Err.status
    (subst (λ (n : ℕ). IsWritten {R = Unit {0}} c.text-item.result (record { before = g.K.Sink.written c.loop-text.sink; after = g.K.Sink.written c.write_text.new.sink; faults = n; faults_now = g.K.Sink.faults c.write_text.new.sink }) (Err c.in-Err.status)) c.loop-text.invariant.faultless
    (subst (λ (text : List ℕ). IsWritten {R = Unit {0}} text (sink_use g.K.Sink.written g.K.Sink.faults c.loop-text.sink c.write_text.new.sink) (Err c.in-Err.status)) c.as_slice.ensures c.in-Err.ensures))

pub loop-text-preserved : goal.loop-text-preserved
loop-text-preserved g c =
    let same = c.as_slice-text-items.ensures in
    let written = c.in-Ok.ensures in
    let stopped = written.stopped in
    record {
      goes =
          text_goes (g.K.Sink.written c.args.sink.now) (g.K.Sink.written c.loop-text.sink) (g.K.Sink.written c.write_text.new.sink) c.args.texts.now c.loop-text.text-index c.text-item.result
          (subst (λ (xs : List (List ℕ)). c.loop-text.text-index < length xs) same (omega arith))
          (subst (λ (xs : List (List ℕ)). c.text-item.result ≡ get_or xs c.loop-text.text-index c.text-item.result) same c.text-item.is)
          c.loop-text.invariant.goes
          (written.whole ∙ ap (append_known (g.K.Sink.written c.loop-text.sink)) c.as_slice.ensures);
      faultless = stopped.faultless (λ e. cc) ∙ c.loop-text.invariant.faultless;
    }
