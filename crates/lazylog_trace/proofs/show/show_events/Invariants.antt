use Rattle.std.proofs.Common.{◌≡◌, ◌++◌, drop}
use Rattle.lazylog_trace.specs.Shown.{event_texts}
use Rattle.lazylog_trace.proofs.show.show_events.Given as goal

-- the texts of the events so far stand there
abbrev pub invariant-loop-event : goal.invariant-loop-event
invariant-loop-event l = l.texts ++ event_texts (drop l.event-index l.events) ≡ l.fn.texts ++ event_texts l.events
