-- A script line of a running trace: it is counted, parsed, applied and printed.
use Rattle.std.proofs.Common.{◌≡◌, ℕ, ◌+◌, ◌<◌, List, [], Some, inl, inr, refl, sym, ap, ◌∙◌, subst}
use Rattle.std.specs.Prelude.{Result, Ok, Err}
use Rattle.io_edges.specs.declared.status.Status.{Status}
use Rattle.io_edges.specs.declared.status.Status.TheVariants.{Limit, WriteFault}
use Rattle.lazy_rules.specs.WorldState.{WorldState}
use Rattle.trace_script.specs.declared.command.Command.{Command}
use Rattle.trace_script.specs.Script.{command_of}
use Rattle.lazylog_trace.specs.declared.apply.Outcome.{Outcome}
use Rattle.lazylog_trace.specs.declared.apply.Outcome.TheVariants.{Through, Spent}
use Rattle.lazylog_trace.specs.declared.trace.Trace.{Trace}
use Rattle.lazylog_trace.specs.Apply.{Applies, applied, events_of}
use Rattle.lazylog_trace.specs.Output.{Progress, command_text, line_output, lines_limit}
use Rattle.script_streams.specs.Streams.{IsWritten, SinkUse}
use Rattle.lazylog_trace.specs.Trace.{progress_of}
use Rattle.lazylog_trace.specs.Calls.{Led, Writes}
use Rattle.lazylog_trace.proofs.LineOutput.{applied_world, done_led, failed_writes, spent_writes, through_writes}

module _ (old counted : Trace) (is : counted ≡ record old { lines = old.lines + 1 }) (lt : old.lines < lines_limit) (bytes : List ℕ) (bytes_are : bytes ≡ counted.part.items) (command : Command) (says : command_of bytes ≡ Some command) where
  said : command_of old.part.items ≡ Some command
  said = subst (λ (bs : List ℕ). command_of bs ≡ Some command) (bytes_are ∙ ap (λ (t : Trace). t.part.items) is) says

  world_is : counted.world ≡ old.world
  world_is = ap (λ (t : Trace). t.world) is

  module _ (sink : SinkUse) (outcome : Outcome) (written : IsWritten (command_text counted.world command) sink (Ok outcome)) where
    written_so : (o : Outcome) → outcome ≡ o → IsWritten (command_text old.world command) sink (Ok o)
    written_so o same = subst (λ (w : WorldState). IsWritten (command_text w command) sink (Ok o)) world_is (subst (λ (x : Outcome). IsWritten (command_text counted.world command) sink (Ok x)) same written)

    module _ (world : WorldState) (done : Applies (events_of command) counted.world world outcome) where
      done_so : (o : Outcome) → outcome ≡ o → Applies (events_of command) old.world world o
      done_so o same = subst (λ (w : WorldState). Applies (events_of command) w world o) world_is (subst (λ (x : Outcome). Applies (events_of command) counted.world world x) same done)

      -- all its events were tried
      pub line_through : (now : Progress) (x : Unit {0}) → outcome ≡ Through → now ≡ record { world = world; lines = counted.lines; part = [] } → Writes {R = Unit {0}} (line_output (progress_of old)) sink.before sink.after now (Ok x)
      line_through now x through now_is =
          let number : counted.lines ≡ old.lines + 1 = ap (λ (t : Trace). t.lines) is in
          through_writes (progress_of old) command lt said sink now x (written_so Through through) world (done_so Through through)
          (now_is ∙ ap (λ (n : ℕ). record { world = world; lines = n; part = [] }) number)

      -- one was spent
      pub line_spent : (now : Progress) (number : ℕ) → outcome ≡ Spent → number ≡ old.lines + 1 → Writes {R = Unit {0}} (line_output (progress_of old)) sink.before sink.after now (Err (Limit number))
      line_spent now number spent number_is =
          subst (λ (n : ℕ). Writes {R = Unit {0}} (line_output (progress_of old)) sink.before sink.after now (Err (Limit n))) (sym number_is)
          (spent_writes (progress_of old) command lt said sink now world (written_so Spent spent) (done_so Spent spent))

      pub line_led : (result : Result (Unit {0}) Status) → Led {R = Unit {0}} (line_output (progress_of old)).events old.world world result
      line_led result = done_led (progress_of old) world result command lt said (λ e. applied_world old.world world command outcome (done_so outcome refl))

  -- a write failed, or there was no memory
  module _ (sink : SinkUse) (status : Status) (written : IsWritten {R = Outcome} (command_text counted.world command) sink (Err status)) where
    pub line_failed : (now : Progress) → Writes {R = Unit {0}} (line_output (progress_of old)) sink.before sink.after now (Err status)
    line_failed now = failed_writes (progress_of old) command lt said sink now status (subst (λ (w : WorldState). IsWritten {R = Outcome} (command_text w command) sink (Err status)) world_is written)

    pub failed_led : (world : WorldState) → (status ≡ WriteFault → world ≡ (applied counted.world (events_of command)).world) → Led {R = Unit {0}} (line_output (progress_of old)).events old.world world (Err status)
    failed_led world led = done_led (progress_of old) world {R = Unit {0}} (Err status) command lt said (λ e. elim written.only [
      | inl fault ↦ led fault ∙ ap (λ (w : WorldState). (applied w (events_of command)).world) world_is
      | inr none ↦ absurd (e (ap Err none))
    ])
