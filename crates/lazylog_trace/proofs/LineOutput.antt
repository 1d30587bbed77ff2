-- The output of a script line, and what of it is written.
use Rattle.std.proofs.Common.{◌≡◌, ◌≢◌, ℕ, ◌+◌, ◌<◌, List, [], Bool, Option, None, Some, inl, inr, refl, sym, ap, ◌∙◌, subst, arith}
use Rattle.std.specs.Prelude.{Result, Ok, Err, if◌then◌else◌}
use Rattle.std.proofs.lemmas.Bool.{ne_eqb}
use Rattle.io_edges.specs.declared.status.Status.{Status}
use Rattle.io_edges.specs.declared.status.Status.TheVariants.{BadLine, Limit, ReadFault, Usage, WriteFault, Memory}
use Rattle.io_edges.proofs.TellingLemmas.{append_known-nil, stops_same}
use Rattle.lazy_rules.specs.WorldState.{WorldState}
use Rattle.lazylog_trace.specs.declared.apply.Outcome.{Outcome}
use Rattle.lazylog_trace.specs.declared.apply.Outcome.TheVariants.{Through, Spent}
use Rattle.trace_script.specs.declared.command.Command.{Command}
use Rattle.lazylog_trace.specs.Apply.{Applies, Applied, applied, events_of, command_texts}
use Rattle.lazy_rules.specs.WorldRules.{run}
use Rattle.lazylog_trace.specs.Calls.{Led, Writes}
use Rattle.lazylog_trace.proofs.AppliedEvents.{until_spent_run}
use Rattle.script_streams.specs.Texts.{printed}
use Rattle.lazylog_trace.specs.Output.{Progress, Output, lines_limit, counted, parsed_output, command_output, line_output, stops, command_text}
use Rattle.script_streams.specs.Streams.{IsWritten, SinkUse}
use Rattle.trace_script.specs.Script.{command_of}

module _ {R : Type 0} (known : Option (List ℕ)) (now : Progress) where
  -- a stop at which nothing is printed
  stop_writes : (status : Status) → status ≢ WriteFault → Writes {R = R} (stops status) known known now (Err status)
  stop_writes status no_fault = record {
    on = tt;
    whole = tt;
    stopped = λ one other. refl;
    written = λ one other. sym (append_known-nil known);
    failed = λ e. let is : status ≡ WriteFault = cc in absurd (no_fault is);
    front = stops_same known [];
  }

  -- want of memory, wherever it comes
  pub memory_writes : (t : Output) → Writes {R = R} t known known now (Err Memory)
  memory_writes t = record {
    on = tt;
    whole = tt;
    stopped = λ one other. absurd (other refl);
    written = λ one other. absurd (other refl);
    failed = λ e. cc;
    front = stops_same known t.text;
  }

module _ (r : Progress) where
  below_limit : (t : Output) → r.lines < lines_limit → counted r t ≡ t
  below_limit t lt = ap (λ (b : Bool). if b then stops (Limit (lines_limit + 1)) else t) (ne_eqb r.lines lines_limit (omega arith))

  module _ {R : Type 0} (known : Option (List ℕ)) (now : Progress) where
    -- the script line says nothing
    pub bad_writes : r.lines < lines_limit → command_of r.part ≡ None → Writes {R = R} (line_output r) known known now (Err (BadLine (r.lines + 1)))
    bad_writes lt bad = subst (λ (x : Output). Writes {R = R} x known known now (Err (BadLine (r.lines + 1)))) (sym (below_limit (parsed_output r (command_of r.part)) lt ∙ ap (parsed_output r) bad)) (stop_writes known now (BadLine (r.lines + 1)) (λ e. cc))

-- a text that was written, or not all of it
fault_writes : {R A : Type 0} (t : Output) (sink : SinkUse) (now : Progress) (status : Status) → IsWritten {R = A} t.text sink (Err status) → Writes {R = R} t sink.before sink.after now (Err status)
fault_writes t sink now status written = record {
  on = tt;
  whole = tt;
  stopped = λ one other. absurd (elim written.only [ inl is ↦ one is | inr is ↦ other is ]);
  written = λ one other. absurd (elim written.only [ inl is ↦ one is | inr is ↦ other is ]);
  failed = λ e. let is : status ≡ WriteFault = cc in written.fails (ap Err is);
  front = written.front;
}

-- the script line says this command, which was applied
module _ (r : Progress) (command : Command) (lt : r.lines < lines_limit) (says : command_of r.part ≡ Some command) where
  line_is : line_output r ≡ command_output r command (applied r.world (events_of command))
  line_is = below_limit r (parsed_output r (command_of r.part)) lt ∙ ap (parsed_output r) says

  module _ {R : Type 0} (sink : SinkUse) (now : Progress) where
    -- all of it, and its texts were written
    pub through_writes : (x : R) → IsWritten (command_text r.world command) sink (Ok Through) → (world : WorldState) → Applies (events_of command) r.world world Through → now ≡ record { world = world; lines = r.lines + 1; part = [] } → Writes {R = R} (line_output r) sink.before sink.after now (Ok x)
    through_writes x written world done is = subst (λ (t : Output). Writes {R = R} t sink.before sink.after now (Ok x)) (sym line_is) (record {
      on = ap (λ (a : Applied). if a.spent then Err (Limit (r.lines + 1)) else Ok (record { world = a.world; lines = r.lines + 1; part = [] })) done.done ∙ ap Ok (sym is);
      whole = written.whole;
      stopped = tt;
      written = tt;
      failed = λ e. cc;
      front = written.front;
    })

    -- up to an event that is spent
    pub spent_writes : (world : WorldState) → IsWritten (command_text r.world command) sink (Ok Spent) → Applies (events_of command) r.world world Spent → Writes {R = R} (line_output r) sink.before sink.after now (Err (Limit (r.lines + 1)))
    spent_writes world written done = subst (λ (t : Output). Writes {R = R} t sink.before sink.after now (Err (Limit (r.lines + 1)))) (sym line_is) (record {
      on = tt;
      whole = tt;
      stopped = λ one other. ap (λ (a : Applied). if a.spent then Err (Limit (r.lines + 1)) else Ok (record { world = a.world; lines = r.lines + 1; part = [] })) done.done;
      written = λ one other. written.whole;
      failed = λ e. cc;
      front = written.front;
    })

    -- and a write failed, or there was no memory
    pub failed_writes : (status : Status) → IsWritten {R = Outcome} (command_text r.world command) sink (Err status) → Writes {R = R} (line_output r) sink.before sink.after now (Err status)
    failed_writes status written = subst (λ (t : Output). Writes {R = R} t sink.before sink.after now (Err status)) (sym line_is)
        (fault_writes (command_output r command (applied r.world (events_of command))) sink now status written)

-- the texts of a command that was applied
module _ (w new : WorldState) (command : Command) (outcome : Outcome) (done : Applies (events_of command) w new outcome) (texts : List (List ℕ)) (are : texts ≡ command_texts w command new) (sink : SinkUse) where
  text_is : printed texts ≡ command_text w command
  text_is = ap printed are ∙ sym (ap (λ (a : Applied). printed (command_texts w command a.world)) done.done)

  pub texts_whole : {A B : Type 0} (a : A) (b : B) → IsWritten {R = A} (printed texts) sink (Ok a) → IsWritten {R = B} (command_text w command) sink (Ok b)
  texts_whole {A = A} {B = B} a b written = subst (λ (text : List ℕ). IsWritten {R = B} text sink (Ok b)) text_is (record {
    whole = written.whole;
    front = written.front;
    fails = λ e. cc;
    only = tt;
    stopped = let stopped = written.stopped in record { write_fault = λ e. cc; no_read_fault = λ e. cc; no_usage = λ e. cc; grows = stopped.grows; faultless = λ e. stopped.faultless (λ f. cc) };
  })

  pub texts_part : {A B : Type 0} (status : Status) → IsWritten {R = A} (printed texts) sink (Err status) → IsWritten {R = B} (command_text w command) sink (Err status)
  texts_part {A = A} {B = B} status written = subst (λ (text : List ℕ). IsWritten {R = B} text sink (Err status)) text_is (record {
    whole = tt;
    front = written.front;
    fails = λ e. let is : status ≡ WriteFault = cc in written.fails (ap Err is);
    only = written.only;
    stopped = let stopped = written.stopped in record {
      write_fault = λ e. let is : status ≡ WriteFault = cc in stopped.write_fault (ap Err is);
      no_read_fault = λ e. let is : status ≡ ReadFault = cc in stopped.no_read_fault (ap Err is);
      no_usage = λ e. let is : status ≡ Usage = cc in stopped.no_usage (ap Err is);
      grows = stopped.grows;
      faultless = λ e. stopped.faultless (λ f. let is : status ≡ WriteFault = cc in e (ap Err is));
    };
  })

-- the world that a command led to
pub applied_world : (w new : WorldState) (command : Command) (outcome : Outcome) → Applies (events_of command) w new outcome → new ≡ (applied w (events_of command)).world
applied_world w new command outcome done = sym (ap (λ (a : Applied). a.world) done.done)

module _ (r : Progress) (now : WorldState) {R : Type 0} (outcome : Result R Status) where
  -- a command was done
  pub done_led : (command : Command) → r.lines < lines_limit → command_of r.part ≡ Some command → (outcome ≢ Err Memory → now ≡ (applied r.world (events_of command)).world) → Led {R = R} (line_output r).events r.world now outcome
  done_led command lt says is = record {
    leads = λ e.
        is e ∙ until_spent_run r.world (events_of command)
        ∙ ap (λ (x : Output). run x.events r.world) (sym (below_limit r (parsed_output r (command_of r.part)) lt ∙ ap (parsed_output r) says));
  }
