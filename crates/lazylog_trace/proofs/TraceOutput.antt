-- What a whole trace writes, and what its trail has.
use Rattle.std.proofs.Common.{◌≡◌, ◌≢◌, ◌⊎◌, ℕ, List, [], ◌++◌, Option, None, Some, inl, inr, refl, sym, ap, ◌∙◌, subst}
use Rattle.std.specs.Prelude.{Result, Ok, Err}
use Rattle.std.specs.Io.KnownBytes.{append_known, IsAtEnd}
use Rattle.io_edges.specs.Telling.{Fails, Stops}
use Rattle.io_edges.specs.declared.status.Status.{Status}
use Rattle.io_edges.specs.declared.status.Status.TheVariants.{Done, Usage, BadLine, ReadFault, WriteFault, Memory, Limit}
use Rattle.io_edges.proofs.TellingLemmas.{append_known-append, goes_on as goes_piece, stops_further, stops_within, stops_same}
use Rattle.view_config.specs.Shape.{Dimensions, IsShape}
use Rattle.lazy_msgs.specs.declared.input.WorldEvent.{WorldEvent}
use Rattle.lazy_rules.specs.WorldState.{WorldState, first_world}
use Rattle.lazy_rules.specs.WorldRules.{run}
use Rattle.lazy_core.specs.declared.trail.Trail.{Trail}
use Rattle.lazy_core.specs.Filled.{IsFilled}
use Rattle.lazylog_trace.specs.Output.{Progress, first_progress, bytes_output, line_output, script_output, closing, closing_of, last_text, status_of, stop_text, out, out_read}
use Rattle.script_streams.specs.Streams.{HasBytes, SinkUse, SourceUse}
use Rattle.lazylog_trace.specs.Calls.{Closed, FailedIn, Ran, RanOf, TracedTo}
use Rattle.lazylog_trace.specs.Traced.{IsTrace, ReadOf, Traced}
use Rattle.lazylog_trace.specs.Printed.{Shows}
use Rattle.lazylog_trace.proofs.PrintedHistory.{shown}
use Rattle.rec_id.specs.declared.event.Event.{Event}
use Rattle.world_facts.proofs.Runs.{run_append}
use Rattle.lazylog_trace.proofs.OutputRuns.{bytes_follow, script_follows}

-- a trace of these bytes: the events that it applied, and the world that they led to
record Course (source : SourceUse) (start : Progress) (bytes : List ℕ) (before after : Option (List ℕ)) (world : WorldState) (status : Status) : Type 0 where
  events : List WorldEvent
  traced : Traced source start bytes before after events status
  led : status ≢ Memory → world ≡ run events start.world

module _ (source : SourceUse) (start : Progress) (bytes : List ℕ) (before : Option (List ℕ)) where
  -- want of memory, wherever it came
  memory_only : (after : Option (List ℕ)) (events : List WorldEvent) → Stops before after (out start bytes) ⊎ ((k : ReadOf source start bytes) × Stops before after (out_read start k.read)) → Traced source start bytes before after events Memory
  memory_only after events front = record {
    ended = λ one two three. absurd (three refl);
    whole = λ one two three. absurd (three refl);
    applied = λ one two three. absurd (three refl);
    read_whole = λ e. let wrong : Memory ≡ Done = e in cc;
    read = λ e. let wrong : Memory ≡ ReadFault = e in cc;
    failed = λ e. let wrong : Memory ≡ WriteFault = e in cc;
    front = front;
  }

  pub then_memory : (after : Option (List ℕ)) (events : List WorldEvent) (status : Status) → Traced source start bytes before after events status → Traced source start bytes before after events Memory
  then_memory after events status t = memory_only after events t.front

module _ (source : SourceUse) (start : Progress) (bytes : List ℕ) (before between after : Option (List ℕ)) (now : Progress) where
  -- an output, and the last text behind it
  two_parts : (first last : List ℕ) → between ≡ append_known before first → after ≡ append_known between last → after ≡ append_known before (first ++ last)
  two_parts first last one two = two ∙ ap (λ (k : Option (List ℕ)). append_known k last) one ∙ append_known-append before first last

  -- all of the script was applied: it was read to its end, or to the script line that stops it
  module _ (end_is : Result Progress Status) (is : (script_output start bytes).now ≡ end_is) (written : between ≡ append_known before (script_output start bytes).text) (world : now.world ≡ run (script_output start bytes).events start.world)
      (line : Option (List ℕ)) (line_is : closing_of line ≡ closing end_is) (given : Status) (given_is : given ≡ status_of end_is) (no_fault : given ≢ ReadFault) (no_write : given ≢ WriteFault) (ended : given ≡ Done → IsAtEnd source.left) (quiet : source.faults_now ≡ source.faults) (status : Status) (closed : Closed line given between after status) where
    last_is : closing_of line ≡ closing (script_output start bytes).now
    last_is = line_is ∙ ap (λ (n : Result Progress Status). closing n) (sym is)

    closing_fails : status ≡ WriteFault → Fails between after (closing_of line)
    closing_fails e = elim closed.outcome [
      | inl done ↦ absurd (no_write (sym done.0 ∙ e))
      | inr other ↦ elim other [
        | inl f ↦ f.1
        | inr f ↦ let wrong : Memory ≡ WriteFault = sym f ∙ e in cc
      ]
    ]

    whole_course : Course source start bytes before after now.world status
    whole_course = record {
      events = (script_output start bytes).events;
      traced = record {
        ended = λ one two three. elim closed.outcome [
          | inl done ↦ done.0 ∙ given_is ∙ sym (ap (status_of {R = Progress}) is)
          | inr other ↦ elim other [ inl e ↦ absurd (two e.0) | inr e ↦ absurd (three e) ]
        ];
        whole = λ one two three. elim closed.outcome [
          | inl done ↦ two_parts (script_output start bytes).text (closing_of line) written done.1 ∙ ap (λ (last : List ℕ). append_known before ((script_output start bytes).text ++ last)) last_is
          | inr other ↦ elim other [ inl e ↦ absurd (two e.0) | inr e ↦ absurd (three e) ]
        ];
        applied = λ one two three. refl;
        read_whole = λ e. elim closed.outcome [
          | inl done ↦ ended (sym done.0 ∙ e)
          | inr other ↦ elim other [
            | inl f ↦ let wrong : WriteFault ≡ Done = sym f.0 ∙ e in cc
            | inr f ↦ let wrong : Memory ≡ Done = sym f ∙ e in cc
          ]
        ];
        read = λ e. elim closed.outcome [
          | inl done ↦ absurd (no_fault (sym done.0 ∙ e))
          | inr other ↦ elim other [
            | inl f ↦ let wrong : WriteFault ≡ ReadFault = sym f.0 ∙ e in cc
            | inr f ↦ let wrong : Memory ≡ ReadFault = sym f ∙ e in cc
          ]
        ];
        failed = λ e. inl (
          quiet,
          inr (record {
            applied = refl;
            front = subst (λ (k : Option (List ℕ)). Fails k after (closing (script_output start bytes).now)) written (subst (λ (last : List ℕ). Fails between after last) last_is (closing_fails e));
          }),
        );
        front = inl (stops_further (goes_piece (script_output start bytes).text refl written) (subst (λ (last : List ℕ). Stops between after last) last_is closed.front));
      };
      led = λ e. world;
    }

  -- the source failed
  module _ (status : Status) (k : ReadOf source start bytes) (k_now : k.now ≡ now) (written : between ≡ append_known before (bytes_output start k.read).text) (closed : Closed (stop_text ReadFault) ReadFault between after status) where
    source_course : Course source start bytes before after now.world status
    source_course = record {
      events = (bytes_output start k.read).events;
      traced = record {
        ended = λ one two three. absurd (settled one two three);
        whole = λ one two three. absurd (settled one two three);
        applied = λ one two three. absurd (settled one two three);
        read_whole = λ e. absurd (settled (λ f. let wrong : Done ≡ ReadFault = sym e ∙ f in cc) (λ f. let wrong : Done ≡ WriteFault = sym e ∙ f in cc) (λ f. let wrong : Done ≡ Memory = sym e ∙ f in cc));
        read = λ e. elim closed.outcome [
          | inl done ↦ (k, refl, two_parts (bytes_output start k.read).text (closing (Err ReadFault)) written done.1)
          | inr other ↦ elim other [
            | inl f ↦ let wrong : WriteFault ≡ ReadFault = sym f.0 ∙ e in cc
            | inr f ↦ let wrong : Memory ≡ ReadFault = sym f ∙ e in cc
          ]
        ];
        failed = λ e. inr (k, record { applied = refl; front = subst (λ (known : Option (List ℕ)). Fails known after (closing (Err ReadFault))) written (closing_fails e) });
        front = inr (k, stops_further (goes_piece (bytes_output start k.read).text refl written) closed.front);
      };
      led = λ e. ap (λ (r : Progress). r.world) (sym k_now) ∙ (bytes_follow start k.read).leads k.now k.on;
    }
      where
        settled : status ≢ ReadFault → status ≢ WriteFault → status ≢ Memory → ⊥
        settled one two three = elim closed.outcome [
          | inl done ↦ one done.0
          | inr other ↦ elim other [ inl e ↦ two e.0 | inr e ↦ three e ]
        ]

        closing_fails : status ≡ WriteFault → Fails between after (closing (Err ReadFault))
        closing_fails e = elim closed.outcome [
          | inl done ↦ let wrong : ReadFault ≡ WriteFault = sym done.0 ∙ e in cc
          | inr other ↦ elim other [
            | inl f ↦ f.1
            | inr f ↦ let wrong : Memory ≡ WriteFault = sym f ∙ e in cc
          ]
        ]

  -- the write of the texts of a script line failed, so that there is no last text
  module _ (status : Status) (quiet : source.faults_now ≡ source.faults) (failed : FailedIn start bytes before between now.world) (front : Stops before between (out start bytes)) (same : after ≡ between) (why : (status ≡ WriteFault) ⊎ (status ≡ Memory)) where
    sink_course : Course source start bytes before after now.world status
    sink_course = record {
      events = (bytes_output start failed.place.read).events ++ (line_output failed.place.now).events;
      traced = record {
        ended = λ one two three. absurd (settled one two three);
        whole = λ one two three. absurd (settled one two three);
        applied = λ one two three. absurd (settled one two three);
        read_whole = λ e. absurd (settled (λ f. let wrong : Done ≡ ReadFault = sym e ∙ f in cc) (λ f. let wrong : Done ≡ WriteFault = sym e ∙ f in cc) (λ f. let wrong : Done ≡ Memory = sym e ∙ f in cc));
        read = λ e. elim why [
          | inl f ↦ let wrong : WriteFault ≡ ReadFault = sym f ∙ e in cc
          | inr f ↦ let wrong : Memory ≡ ReadFault = sym f ∙ e in cc
        ];
        failed = λ e. inl (
          quiet,
          inl (
            record {
              read = failed.place.read;
              rest = failed.place.rest;
              now = failed.place.now;
              bytes_are = failed.place.bytes_are;
              ends = failed.place.ends;
              on = failed.place.on;
              front = subst (λ (known : Option (List ℕ)). Fails (append_known before (bytes_output start failed.place.read).text) known (line_output failed.place.now).text) (sym same) failed.place.front;
            },
            refl,
          ),
        );
        front = inl (subst (λ (known : Option (List ℕ)). Stops before known (out start bytes)) (sym same) front);
      };
      led = λ e.
          failed.world_is
          ∙ ap (run (line_output failed.place.now).events) ((bytes_follow start failed.place.read).leads failed.place.now failed.place.on)
          ∙ sym (run_append (bytes_output start failed.place.read).events (line_output failed.place.now).events start.world);
    }
      where
        settled : status ≢ ReadFault → status ≢ WriteFault → status ≢ Memory → ⊥
        settled one two three = elim why [ inl e ↦ two e | inr e ↦ three e ]

  -- there was no memory
  memory_course : (status : Status) → status ≡ Memory → Stops before after (out start bytes) → Course source start bytes before after now.world status
  memory_course status is front = record {
    events = [];
    traced = subst (λ (s : Status). Traced source start bytes before after [] s) (sym is) (memory_only source start bytes before after [] (inl front));
    led = λ other. absurd (other is);
  }

  -- a script line stopped it
  at_line : (given status : Status) → (given ≡ Done → IsAtEnd source.left) → given ≢ ReadFault → given ≢ WriteFault → given ≢ Memory → Ran {R = Unit {0}} source start bytes before between now (Err given) → Closed (stop_text given) given between after status → Course source start bytes before after now.world status
  at_line given status ended one two three ran closed = whole_course (Err given) (ran.stopped one two three) (ran.written one two three) (ran.led one two three) (stop_text given) refl given refl one two ended (ran.faultless (λ e. let same : given ≡ ReadFault = cc in one same)) status closed

  -- whatever stopped it
  stopped_course : (given status : Status) → Ran {R = Unit {0}} source start bytes before between now (Err given) → Closed (stop_text given) given between after status → Course source start bytes before after now.world status
  stopped_course ReadFault status ran closed = let k = ran.read refl in source_course status k.0 k.1 k.2 closed
  stopped_course WriteFault status ran closed = let none = closed.none refl in sink_course status (ran.faultless (λ e. cc)) (ran.failed refl) (stops_within (closing (script_output start bytes).now) refl ran.front) none.0 none.1
  stopped_course Memory status ran closed =
      let none = closed.none refl in
      memory_course status (elim none.1 [ inl e ↦ e | inr e ↦ e ])
      (subst (λ (known : Option (List ℕ)). Stops before known (out start bytes)) (sym none.0) (stops_within (closing (script_output start bytes).now) refl ran.front))
  stopped_course (BadLine n) status ran closed = at_line (BadLine n) status (λ e. cc) (λ e. cc) (λ e. cc) (λ e. cc) ran closed
  stopped_course (Limit n) status ran closed = at_line (Limit n) status (λ e. cc) (λ e. cc) (λ e. cc) (λ e. cc) ran closed
  stopped_course Done status ran closed = absurd ((script_follows start bytes).not_done Done (ran.stopped (λ e. cc) (λ e. cc) (λ e. cc)) refl)
  stopped_course Usage status ran closed = at_line Usage status (λ e. cc) (λ e. cc) (λ e. cc) (λ e. cc) ran closed

  both_course : (ended : Result (Unit {0}) Status) (status : Status) → Ran source start bytes before between now ended → Closed (last_text now.world ended) (status_of ended) between after status → Course source start bytes before after now.world status
  both_course (Ok done) status ran closed = whole_course (Ok now) ran.on ran.whole ((script_follows start bytes).leads now ran.on) (last_text now.world (Ok done)) refl Done refl (λ e. cc) (λ e. cc) (λ e. ran.ended) (ran.faultless (λ e. cc)) status closed
  both_course (Err given) status ran closed = stopped_course given status ran closed

-- what a script led to, and then the last text
pub both_traced : (source : SourceUse) (start : Progress) (before between after : Option (List ℕ)) (now : Progress) (ended : Result (Unit {0}) Status) (status : Status) → RanOf source start before between now ended → Closed (last_text now.world ended) (status_of ended) between after status → TracedTo source start before after now.world status
both_traced source start before between after now ended status r closed =
    let course = both_course source start r.bytes before between after now ended status r.ran closed in
    record { bytes = r.bytes; has = r.has; events = course.events; traced = course.traced; led = course.led }

-- a trace in a shape
module _ (shape : Dimensions) (source : SourceUse) (sink : SinkUse) (trail_before trail_after : Trail) where
  any_bytes : (h : Option (List ℕ)) → (bytes : List ℕ) × HasBytes h bytes
  any_bytes None = ([], tt)
  any_bytes (Some bytes) = (bytes, refl)

  -- nothing came, and there was no memory
  pub memory_trace : sink.after ≡ sink.before → IsTrace shape source sink trail_before trail_after Memory
  memory_trace same =
      let some = any_bytes source.had in
      record {
        bytes = some.0;
        has = some.1;
        events = [];
        traced = memory_only source (first_progress shape) some.0 sink.before sink.after [] (inl (subst (λ (known : Option (List ℕ)). Stops sink.before known (out (first_progress shape) some.0)) (sym same) (stops_same sink.before (out (first_progress shape) some.0))));
        filled = λ other. absurd (other refl);
        shows = λ other. absurd (other refl);
      }

  module _ (formed : IsShape shape) (world : WorldState) (given status : Status) (t : TracedTo source (first_progress shape) sink.before sink.after world given) (filled : status ≢ Memory → IsFilled world trail_before trail_after) where
    -- there was no memory for the trail
    unfilled_trace : status ≡ Memory → IsTrace shape source sink trail_before trail_after status
    unfilled_trace is = record {
      bytes = t.bytes;
      has = t.has;
      events = t.events;
      traced = subst (λ (s : Status). Traced source (first_progress shape) t.bytes sink.before sink.after t.events s) (sym is) (then_memory source (first_progress shape) t.bytes sink.before sink.after t.events given t.traced);
      filled = λ other. absurd (other is);
      shows = λ other. absurd (other is);
    }

    -- the trail was filled
    same_trace : status ≡ given → (given ≡ Memory → status ≡ Memory) → IsTrace shape source sink trail_before trail_after status
    same_trace is memory = record {
      bytes = t.bytes;
      has = t.has;
      events = t.events;
      traced = traced;
      filled = filled_run;
      shows = λ other.
          subst (λ (h : List Event). Shows sink.before sink.after h status) (sym (filled_run other).history)
          (shown source shape formed t.bytes sink.before sink.after t.events status other traced);
    }
      where
        traced : Traced source (first_progress shape) t.bytes sink.before sink.after t.events status
        traced = subst (λ (s : Status). Traced source (first_progress shape) t.bytes sink.before sink.after t.events s) (sym is) t.traced

        filled_run : status ≢ Memory → IsFilled (run t.events (first_world shape)) trail_before trail_after
        filled_run other = subst (λ (w : WorldState). IsFilled w trail_before trail_after) (t.led (λ e. other (memory e))) (filled other)

    pub filled_trace : (status ≡ given) ⊎ (status ≡ Memory) → (given ≡ Memory → status ≡ Memory) → IsTrace shape source sink trail_before trail_after status
    filled_trace (inl is) memory = same_trace is memory
    filled_trace (inr is) memory = unfilled_trace is
