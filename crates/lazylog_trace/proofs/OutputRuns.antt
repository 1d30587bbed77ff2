-- Where the output of bytes leads to: the world is that of the run of the events that were tried, and what is
-- printed is what its history gained.
use Rattle.std.proofs.Common.{◌≡◌, ◌≢◌, ℕ, ◌+◌, List, [], ◌∷◌, ◌++◌, length, drop, Bool, true, false, Option, Some, None, refl, sym, ap, ◌∙◌, append_assoc, append-nil}
use Rattle.std.specs.Prelude.{◌==◌, nat_le, IfSome, if◌then◌else◌, Result, Ok, Err}
use Rattle.std.proofs.Math.Seq.{drop-append_seam}
use Rattle.list_facts.specs.Lists.{Each}
use Rattle.list_facts.proofs.Cases.{either}
use Rattle.list_facts.proofs.Members.{each_append}
use Rattle.rec_id.specs.declared.event.Event.{Event}
use Rattle.view_config.specs.Limits.{line_limit}
use Rattle.io_edges.specs.declared.status.Status.{Status}
use Rattle.io_edges.specs.declared.status.Status.TheVariants.{Done, BadLine, Limit}
use Rattle.lazy_rules.specs.WorldState.{WorldState}
use Rattle.lazy_rules.specs.WorldRules.{run}
use Rattle.trace_script.specs.declared.command.Command.{Command}
use Rattle.lazylog_trace.specs.Apply.{Applied, applied, until_spent, events_of}
use Rattle.lazylog_trace.specs.Output.{Progress, Output, goes_on, stops, lines_limit, command_output, parsed_output, line_output, long_output, byte_output, behind, continued_from, end_output, script_output, bytes_output}
use Rattle.trace_script.specs.Script.{command_of}
use Rattle.world_facts.proofs.Runs.{run_append}
use Rattle.lazylog_trace.proofs.Events.{run_gained}
use Rattle.lazylog_trace.proofs.AppliedEvents.{until_spent_run}
use Rattle.trace_script.specs.Spelling.{IsSayable}
use Rattle.trace_script.proofs.Sayable.{sayable}
use Rattle.lazylog_trace.proofs.PlainEvents.{IsPlain, plain_tried}
use Rattle.lazylog_trace.proofs.OwnTexts.{Made, made_nothing, made_command, made_append}

pub record Follows (r : Progress) (t : Output) : Type 0 where
  pub leads : (next : Progress) → t.now ≡ Ok next → next.world ≡ run t.events r.world
  pub growth : List Event
  pub grew : (run t.events r.world).history ≡ r.world.history ++ growth
  pub made : Made r.world t.events t.text growth
  pub plain : Each IsPlain t.events
  pub not_done : (status : Status) → t.now ≡ Err status → status ≢ Done

goes_follows : (r next : Progress) → next.world ≡ r.world → Follows r (goes_on next)
goes_follows r next same = record {
  leads = λ later e. let is : later ≡ next = cc in ap (λ (x : Progress). x.world) is ∙ same;
  growth = [];
  grew = sym (append-nil r.world.history);
  made = made_nothing r.world [];
  plain = tt;
  not_done = λ status e. cc;
}

stops_follows : (r : Progress) (given : Status) → given ≢ Done → Follows r (stops given)
stops_follows r given other = record {
  leads = λ next e. let wrong : Err given ≡ Ok next = e in cc;
  growth = [];
  grew = sym (append-nil r.world.history);
  made = made_nothing r.world [];
  plain = tt;
  not_done = λ status e is. let same : given ≡ status = cc in other (same ∙ is);
}

module _ (r : Progress) (command : Command) (can : IsSayable command) where
  abbrev done : Applied
  done = applied r.world (events_of command)

  done_is : done.world ≡ run (until_spent r.world (events_of command)) r.world
  done_is = until_spent_run r.world (events_of command)

  abbrev gained : List Event
  gained = drop (length r.world.history) done.world.history

  gained_is : (run (until_spent r.world (events_of command)) r.world).history ≡ r.world.history ++ gained
  gained_is =
      let more = run_gained (until_spent r.world (events_of command)) r.world in
      let whole : done.world.history ≡ r.world.history ++ more.told = ap (λ (w : WorldState). w.history) done_is ∙ more.grew in
      let rest : gained ≡ more.told = ap (drop (length r.world.history)) whole ∙ drop-append_seam r.world.history more.told in
      more.grew ∙ ap (λ (told : List Event). r.world.history ++ told) (sym rest)

  command_leads : (next : Progress) (b : Bool) → (if b then Err (Limit (r.lines + 1)) else Ok (record { world = done.world; lines = r.lines + 1; part = [] })) ≡ Ok next → next.world ≡ run (until_spent r.world (events_of command)) r.world
  command_leads next true e = let wrong : Err (Limit (r.lines + 1)) ≡ Ok next = e in cc
  command_leads next false e =
      let is : record { world = done.world; lines = r.lines + 1; part = [] } ≡ next = cc in
      sym (ap (λ (x : Progress). x.world) is) ∙ done_is

  abbrev ending : Bool → Result Progress Status
  ending b = if b then Err (Limit (r.lines + 1)) else Ok (record { world = done.world; lines = r.lines + 1; part = [] })

  command_stops : (status : Status) (b : Bool) → ending b ≡ Err status → status ≢ Done
  command_stops status true e is = let same : Limit (r.lines + 1) ≡ status = cc in let wrong : Limit (r.lines + 1) ≡ Done = same ∙ is in cc
  command_stops status false e is = cc

  command_follows : Follows r (command_output r command done)
  command_follows = record {
    leads = λ next e. command_leads next done.spent e;
    growth = gained;
    grew = gained_is;
    made = made_command r.world (until_spent r.world (events_of command)) command gained;
    plain = plain_tried r.world command can;
    not_done = λ status e. command_stops status done.spent e;
  }

parsed_follows : (r : Progress) (says : Option Command) → IfSome says IsSayable → Follows r (parsed_output r says)
parsed_follows r None can = stops_follows r (BadLine (r.lines + 1)) (λ e. cc)
parsed_follows r (Some command) can = command_follows r command can

pub line_follows : (r : Progress) → Follows r (line_output r)
line_follows r = either (Follows r) (r.lines == lines_limit) (stops (Limit (lines_limit + 1))) (parsed_output r (command_of r.part)) (λ e. stops_follows r (Limit (lines_limit + 1)) (λ e. cc)) (λ e. parsed_follows r (command_of r.part) (sayable r.part))

pub long_follows : (r : Progress) → Follows r (long_output r)
long_follows r = either (Follows r) (r.lines == lines_limit) (stops (Limit (lines_limit + 1))) (stops (BadLine (r.lines + 1))) (λ e. stops_follows r (Limit (lines_limit + 1)) (λ e. cc)) (λ e. stops_follows r (BadLine (r.lines + 1)) (λ e. cc))

byte_follows : (r : Progress) (byte : ℕ) → Follows r (byte_output r byte)
byte_follows r byte =
    either (Follows r) (byte == 10) (line_output r) (if nat_le (line_limit r.world.shape.edition) (length r.part) then long_output r else goes_on (record r { part = r.part ++ byte ∷ [] }))
    (λ e. line_follows r)
    (λ e. either (Follows r) (nat_le (line_limit r.world.shape.edition) (length r.part)) (long_output r) (goes_on (record r { part = r.part ++ byte ∷ [] })) (λ f. long_follows r) (λ f. goes_follows r (record r { part = r.part ++ byte ∷ [] }) refl))

pub end_follows : (r : Progress) → Follows r (end_output r)
end_follows r = either (Follows r) (length r.part == 0) (goes_on r) (line_output r) (λ e. goes_follows r r refl) (λ e. line_follows r)

pub behind_follows : (r now : Progress) (t next : Output) → t.now ≡ Ok now → Follows r t → Follows now next → Follows r (behind t next)
behind_follows r now t next on f g =
    let world : now.world ≡ run t.events r.world = f.leads now on in
    let both : run (t.events ++ next.events) r.world ≡ run next.events now.world = run_append t.events next.events r.world ∙ ap (run next.events) (sym world) in
    record {
      leads = λ later e. g.leads later e ∙ sym both;
      growth = f.growth ++ g.growth;
      grew =
          ap (λ (w : WorldState). w.history) both ∙ g.grew ∙ ap (λ (w : WorldState). w.history ++ g.growth) world
          ∙ ap (λ (h : List Event). h ++ g.growth) f.grew ∙ append_assoc r.world.history f.growth g.growth;
      made = made_append r.world now.world t.events next.events world t.text next.text f.growth g.growth f.made g.made;
      plain = each_append IsPlain t.events next.events f.plain g.plain;
      not_done = g.not_done;
    }

continued_follows : (r : Progress) (t : Output) (more : Progress → Output) → Follows r t → ((x : Progress) → Follows x (more x)) → (n : Result Progress Status) → t.now ≡ n → Follows r (continued_from t n more)
continued_follows r t more f g (Err status) e = f
continued_follows r t more f g (Ok x) e = behind_follows r x t (more x) e f (g x)

pub bytes_follow : (r : Progress) (bytes : List ℕ) → Follows r (bytes_output r bytes)
bytes_follow r [] = goes_follows r r refl
bytes_follow r (byte ∷ bytes) = continued_follows r (byte_output r byte) (λ next. bytes_output next bytes) (byte_follows r byte) (λ x. bytes_follow x bytes) (byte_output r byte).now refl

pub script_follows : (r : Progress) (bytes : List ℕ) → Follows r (script_output r bytes)
script_follows r bytes = continued_follows r (bytes_output r bytes) end_output (bytes_follow r bytes) end_follows (bytes_output r bytes).now refl
