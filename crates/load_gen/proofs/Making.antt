-- Steps of a load: one event, one step, many steps.
use Rattle.std.proofs.Common.{◌≡◌, ℕ, suc, ◌+◌, ◌-◌, ◌<◌, List, [], ◌∷◌, ◌++◌, append_assoc, append-nil, Bool, true, false, not, ◌&&◌, Option, Some, None, refl, sym, ap, ◌∙◌, subst, arith}
use Rattle.std.specs.Prelude.{◌/◌, ◌%◌, ◌==◌, nat_le, if◌then◌else◌, Result, Ok, Err, decimal}
use Rattle.std.specs.Option.{is_none}
use Rattle.list_facts.proofs.Cases.{either}
use Rattle.list_facts.proofs.Members.{each_append}
use Rattle.view_config.specs.Shape.{Dimensions}
use Rattle.lazy_msgs.specs.declared.input.WorldEvent.{WorldEvent}
use Rattle.lazy_msgs.specs.declared.input.WorldEvent.TheVariants.{Post}
use Rattle.lazy_msgs.specs.declared.refused.EventRefused.{EventRefused}
use Rattle.lazy_rules.specs.WorldRules.{IsWithinLimits, accepted, after, happened, refusal, run}
use Rattle.lazy_rules.specs.WorldState.{WorldState, first_world}
use Rattle.world_facts.specs.Turns.{ClientTurn, ControlTurn, CrashTurn, SeqTurn, ShardTurn, Turn, turned}
use Rattle.world_facts.proofs.Runs.{run_append}
use Rattle.world_facts.proofs.goes.Lost.{turn_of_run}
use Rattle.lazy_core.specs.Happens.{Happens}
use Rattle.lazy_core.specs.Spending.{is_within}
use Rattle.lazy_core.proofs.Spending.{beyond_false, within_true}
use Rattle.rand_pcg.specs.Pcg.{pcg32}
use Rattle.load_gen.specs.declared.limits.TheConstants.{STEPS, SUSPICION_STEP}
use Rattle.load_gen.specs.declared.load.Outcome.{Outcome}
use Rattle.load_gen.specs.declared.load.Outcome.TheVariants.{Through, Spent}
use Rattle.load_gen.specs.declared.load_step.LoadStep.{LoadStep}
use Rattle.load_gen.specs.declared.load_step.LoadStep.TheVariants.{End, Make, Skip}
use Rattle.load_gen.specs.Loading.{IsCalm, IsLed, IsUnderWay, Loaded, LoadState, Makes, behind, continued, continued_from, ended_as, event_made, goes_on, many_steps, one_step, stops, with_refusal}
use Rattle.load_gen.specs.Schedule.{Generator, drawn_event, drawn_step, next_step, other_event, step_with, suspicion}

-- one event
module _ (l : LoadState) (g : Generator) (event : WorldEvent) (new : WorldState) where
  abbrev tried : Option EventRefused → Bool → Loaded
  tried reason within =
      if is_none reason && not within then stops g.steps
      else record { events = event ∷ []; now = Ok (record { world = accepted l.world event reason; generator = g; refused = with_refusal l.refused reason }) }

  so : (reason : Option EventRefused) (within : Bool) → refusal l.world event ≡ reason → is_within (after l.world event) ≡ within → event_made l g event ≡ tried reason within
  so reason within why fits = ap (λ (r : Option EventRefused). tried r (is_within (after l.world event))) why ∙ ap (tried reason) fits

  makes : (given : Loaded) (outcome : Outcome) (refused : ℕ) → event_made l g event ≡ given → new ≡ run given.events l.world → given.now ≡ ended_as (record { world = new; generator = g; refused = refused }) outcome
      → Makes (event_made l g event) l (record { world = new; generator = g; refused = refused }) outcome
  makes given outcome refused is led ended = record {
    led = led ∙ ap (λ (x : Loaded). run x.events l.world) (sym is);
    ended = ap (λ (x : Loaded). x.now) is ∙ ended;
  }

  pub made_happened : refusal l.world event ≡ None → IsWithinLimits (after l.world event) → new ≡ after l.world event → Makes (event_made l g event) l (record { world = new; generator = g; refused = l.refused }) Through
  made_happened allowed within is =
      makes (tried None true) Through l.refused (so None true allowed (within_true (after l.world event) within))
      (is ∙ sym (ap (accepted l.world event) allowed))
      (ap (λ (x : WorldState). Ok (record { world = x; generator = g; refused = l.refused })) (sym is))

  pub made_spent : refusal l.world event ≡ None → ¬ IsWithinLimits (after l.world event) → new ≡ l.world → Makes (event_made l g event) l (record { world = new; generator = g; refused = l.refused }) (Spent g.steps)
  made_spent allowed beyond is = makes (tried None false) (Spent g.steps) l.refused (so None false allowed (beyond_false (after l.world event) beyond)) is refl

  pub made_refused : (reason : EventRefused) → refusal l.world event ≡ Some reason → new ≡ l.world → Makes (event_made l g event) l (record { world = new; generator = g; refused = l.refused + 1 }) Through
  made_refused reason why is =
      makes (tried (Some reason) (is_within (after l.world event))) Through (l.refused + 1) (so (Some reason) (is_within (after l.world event)) why refl)
      (is ∙ sym (ap (accepted l.world event) why))
      (ap (λ (x : WorldState). Ok (record { world = x; generator = g; refused = l.refused + 1 })) (sym is))

pub ruleset events_made = (made_happened, made_spent, made_refused)

-- one event more, of which a load may be made
pub led_more : (w : WorldState) (event : WorldEvent) → IsLed w → IsCalm event → IsLed (happened w event)
led_more w event led calm = record {
  shape = led.shape;
  formed = led.formed;
  events = led.events ++ event ∷ [];
  calm = each_append IsCalm led.events (event ∷ []) led.calm (calm, tt);
  is = ap (λ (x : WorldState). happened x event) led.is ∙ sym (run_append led.events (event ∷ []) (first_world led.shape));
}

pub led_after : (w new : WorldState) (event : WorldEvent) → IsLed w → IsCalm event → refusal w event ≡ None → new ≡ after w event → IsLed new
led_after w new event led calm allowed is = subst IsLed (sym (is ∙ sym (ap (accepted w event) allowed))) (led_more w event led calm)

-- a turn is one event
turn_counts : (w : WorldState) (turn : Turn) → (turned w turn).events ≡ w.events + 1
turn_counts w (ClientTurn c n input) = refl
turn_counts w (ControlTurn input) = refl
turn_counts w (SeqTurn i s input) = refl
turn_counts w (ShardTurn i j s input) = refl
turn_counts w (CrashTurn node) = refl

-- an event that isn't refused is counted
counted_after : (w : WorldState) (event : WorldEvent) → IsLed w → refusal w event ≡ None → (after w event).events ≡ w.events + 1
counted_after w event led allowed =
    let reached : WorldState = run led.events (first_world led.shape) in
    let next : (e : WorldEvent) → refusal reached e ≡ None → (after reached e).events ≡ reached.events + 1 =
    λ e free. let turn = turn_of_run led.shape led.events led.formed e free in ap (λ (x : WorldState). x.events) turn.did ∙ turn_counts reached turn.turn in
    subst (λ (x : WorldState). (e : WorldEvent) → refusal x e ≡ None → (after x e).events ≡ x.events + 1) (sym led.is) next event allowed

-- a load whose step was counted is under way, whatever its event came to
pub under_way_after :
    (l : LoadState) (event : WorldEvent) (new : WorldState) (outcome : Result (Unit {0}) EventRefused) → IsUnderWay l → l.world.events < l.generator.steps → IsCalm event → Happens event l.world new outcome → IsUnderWay (record l { world = new })
under_way_after l event new (Ok done) way counted calm h =
    let next : (after l.world event).events ≡ l.world.events + 1 = counted_after l.world event way.led h.allowed in
    let same : new.events ≡ (after l.world event).events = ap (λ (x : WorldState). x.events) h.happened in
    record { led = led_after l.world new event way.led calm h.allowed h.happened; counted = omega arith; refused = way.refused; few = way.few }
under_way_after l event new (Err refused) way counted calm h =
    let same : new.events ≡ l.world.events = ap (λ (x : WorldState). x.events) h.unchanged in
    record { led = subst IsLed (sym h.unchanged) way.led; counted = omega arith; refused = way.refused; few = way.few }

-- the events of the schedule are calm
abbrev CalmStep : LoadStep → Type 0
CalmStep (Make event) = IsCalm event
CalmStep Skip = Unit {0}
CalmStep End = Unit {0}

abbrev Calm : Option WorldEvent → Type 0
Calm event = CalmStep (step_with event)

calm_other : (shape : Dimensions) (sent a b : ℕ) → Calm (other_event shape sent a b)
calm_other shape sent a b = search (either Calm) depth 14

calm_event : (shape : Dimensions) (sent step a b : ℕ) → Calm (drawn_event shape sent step a b)
calm_event shape sent step a b =
    either Calm (nat_le a 2) (Some (Post (b % shape.clients) (decimal step))) (other_event shape sent a b) (λ h. tt) (λ h. calm_other shape sent a b)

abbrev CalmNext : LoadStep × Generator → Type 0
CalmNext next = CalmStep next.0

calm_next : (shape : Dimensions) (sent : ℕ) (g : Generator) → CalmNext (next_step shape sent g)
calm_next shape sent g =
    either CalmNext (g.steps == STEPS) (End, g) _ (λ h. tt)
    (λ h. either CalmNext (g.steps + 1 == SUSPICION_STEP) (suspicion shape, record { steps = g.steps + 1; words = g.words }) (drawn_step shape sent (g.steps + 1) (pcg32 g.words).0, record { steps = g.steps + 1; words = (pcg32 g.words).1 })
    (λ k. tt) (λ k. calm_event shape sent (g.steps + 1) ((pcg32 g.words).0 % 16) ((pcg32 g.words).0 / 16)))

pub calm_made : (shape : Dimensions) (sent : ℕ) (g h : Generator) (event : WorldEvent) → (Make event, h) ≡ next_step shape sent g → IsCalm event
calm_made shape sent g h event is = subst CalmNext (sym is) (calm_next shape sent g)

-- many steps
pub none_left : (l : LoadState) → many_steps 0 l ≡ goes_on l
unfolding many_steps
none_left l = refl

one_more : (n : ℕ) (l : LoadState) → many_steps (suc n) l ≡ continued (one_step l) (λ next. many_steps n next)
unfolding many_steps
one_more n l = refl

-- how the steps of a load went on from its start to here, with so many left
pub record Leads (whole : Loaded) (start l : LoadState) (left : ℕ) : Type 0 where
  pub done : List WorldEvent
  pub led : l.world ≡ run done start.world
  pub on : whole ≡ behind done (many_steps left l)

pub begins : (n : ℕ) (l : LoadState) → Leads (many_steps n l) l l n
begins n l = record { done = []; led = refl; on = refl }

module _ (whole : Loaded) (start l next : LoadState) where
  led_on : (done events : List WorldEvent) → l.world ≡ run done start.world → next.world ≡ run events l.world → next.world ≡ run (done ++ events) start.world
  led_on done events led more = more ∙ ap (run events) led ∙ sym (run_append done events start.world)

  pub goes_further : (left : ℕ) → 0 < left → Leads whole start l left → Makes (one_step l) l next Through → Leads whole start next (left - 1)
  goes_further left some is step =
      let more : left ≡ suc (left - 1) = omega arith in
      record {
        done = is.done ++ (one_step l).events;
        led = led_on is.done (one_step l).events is.led step.led;
        on =
            is.on
            ∙ ap (λ (n : ℕ). behind is.done (many_steps n l)) more
            ∙ ap (behind is.done) (one_more (left - 1) l ∙ ap (λ (now : Result LoadState ℕ). continued_from (one_step l) now (λ x. many_steps (left - 1) x)) step.ended)
            ∙ ap (λ (events : List WorldEvent). record { events = events; now = (many_steps (left - 1) next).now }) (sym (append_assoc is.done (one_step l).events (many_steps (left - 1) next).events));
      }

  pub stops_there : (left step : ℕ) → 0 < left → Leads whole start l left → Makes (one_step l) l next (Spent step) → Makes whole start next (Spent step)
  stops_there left step some is made =
      let more : left ≡ suc (left - 1) = omega arith in
      let so : whole ≡ behind is.done (one_step l) =
      is.on
      ∙ ap (λ (n : ℕ). behind is.done (many_steps n l)) more
      ∙ ap (behind is.done) (one_more (left - 1) l ∙ ap (λ (now : Result LoadState ℕ). continued_from (one_step l) now (λ x. many_steps (left - 1) x)) made.ended) in
      record {
        led = led_on is.done (one_step l).events is.led made.led ∙ ap (λ (x : Loaded). run x.events start.world) (sym so);
        ended = ap (λ (x : Loaded). x.now) so ∙ made.ended;
      }

pub ends : (whole : Loaded) (start l : LoadState) → Leads whole start l 0 → Makes whole start l Through
ends whole start l is =
    let so : whole ≡ behind is.done (goes_on l) = is.on ∙ ap (behind is.done) (none_left l) in
    record {
      led = is.led ∙ ap (λ (events : List WorldEvent). run events start.world) (sym (append-nil is.done)) ∙ ap (λ (x : Loaded). run x.events start.world) (sym so);
      ended = ap (λ (x : Loaded). x.now) so;
    }
