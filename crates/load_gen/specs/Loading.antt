use Rattle.std.specs.Prelude.{◌≡◌, ℕ, zero, suc, ◌+◌, ◌≤◌, List, [], ◌∷◌, ◌++◌, length, if◌then◌else◌, Option, Some, None, Result, Ok, Err}
use Rattle.list_facts.specs.Lists.{Each}
use Rattle.view_config.specs.Shape.{Dimensions, IsShape}
use Rattle.lazy_msgs.specs.declared.input.WorldEvent.{WorldEvent}
use Rattle.lazy_msgs.specs.declared.input.WorldEvent.TheVariants.{Crash}
use Rattle.lazy_msgs.specs.declared.refused.EventRefused.{EventRefused}
use Rattle.lazy_rules.specs.WorldState.{WorldState, first_world}
use Rattle.lazy_rules.specs.WorldRules.{after, happened, refusal, run}
use Rattle.lazy_core.specs.Spending.{is_spent}
use Rattle.load_gen.specs.declared.limits.TheConstants.{STEPS}
use Rattle.load_gen.specs.declared.load.Outcome.{Outcome}
use Rattle.load_gen.specs.declared.load.Outcome.TheVariants.{Through, Spent}
use Rattle.load_gen.specs.declared.load_step.LoadStep.{LoadStep}
use Rattle.load_gen.specs.declared.load_step.LoadStep.TheVariants.{Make, Skip, End}
use Rattle.load_gen.specs.Schedule.{Generator, first_generator, next_step}

-- A load: the steps of a schedule, made in a world one after the other.

-- how far it is: the world, the generator of the steps, and how many events were refused
pub record LoadState : Type 0 where
  pub world : WorldState
  pub generator : Generator
  pub refused : ℕ

abbrev pub first_load : Dimensions → ℕ → LoadState
first_load shape seed = record { world = first_world shape; generator = first_generator seed; refused = 0 }

-- what steps give: the events that are tried, refused ones among them, up to one that is spent; and how far the load
-- is then, or the step whose event was spent
pub record Loaded : Type 0 where
  pub events : List WorldEvent
  pub now : Result LoadState ℕ

abbrev pub goes_on : LoadState → Loaded
goes_on l = record { events = []; now = Ok l }

abbrev pub stops : ℕ → Loaded
stops step = record { events = []; now = Err step }

-- one refused event more, where there is a reason
abbrev pub with_refusal : ℕ → Option EventRefused → ℕ
with_refusal refused None = refused
with_refusal refused (Some reason) = refused + 1

-- an event happened, or was refused and is counted so
abbrev pub event_tried : LoadState → Generator → WorldEvent → LoadState
event_tried l g event = record {
  world = happened l.world event;
  generator = g;
  refused = with_refusal l.refused (refusal l.world event);
}

abbrev pub event_made : LoadState → Generator → WorldEvent → Loaded
event_made l g event =
    if is_spent l.world event then stops g.steps else record { events = event ∷ []; now = Ok (event_tried l g event) }

-- a step, behind which the generator is this
abbrev pub step_taken : LoadState → Generator → LoadStep → Loaded
step_taken l g (Make event) = event_made l g event
step_taken l g Skip = goes_on (record l { generator = g })
step_taken l g End = goes_on l

-- the step that comes next
abbrev pub next_of : LoadState → LoadStep × Generator
next_of l = next_step l.world.shape (length l.world.sent) l.generator

abbrev pub one_step : LoadState → Loaded
one_step l = step_taken l (next_of l).1 (next_of l).0

-- these events, and then what goes on from where they led
abbrev pub behind : List WorldEvent → Loaded → Loaded
behind events more = record { events = events ++ more.events; now = more.now }

abbrev pub continued_from : Loaded → Result LoadState ℕ → (LoadState → Loaded) → Loaded
continued_from first (Err step) more = first
continued_from first (Ok l) more = behind first.events (more l)

abbrev pub continued : Loaded → (LoadState → Loaded) → Loaded
continued first more = continued_from first first.now more

-- so many steps
unfoldable pub many_steps : ℕ → LoadState → Loaded
many_steps zero l = goes_on l
many_steps (suc n) l = continued (one_step l) (λ next. many_steps n next)

-- all steps of the schedule of this seed, from the first world of the shape
abbrev pub whole_load : Dimensions → ℕ → Loaded
whole_load shape seed = many_steps STEPS (first_load shape seed)

-- What a call does that makes steps.

abbrev pub ended_as : LoadState → Outcome → Result LoadState ℕ
ended_as l Through = Ok l
ended_as l (Spent step) = Err step

-- the steps that give this were made: their events led from the one world to the other, and all of them were made,
-- or those before one whose event was spent
pub record Makes (given : Loaded) (before after_all : LoadState) (outcome : Outcome) : Type 0 where
  pub led : after_all.world ≡ run given.events before.world
  pub ended : given.now ≡ ended_as after_all outcome

-- nobody crashes by this event
abbrev pub IsCalm : WorldEvent → Type 0
IsCalm (Crash node) = ⊥
IsCalm _ = Unit {0}

-- such events lead to this world
pub record IsLed (w : WorldState) : Type 0 where
  pub shape : Dimensions
  pub formed : IsShape shape
  pub events : List WorldEvent
  pub calm : Each IsCalm events
  pub is : w ≡ run events (first_world shape)

-- a load is on its way: no step made more than one event, or had more than one refused
pub record IsUnderWay (l : LoadState) : Type 0 where
  pub led : IsLed l.world
  pub counted : l.world.events ≤ l.generator.steps
  pub refused : l.refused ≤ l.generator.steps
  pub few : l.generator.steps ≤ STEPS
