use Rattle.std.specs.Prelude.{ℕ, ◌+◌, ◌-◌, ◌/◌, ◌%◌, min, List, length, slice_index, ◌==◌, nat_le, if◌then◌else◌, Option, Some, None, decimal}
use Rattle.rand_core.specs.Pcg32Seed.{pcg32_seed}
use Rattle.rand_pcg.specs.Lcg.{Lcg}
use Rattle.rand_pcg.specs.Pcg.{pcg32, pcg32_of_seed}
use Rattle.rec_id.specs.declared.event.Ask.TheVariants.{Tail}
use Rattle.view_config.specs.Nodes.{seq_id}
use Rattle.view_config.specs.Shape.{Dimensions}
use Rattle.lazy_msgs.specs.declared.input.WorldEvent.{WorldEvent}
use Rattle.lazy_msgs.specs.declared.input.WorldEvent.TheVariants.{Post, Ask, Deliver, Tick, Grace, Suspect}
use Rattle.load_gen.specs.declared.load_step.LoadStep.{LoadStep}
use Rattle.load_gen.specs.declared.load_step.LoadStep.TheVariants.{Make, Skip, End}
use Rattle.load_gen.specs.declared.limits.TheConstants.{STEPS, SUSPICION_STEP, LATE, TAILS}
use Rattle.load_gen.specs.Nodes.{all_nodes, shard_replicas}

-- The schedule of a load: which event each step makes, in a world of a shape in which so many messages were sent.

-- how many steps were made, and the generator of the words that the next ones draw
pub record Generator : Type 0 where
  pub steps : ℕ
  pub words : Lcg

-- no step was made yet
abbrev pub first_generator : ℕ → Generator
first_generator seed = record { steps = 0; words = pcg32_of_seed (pcg32_seed 16 seed) }

-- the member of a list that a number draws
abbrev pub member_drawn : List ℕ → ℕ → ℕ
member_drawn nodes b = slice_index nodes (b % length nodes)

-- the delivery of one of the latest messages, and of any, where one was sent
abbrev pub late_delivery : ℕ → ℕ → Option WorldEvent
late_delivery sent b = if sent == 0 then None else Some (Deliver (sent - b % min sent LATE))

abbrev pub any_delivery : ℕ → ℕ → Option WorldEvent
any_delivery sent b = if sent == 0 then None else Some (Deliver (1 + b % sent))

-- the event that a word draws, by its remainder a and its quotient b at 16; first where it isn't a post
abbrev pub other_event : Dimensions → ℕ → ℕ → ℕ → Option WorldEvent
other_event shape sent a b =
    if nat_le a 11 then late_delivery sent b
    else (if a == 12 then Some (Tick (member_drawn (all_nodes shape) b))
    else (if a == 13 then Some (Grace (member_drawn (shard_replicas shape) b))
    else (if a == 14 then Some (Ask (b % shape.clients) (Tail (b / shape.clients % TAILS)))
    else any_delivery sent b)))

abbrev pub drawn_event : Dimensions → ℕ → ℕ → ℕ → ℕ → Option WorldEvent
drawn_event shape sent step a b =
    if nat_le a 2 then Some (Post (b % shape.clients) (decimal step)) else other_event shape sent a b

-- a step with this event, if any
abbrev pub step_with : Option WorldEvent → LoadStep
step_with None = Skip
step_with (Some event) = Make event

abbrev pub drawn_step : Dimensions → ℕ → ℕ → ℕ → LoadStep
drawn_step shape sent step word = step_with (drawn_event shape sent step (word % 16) (word / 16))

-- the last sequencing replica of the first view is suspected
abbrev pub suspicion : Dimensions → LoadStep
suspicion shape = Make (Suspect (seq_id (shape.seq - 1)))

-- one step more was made, and these words are left
abbrev pub counted : Generator → Lcg → Generator
counted g words = record { steps = g.steps + 1; words = words }

-- the next step, and the generator behind it: each step draws one word, but for the suspicion, which draws none
abbrev pub next_step : Dimensions → ℕ → Generator → LoadStep × Generator
next_step shape sent g =
    if g.steps == STEPS then (End, g)
    else (if g.steps + 1 == SUSPICION_STEP then (suspicion shape, counted g g.words)
    else (drawn_step shape sent (g.steps + 1) (pcg32 g.words).0, counted g (pcg32 g.words).1))
