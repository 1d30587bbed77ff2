use Rattle.std.proofs.Common.{refl}
use Rattle.world_facts.specs.Turns.{Turn, ClientTurn, ControlTurn, SeqTurn, ShardTurn, CrashTurn, turned}
use Rattle.lazy_rules.specs.WorldState.{WorldState}
use Rattle.std.specs.Prelude.{◌≡◌, ◌+◌}
use Rattle.world_facts.proofs.Runs.{form_of_run, step_of_run}
use Rattle.world_facts.proofs.Senders.{senders_of_run}
use Rattle.world_facts.proofs.steps.every_event_is_one_step.Goals as goal

counts : (w : WorldState) (turn : Turn) → (turned w turn).events ≡ w.events + 1
counts w (ClientTurn c n input) = refl
counts w (ControlTurn input) = refl
counts w (SeqTurn i s input) = refl
counts w (ShardTurn i j s input) = refl
counts w (CrashTurn node) = refl

pub returns-clause-form : goal.returns-clause-form
returns-clause-form c = form_of_run

pub returns-clause-senders : goal.returns-clause-senders
returns-clause-senders c = senders_of_run

pub returns-clause-step : goal.returns-clause-step
returns-clause-step c = step_of_run

pub returns-clause-counted : goal.returns-clause-counted
returns-clause-counted c = counts
