use Rattle.world_facts.proofs.sizes.All.{sizes_of_run}
use Rattle.world_facts.proofs.sizes.Sent.{let_in_all}
use Rattle.world_facts.proofs.fitting.no_message_is_turned_away.Goals as goal

pub returns-clause-sizes : goal.returns-clause-sizes
returns-clause-sizes c = sizes_of_run

pub returns-clause-let_in : goal.returns-clause-let_in
returns-clause-let_in c = let_in_all
