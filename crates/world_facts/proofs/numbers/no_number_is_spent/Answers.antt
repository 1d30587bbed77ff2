use Rattle.world_facts.proofs.counts.All.{numbers_of_run}
use Rattle.world_facts.proofs.numbers.no_number_is_spent.Goals as goal

pub returns : goal.returns
returns c = numbers_of_run
