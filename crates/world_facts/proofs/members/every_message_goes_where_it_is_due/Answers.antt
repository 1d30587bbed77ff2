use Rattle.world_facts.proofs.goes.All.{members_of_run}
use Rattle.world_facts.proofs.goes.Lost.{turn_of_run}
use Rattle.world_facts.proofs.members.every_message_goes_where_it_is_due.Goals as goal

pub returns-clause-members : goal.returns-clause-members
returns-clause-members c = members_of_run

pub returns-clause-turn : goal.returns-clause-turn
returns-clause-turn c = turn_of_run
