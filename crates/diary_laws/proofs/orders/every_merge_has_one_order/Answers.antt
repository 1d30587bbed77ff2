use Rattle.diary_laws.specs.Nodes.{nodes_of_shape}
use Rattle.diary_laws.proofs.merges.Unique.{merged_once}
use Rattle.diary_laws.proofs.runs.Found.{nodes_become, nodes_found}
use Rattle.diary_laws.proofs.orders.every_merge_has_one_order.Goals as goal

pub returns-clause-one : goal.returns-clause-one
returns-clause-one c shape diaries are first second one two = merged_once (nodes_of_shape shape) diaries first second are one two

pub returns-clause-found : goal.returns-clause-found
returns-clause-found c shape diaries whole merged is = nodes_found shape diaries merged whole.are whole.closed is

pub returns-clause-events : goal.returns-clause-events
returns-clause-events c shape diaries whole merged is = nodes_become shape diaries merged whole.are whole.closed is
