use Rattle.std.proofs.Common.{sym, ◌∙◌}
use Rattle.lazy_rules.specs.Store.{is_cell_of, has_data}
use Rattle.list_facts.proofs.Positions.{below_some, below_none}
use Rattle.shard_store.proofs.forecast.has_before.Goals as goal

pub returns-in-Some : goal.returns-in-Some
returns-in-Some c =
    below_some (is_cell_of has_data c.args.id) c.args.from c.args.order.now.cells c.in-Some.place (sym c.in-Some.is ∙ c.first.ensures)

pub returns-in-None : goal.returns-in-None
returns-in-None c = below_none (is_cell_of has_data c.args.id) c.args.from c.args.order.now.cells (sym c.in-None.is ∙ c.first.ensures)
