use Rattle.std.proofs.Common.{sym, ap, ◌∙◌}
use Rattle.lazy_rules.specs.Store.{Store, has_open_below}
use Rattle.shard_store.proofs.CellBodies.{is_open_cell}
use Rattle.list_facts.proofs.Positions.{below_some, below_none}
use Rattle.shard_store.proofs.store.ShardStore.has_open_below.Goals as goal

pub returns-in-Some : goal.returns-in-Some
returns-in-Some c =
    below_some is_open_cell c.args.place c.self.inside.order.cells c.in-Some.first (sym c.in-Some.is ∙ c.first_open.ensures)
    ∙ ap (λ (store : Store). has_open_below store c.args.place) c.self.view_is

pub returns-in-None : goal.returns-in-None
returns-in-None c =
    below_none is_open_cell c.args.place c.self.inside.order.cells (sym c.in-None.is ∙ c.first_open.ensures)
    ∙ ap (λ (store : Store). has_open_below store c.args.place) c.self.view_is
