use Rattle.std.proofs.Common.{sym, ap, ◌∙◌}
use Rattle.lazy_rules.specs.Store.{Store, first_open}
use Rattle.list_facts.proofs.Positions.{below_some, below_none}
use Rattle.shard_store.proofs.CellBodies.{is_open_cell}
use Rattle.shard_node.proofs.ahead.Ahead.has_open_below.Goals as goal

pub returns-in-Some : goal.returns-in-Some
returns-in-Some c =
    below_some is_open_cell c.args.place c.args.self.now.order c.in-Some.first
    (sym c.in-Some.is ∙ c.self.invariant.open_is ∙ ap (λ (store : Store). first_open store) c.self.view_is)

pub returns-in-None : goal.returns-in-None
returns-in-None c =
    below_none is_open_cell c.args.place c.args.self.now.order
    (sym c.in-None.is ∙ c.self.invariant.open_is ∙ ap (λ (store : Store). first_open store) c.self.view_is)
