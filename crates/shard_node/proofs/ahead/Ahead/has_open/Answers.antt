use Rattle.std.proofs.Common.{sym, ap, ◌∙◌}
use Rattle.std.specs.Prelude.{is_some}
use Rattle.lazy_rules.specs.Store.{Store, first_open}
use Rattle.list_facts.proofs.Positions.{position_any}
use Rattle.shard_store.proofs.CellBodies.{is_open_cell}
use Rattle.shard_node.proofs.ahead.Ahead.has_open.Goals as goal

pub returns-in-Some : goal.returns-in-Some
returns-in-Some c =
    ap (λ o. is_some o) (sym c.in-Some.is ∙ c.self.invariant.open_is ∙ ap (λ (store : Store). first_open store) c.self.view_is)
    ∙ position_any is_open_cell c.args.self.now.order

pub returns-in-None : goal.returns-in-None
returns-in-None c =
    ap (λ o. is_some o) (sym c.in-None.is ∙ c.self.invariant.open_is ∙ ap (λ (store : Store). first_open store) c.self.view_is)
    ∙ position_any is_open_cell c.args.self.now.order
