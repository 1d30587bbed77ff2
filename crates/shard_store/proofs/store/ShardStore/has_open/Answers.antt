use Rattle.std.proofs.Common.{ap, ◌∙◌}
use Rattle.std.specs.Prelude.{is_some}
use Rattle.lazy_rules.specs.Store.{has_open}
use Rattle.shard_store.proofs.CellBodies.{is_open_cell}
use Rattle.list_facts.proofs.Positions.{position_any}
use Rattle.shard_store.proofs.store.ShardStore.has_open.Goals as goal

pub returns : goal.returns
returns c =
    c.is_some.ensures ∙ ap is_some c.first_open.ensures ∙ position_any is_open_cell c.self.inside.order.cells
    ∙ ap has_open c.self.view_is
