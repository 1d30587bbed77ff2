use Rattle.std.proofs.Common.{ℕ, List, ap, ◌∙◌}
use Rattle.std.specs.List.{position, slice_get}
use Rattle.shard_store.specs.Places.{Places}
use Rattle.shard_store.proofs.CellBodies.{is_open_cell, first_open_place}
use Rattle.shard_store.proofs.order.Order.first_open.Goals as goal

pub returns : goal.returns
returns c =
    c.first_of.ensures
    ∙ ap (λ (l : List ℕ). slice_get l 0) c.deref.ensures.value
    ∙ first_open_place c.self.inside.opens.items c.self.inside.cells.items c.self.invariant.open_is
    ∙ ap (λ (order : Places). position is_open_cell order.cells) c.self.view_is
