use Rattle.std.proofs.Common.{◌≡◌, ℕ, ◌≤◌, [], List, length, map, subst, ap, ◌∙◌, arith}
use Rattle.std.specs.List.{filter}
use Rattle.std.proofs.lemmas.List.{take_at}
use Rattle.rec_id.specs.declared.item.Cell.{Cell}
use Rattle.lazy_rules.specs.Store.{closed_cell}
use Rattle.shard_store.specs.Places.{Places, IsClosing}
use Rattle.shard_store.proofs.CellBodies.{is_open_cell, indexed_all_closed, closing_end, length-open_from, open_few}
use Rattle.shard_store.proofs.order.Order.close_all.Goals as goal

closing : (c : goal.After-truncate) → IsClosing c.self.inside.cells.items c.close_cells.new.cells []
closing c = subst (λ (l : List Cell). IsClosing l c.close_cells.new.cells []) c.deref_mut.ensures.value c.close_cells.ensures

len : (c : goal.After-truncate) → length c.close_cells.new.cells ≡ c.self.inside.cells.len
len c = omega (arith, (closing c).len, c.deref_mut.ensures.len, ap (λ (l : List Cell). length l) c.deref_mut.ensures.value)

pub invariant_of-self : goal.invariant_of-self
invariant_of-self c =
    rw (take_at c.close_cells.new.cells _ c.self.inside.cells.len (len c), c.truncate.ensures.items, c.truncate.ensures.capacity)
    (indexed_all_closed c.self.inside.cells.items c.self.inside.heads.items c.self.inside.before.items c.self.inside.opens.items c.self.inside.spare _ _ _ c.self.invariant
    c.close_cells.new.cells (closing c))

pub overflow_cast-count : goal.overflow_cast-count
overflow_cast-count c =
    let few : length c.self.inside.opens.items ≤ length c.self.inside.cells.items = omega (arith, open_few 0 c.self.inside.cells.items, ap (λ (l : List ℕ). length l) c.self.invariant.open_is) in
    record { fits = omega (arith, few, c.self.invariant.short) }

pub returns-clause-count : goal.returns-clause-count
returns-clause-count c =
    let count : c.len-count.result ≡ length c.self.inside.opens.items = omega arith in
    count ∙ ap (λ (l : List ℕ). length l) c.self.invariant.open_is ∙ length-open_from 0 c.self.inside.cells.items
    ∙ ap (λ (o : Places). length (filter is_open_cell o.cells)) c.self.view_is

pub returns-clause-cells : goal.returns-clause-cells
returns-clause-cells c =
    let items = take_at c.close_cells.new.cells _ c.self.inside.cells.len (len c) ∙ closing_end c.self.inside.cells.items c.close_cells.new.cells (closing c) in
    ap (λ (l : List Cell). let made : Places = record { cells = l; spare = c.self.inside.spare } in made) items
    ∙ ap (λ (o : Places). let made : Places = record { cells = map closed_cell o.cells; spare = o.spare } in made) c.self.view_is
