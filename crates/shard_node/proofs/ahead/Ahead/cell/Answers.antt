use Rattle.std.proofs.Common.{◌≡◌, ◌++◌, List, Some, length, take, subst, sym, ap, ◌∙◌, arith}
use Rattle.std.proofs.lemmas.List.{length-append, length-take-le}
use Rattle.rec_id.specs.declared.item.Cell.{Cell}
use Rattle.std.specs.List.{slice_get}
use Rattle.std.specs.Result.{IfOk}
use Rattle.lazy_rules.specs.Store.{Store}
use Rattle.shard_node.specs.declared.ahead.Change.{Change}
use Rattle.shard_node.specs.declared.ahead.Change.TheVariants.{Recut}
use Rattle.shard_node.specs.Changes.{changed, IsPossible}
use Rattle.shard_node.proofs.Stores.{recut_order}
use Rattle.shard_node.proofs.ahead.Ahead.cell.Goals as goal

pub recut_cell-requires-clause-inside : goal.recut_cell-requires-clause-inside
recut_cell-requires-clause-inside c =
    let store = c.self.inside.store.now in
    let from = c.in-Recut.from in
    let cells = c.in-Recut.cells in
    let order : c.args.self.now.order ≡ take from store.order ++ cells =
    ap (λ (s : Store). s.order) (sym c.self.view_is ∙ ap (λ (change : Change). changed change store) c.in-Recut.is) ∙ recut_order store from cells in
    let possible : IsPossible (Recut from cells) store = subst (λ (change : Change). IsPossible change store) c.in-Recut.is c.self.invariant.possible in
    omega (arith, c.requires, ap (λ (l : List Cell). length l) order, length-append (take from store.order) cells, length-take-le from store.order possible.0)

pub returns-in-Filled : goal.returns-in-Filled
returns-in-Filled c =
    subst (λ (s : Store). IfOk c.filled_cell.result (λ made. slice_get s.order c.args.place ≡ Some made))
    (ap (λ (change : Change). changed change c.self.inside.store.now) (sym c.in-Filled.is) ∙ c.self.view_is) c.filled_cell.ensures

pub returns-in-Closed : goal.returns-in-Closed
returns-in-Closed c =
    subst (λ (s : Store). IfOk c.closed_at.result (λ made. slice_get s.order c.args.place ≡ Some made))
    (ap (λ (change : Change). changed change c.self.inside.store.now) (sym c.in-Closed.is) ∙ c.self.view_is) c.closed_at.ensures

pub returns-in-Recut : goal.returns-in-Recut
returns-in-Recut c =
    subst (λ l. IfOk c.recut_cell.result (λ made. slice_get l c.args.place ≡ Some made))
    (sym (recut_order c.self.inside.store.now c.in-Recut.from c.in-Recut.cells)
    ∙ ap (λ (s : Store). s.order) (ap (λ (change : Change). changed change c.self.inside.store.now) (sym c.in-Recut.is) ∙ c.self.view_is)) c.recut_cell.ensures
