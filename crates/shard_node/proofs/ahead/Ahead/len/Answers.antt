use Rattle.std.proofs.Common.{◌≡◌, ◌++◌, List, length, take, subst, sym, ap, ◌∙◌, arith}
use Rattle.std.proofs.lemmas.List.{length-append, length-take-le}
use Rattle.rec_id.specs.declared.item.Cell.{Cell}
use Rattle.lazy_rules.specs.Store.{Store}
use Rattle.shard_node.specs.declared.ahead.Change.{Change}
use Rattle.shard_node.specs.declared.ahead.Change.TheVariants.{Recut}
use Rattle.shard_node.specs.Changes.{changed, IsPossible}
use Rattle.shard_node.proofs.Stores.{recut_order}
use Rattle.shard_node.proofs.ahead.Ahead.len.Goals as goal

pub returns-in-Recut : goal.returns-in-Recut
returns-in-Recut c =
    let store = c.self.inside.store.now in
    let from = c.in-Recut.from in
    let cells = c.in-Recut.cells in
    let order : c.args.self.now.order ≡ take from store.order ++ cells =
    ap (λ (s : Store). s.order) (sym c.self.view_is ∙ ap (λ (change : Change). changed change store) c.in-Recut.is) ∙ recut_order store from cells in
    let possible : IsPossible (Recut from cells) store = subst (λ (change : Change). IsPossible change store) c.in-Recut.is c.self.invariant.possible in
    omega (arith, c.len-in-Recut.ensures, ap (λ (l : List Cell). length l) order, length-append (take from store.order) cells, length-take-le from store.order possible.0)
