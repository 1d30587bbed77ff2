use Rattle.std.proofs.Common.{◌≡◌, ◌+◌, ◌<◌, List, length, get_or, sym, subst, ap, ◌∙◌, arith}
use Rattle.std.proofs.Math.ListN.{set}
use Rattle.std.proofs.lemmas.List.{take_at}
use Rattle.rec_id.specs.declared.item.Cell.{Cell}
use Rattle.lazy_rules.specs.Store.{given_up_cell}
use Rattle.shard_store.specs.Links.{blank}
use Rattle.shard_store.specs.Places.{Places, IsGivenUp}
use Rattle.shard_store.proofs.CellBodies.{indexed_given_up, given_one}
use Rattle.shard_store.proofs.order.Order.take_data.Goals as goal

pub invariant_of-self : goal.invariant_of-self
invariant_of-self c =
    let cells = c.self.inside.cells.items in
    let now = c.take_bytes.new.cells in
    let inside : c.args.place < length cells = omega (arith, c.requires, ap (λ (o : Places). length o.cells) c.self.view_is) in
    let is : now ≡ set cells c.args.place (given_up_cell (get_or cells c.args.place blank)) = c.take_bytes.ensures.cells ∙ ap (λ (l : List Cell). set l c.args.place (given_up_cell (get_or l c.args.place blank))) c.deref_mut.ensures.value in
    let given : IsGivenUp c.args.place (c.args.place + 1) cells now = subst (λ (l : List Cell). IsGivenUp c.args.place (c.args.place + 1) cells l) (sym is) (given_one cells c.args.place inside) in
    let len : length now ≡ c.self.inside.cells.len = omega (arith, given.len, c.deref_mut.ensures.len, ap (λ (l : List Cell). length l) c.deref_mut.ensures.value) in
    rw (take_at now _ c.self.inside.cells.len len)
    (indexed_given_up cells c.self.inside.heads.items c.self.inside.before.items c.self.inside.opens.items c.self.inside.spare _ _ _ c.self.invariant
    c.args.place (c.args.place + 1) now (omega (arith, inside)) given)
