use Rattle.std.proofs.Common.{◌≡◌, List, length, subst, ap, arith}
use Rattle.std.proofs.lemmas.List.{take_at}
use Rattle.rec_id.specs.declared.item.Cell.{Cell}
use Rattle.shard_store.specs.Places.{Places, IsGivenUp}
use Rattle.shard_store.proofs.CellBodies.{indexed_given_up}
use Rattle.shard_store.proofs.order.Order.give_up.Goals as goal

pub invariant_of-self : goal.invariant_of-self
invariant_of-self c =
    let cells = c.self.inside.cells.items in
    let now = c.give_up_cells.new.cells in
    let given : IsGivenUp c.args.from c.args.to cells now = subst (λ (l : List Cell). IsGivenUp c.args.from c.args.to l now) c.deref_mut.ensures.value c.give_up_cells.ensures in
    let len : length now ≡ c.self.inside.cells.len = omega (arith, given.len, c.deref_mut.ensures.len, ap (λ (l : List Cell). length l) c.deref_mut.ensures.value) in
    rw (take_at now _ c.self.inside.cells.len len)
    (indexed_given_up cells c.self.inside.heads.items c.self.inside.before.items c.self.inside.opens.items c.self.inside.spare _ _ _ c.self.invariant
    c.args.from c.args.to now (omega (arith, c.requires, ap (λ (o : Places). length o.cells) c.self.view_is)) given)
