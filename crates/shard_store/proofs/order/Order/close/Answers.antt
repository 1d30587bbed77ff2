use Rattle.std.proofs.Common.{◌≡◌, ◌<◌, List, true, length, get_or, ap, ◌∙◌, arith}
use Rattle.std.proofs.Math.ListN.{set, length-set}
use Rattle.std.proofs.lemmas.List.{take_at}
use Rattle.rec_id.specs.declared.item.Cell.{Cell}
use Rattle.lazy_rules.specs.Store.{is_open}
use Rattle.shard_store.specs.Links.{blank}
use Rattle.shard_store.specs.Places.{Places}
use Rattle.shard_store.proofs.CellBodies.{indexed_closed}
use Rattle.shard_store.proofs.order.Order.close.Goals as goal

pub invariant_of-self : goal.invariant_of-self
invariant_of-self c =
    let cells = c.self.inside.cells.items in
    let now = c.set_body.new.cells in
    let made : Cell = record { id = (get_or cells c.args.place blank).id; body = c.args.body } in
    let is : now ≡ set cells c.args.place made =
    c.set_body.ensures ∙ ap (λ (l : List Cell). set l c.args.place (let cell : Cell = record { id = (get_or l c.args.place blank).id; body = c.args.body } in cell)) c.deref_mut.ensures.value in
    let len : length now ≡ c.self.inside.cells.len = omega (arith, ap (λ (l : List Cell). length l) is, length-set cells c.args.place made, c.deref_mut.ensures.len, ap (λ (l : List Cell). length l) c.deref_mut.ensures.value) in
    let opened : is_open (get_or cells c.args.place blank).body ≡ true = ap (λ (o : Places). is_open (get_or o.cells c.args.place blank).body) c.self.view_is ∙ c.requires.open_ in
    let inside : c.args.place < length cells = omega (arith, c.requires.inside, ap (λ (o : Places). length o.cells) c.self.view_is) in
    rw (take_at now _ c.self.inside.cells.len len, is, c.forget_place.ensures.items, c.forget_place.ensures.capacity)
    (indexed_closed cells c.self.inside.heads.items c.self.inside.before.items c.self.inside.opens.items c.self.inside.spare _ _ _ c.self.invariant
    c.args.place c.args.body inside opened c.requires.closed)
