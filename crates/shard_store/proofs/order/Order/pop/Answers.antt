use Rattle.std.proofs.Common.{◌≡◌, ℕ, ◌<◌, ◌∷◌, [], ◌++◌, List, length, subst, ap, ◌∙◌, arith}
use Rattle.std.specs.Vec.{vec_capacity}
use Rattle.rec_id.specs.declared.item.Cell.{Cell}
use Rattle.shard_store.specs.Links.{bucket}
use Rattle.shard_store.specs.Places.{open_from, IsIndexed}
use Rattle.shard_store.proofs.OrderIndex.{opens_before, indexed_pop}
use Rattle.shard_store.proofs.order.Order.pop.Goals as goal

pub invariant_of-self : goal.invariant_of-self
invariant_of-self c =
    let inside = c.self.inside in
    let heads = inside.heads.items in
    let cells = c.pop_some-cell.new.members.items in
    let cell = c.pop_some-cell.result in
    let before = c.pop_some-end.new.members.items in
    let end = c.pop_some-end.result in
    let size_is : c.len.result ≡ length heads = omega arith in
    let at_is : c.bucket-at.result ≡ bucket (length heads) cell.id = c.bucket-at.ensures.bucket ∙ ap (λ (n : ℕ). bucket n cell.id) size_is in
    let within : bucket (length heads) cell.id < length heads = omega (arith, at_is, size_is, c.bucket-at.ensures.within) in
    let room = vec_capacity inside.cells in
    let before_room = vec_capacity inside.before in
    let open_room = vec_capacity inside.opens in
    let same_cells : IsIndexed (cells ++ cell ∷ []) heads inside.before.items inside.opens.items inside.spare room before_room open_room =
    subst (λ (l : List Cell). IsIndexed l heads inside.before.items inside.opens.items inside.spare room before_room open_room) c.pop_some-cell.ensures.items c.self.invariant in
    let indexed : IsIndexed (cells ++ cell ∷ []) heads (before ++ end ∷ []) inside.opens.items inside.spare room before_room open_room =
    subst (λ (l : List ℕ). IsIndexed (cells ++ cell ∷ []) heads l inside.opens.items inside.spare room before_room open_room) c.pop_some-end.ensures.items same_cells in
    let opens : c.forget_open.new.opens.items ≡ open_from 0 cells = c.forget_open.ensures.items (open_from 0 cells) (length cells)
    (opens_before cells cell heads before inside.opens.items end inside.spare room before_room open_room indexed) in
    rw (opens, c.pop_some-cell.ensures.capacity, c.pop_some-end.ensures.capacity, c.forget_open.ensures.capacity, at_is)
    (indexed_pop cells cell heads before inside.opens.items end inside.spare room before_room open_room indexed within)
