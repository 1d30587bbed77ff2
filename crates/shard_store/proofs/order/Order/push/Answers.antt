use Rattle.std.proofs.Common.{◌≡◌, ℕ, ◌+◌, ◌^◌, ◌<◌, ◌∷◌, [], ◌++◌, length, get_or, ap, ◌∙◌, arith}
use Rattle.std.proofs.lemmas.List.{get_or_read}
use Rattle.shard_store.specs.Links.{bucket}
use Rattle.shard_store.specs.Places.{Places, open_from}
use Rattle.shard_store.proofs.OrderIndex.{indexed_push}
use Rattle.shard_store.proofs.order.Order.push.Goals as goal

pub invariant_of-self : goal.invariant_of-self
invariant_of-self c =
    let inside = c.self.inside in
    let heads = inside.heads.items in
    let size_is : c.len.result ≡ length heads = omega arith in
    let at_is : c.bucket-at.result ≡ bucket (length heads) c.args.cell.id = c.bucket-at.ensures.bucket ∙ ap (λ (n : ℕ). bucket n c.args.cell.id) size_is in
    let within : bucket (length heads) c.args.cell.id < length heads = omega (arith, at_is, size_is, c.bucket-at.ensures.within) in
    let place_is : c.len-place.result ≡ length inside.cells.items = omega arith in
    let read : c.index.result.now ≡ get_or heads (bucket (length heads) c.args.cell.id) 0 =
    get_or_read heads c.bucket-at.result c.index.result.now (omega (arith, at_is, within)) c.index.ensures 0 ∙ ap (λ (at : ℕ). get_or heads at 0) at_is in
    let some : 0 < inside.spare = omega (arith, c.requires.room, ap (λ (o : Places). o.spare) c.self.view_is) in
    let short : length inside.cells.items + 1 < 2 ^ 32 = omega (arith, c.requires.short, ap (λ (o : Places). length o.cells) c.self.view_is) in
    let noted : c.note_open.new.opens.items ≡ inside.opens.items ++ open_from (length inside.cells.items) (c.args.cell ∷ []) =
    c.note_open.ensures.items ∙ ap (λ (n : ℕ). inside.opens.items ++ open_from n (c.args.cell ∷ [])) place_is in
    rw (c.push_reserved-2.ensures.items, c.push_reserved-2.ensures.capacity, c.push_reserved.ensures.items, c.push_reserved.ensures.capacity, noted, c.note_open.ensures.capacity, read, at_is, place_is)
    (indexed_push inside.cells.items heads inside.before.items inside.opens.items inside.spare _ _ _ c.self.invariant c.args.cell some short within)
