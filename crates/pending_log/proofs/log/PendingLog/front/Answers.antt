use Rattle.std.proofs.Common.{◌≡◌, ◌<◌, ◌+◌, ◌∷◌, [], ◌++◌, List, length, take, get_or, sym, ap, ◌∙◌, rules}
use Rattle.std.proofs.lemmas.List.{take_more}
use Rattle.std.proofs.lemmas.Option.{get_or_from_slice_get}
use Rattle.rec_id.specs.declared.item.Item.{Item}
use Rattle.pending_log.specs.Pending.{Pending}
use Rattle.pending_log.proofs.log.PendingLog.front.Goals as goal

pub loop-i-preserved : goal.loop-i-preserved
loop-i-preserved c =
    let items = c.self.inside.ring.items in
    let item = c.in_ok-copy.field-0 in
    let same : items ≡ c.args.self.now.items = ap (λ (log : Pending). log.items) c.self.view_is in
    let inside : c.loop-i.i < length items = search rules in
    let read : get_or items c.loop-i.i item ≡ item = get_or_from_slice_get items c.loop-i.i c.item.result.now item c.item.ensures ∙ sym c.in_ok-copy.ensures in
    let so_far : c.loop-i.front.items ≡ take c.loop-i.i items = c.loop-i.invariant ∙ ap (take c.loop-i.i) (sym same) in
    c.in_ok-push.ensures.items ∙ ap (λ (l : List Item). l ++ item ∷ []) so_far
    ∙ ap (λ (x : Item). take c.loop-i.i items ++ x ∷ []) (sym read) ∙ sym (take_more items c.loop-i.i item inside) ∙ ap (take (c.loop-i.i + 1)) same
