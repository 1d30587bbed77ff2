use Rattle.std.proofs.Common.{◌≡◌, ◌<◌, ◌∷◌, [], ◌++◌, List, length, take, get_or, sym, ap, ◌∙◌, arith}
use Rattle.std.proofs.lemmas.List.{take_more}
use Rattle.std.proofs.lemmas.Option.{get_or_from_slice_get}
use Rattle.rec_id.specs.declared.item.Cell.{Cell}
use Rattle.shard_store.proofs.settling.copy_all.Goals as goal

pub loop-i-preserved : goal.loop-i-preserved
loop-i-preserved c =
    let cells = c.args.cells.now in
    let i = c.loop-i.i in
    let cell = c.in_ok-copy.field-0 in
    let inside : i < length cells = omega arith in
    let read : get_or cells i cell ≡ cell = get_or_from_slice_get cells i c.at.result.now cell c.at.ensures ∙ sym c.in_ok-copy.ensures in
    c.in_ok-push.ensures.items ∙ ap (λ (l : List Cell). l ++ cell ∷ []) c.loop-i.invariant
    ∙ ap (λ (x : Cell). take i cells ++ x ∷ []) (sym read) ∙ sym (take_more cells i cell inside)
