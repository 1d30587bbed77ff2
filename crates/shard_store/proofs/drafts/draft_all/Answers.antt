use Rattle.std.proofs.Common.{◌≡◌, ◌<◌, ◌∷◌, [], ◌++◌, List, length, take, get_or, sym, ap, ◌∙◌, arith}
use Rattle.std.proofs.lemmas.Option.{get_or_from_slice_get}
use Rattle.rec_id.specs.declared.item.Cell.{Cell}
use Rattle.shard_store.specs.Settling.{drafts}
use Rattle.shard_store.proofs.Extensions.{drafts_more}
use Rattle.shard_store.proofs.drafts.draft_all.Goals as goal

pub loop-i-preserved : goal.loop-i-preserved
loop-i-preserved c =
    let items = c.args.items.now in
    let i = c.loop-i.i in
    let so_far = drafts c.args.mode c.args.shard c.args.shards c.args.from (take i items) in
    let inside : i < length items = omega arith in
    let read : get_or items i c.at.result.now ≡ c.at.result.now = get_or_from_slice_get items i c.at.result.now c.at.result.now c.at.ensures in
    c.in_ok-push.ensures.items ∙ ap (λ (l : List Cell). l ++ c.in_ok-draft.field-0 ∷ []) c.loop-i.invariant
    ∙ ap (λ (x : Cell). so_far ++ x ∷ []) c.in_ok-draft.ensures
    ∙ sym (drafts_more c.args.mode c.args.shard c.args.shards c.args.from items i c.at.result.now inside read)
