use Rattle.std.proofs.Common.{◌≡◌, ℕ, List, ◌++◌, length, sym, ap, ◌∙◌, arith}
use Rattle.rec_id.specs.declared.item.Cell.{Cell}
use Rattle.lazy_rules.specs.Store.{Store, extend}
use Rattle.shard_store.specs.Settling.{drafts, settled_all, held_beside_all}
use Rattle.shard_store.proofs.Extensions.{Pairs, grown, count_drafts, extend_is}
use Rattle.shard_store.proofs.store.ShardStore.extend.Goals as goal

pub settle_all-requires : goal.settle_all-requires
settle_all-requires c =
    omega (arith, count_drafts _ _ _ _ _ _ c.in_ok-drafts.ensures, c.in_ok-reserve.ensures.room, ap (λ (l : List Cell). length l) c.in_ok-reserve.ensures.cells, c.requires, ap (λ (s : Store). length s.order) c.self.view_is)

pub returns-clause-ok : goal.returns-clause-ok
returns-clause-ok c =
    let store : Store = record { mode = c.self.inside.mode; shard = c.self.inside.shard; shards = c.self.inside.shards; order = c.self.inside.order.cells; held = c.self.inside.held.records; stable = c.self.inside.stable; floor = c.self.inside.floor } in
    let all = drafts store.mode store.shard store.shards (length store.order) c.args.items.now in
    let made : c.in_ok-drafts.drafts.items ≡ all = c.in_ok-drafts.ensures ∙ ap (λ (n : ℕ). drafts store.mode store.shard store.shards n c.args.items.now) c.len-from.ensures.len in
    let cells : c.settle_all.new.order.cells ≡ store.order ++ settled_all store.held all =
    c.settle_all.ensures.cells ∙ ap (λ (l : List Cell). l ++ settled_all store.held c.in_ok-drafts.drafts.items) c.in_ok-reserve.ensures.cells
    ∙ ap (λ (l : List Cell). store.order ++ settled_all store.held l) made in
    let held : c.settle_all.new.held.records ≡ held_beside_all store.held (settled_all store.held all) =
    c.settle_all.ensures.held ∙ ap (λ (l : List Cell). held_beside_all store.held (settled_all store.held l)) made in
    ap (λ (l : List Cell). grown store l c.settle_all.new.held.records) cells
    ∙ ap (λ (h : Pairs). grown store (store.order ++ settled_all store.held all) h) held
    ∙ sym (extend_is store c.args.items.now)
    ∙ ap (λ (s : Store). extend s c.args.items.now) c.self.view_is
