use Rattle.std.proofs.Common.{◌≡◌, ◌≤◌, List, length, take, drop, subst, sym, ap, ◌∙◌, arith}
use Rattle.std.specs.Result.{IfOk}
use Rattle.std.proofs.lemmas.List.{length-take-le, drop_at}
use Rattle.rec_id.specs.declared.item.Cell.{Cell}
use Rattle.lazy_rules.specs.Store.{Store}
use Rattle.shard_store.specs.Settling.{drafts, settled_all, given_back, cells_of}
use Rattle.shard_store.proofs.Extensions.{count_drafts, recut_is}
use Rattle.shard_store.proofs.store.ShardStore.cells_of.Goals as goal

pub foresee_all-requires : goal.foresee_all-requires
foresee_all-requires c = omega (arith, count_drafts _ _ _ _ _ _ c.in_ok-drafts.ensures, c.requires.short)

pub returns : goal.returns
returns c =
    let store : Store = record { mode = c.self.inside.mode; shard = c.self.inside.shard; shards = c.self.inside.shards; order = c.self.inside.order.cells; held = c.self.inside.held.records; stable = c.self.inside.stable; floor = c.self.inside.floor } in
    let from = c.args.from in
    let items = c.args.items.now in
    let front = take from store.order in
    let back = given_back store.mode front store.held (drop from store.order) in
    let all = drafts store.mode store.shard store.shards from items in
    let inside : from ≤ length store.order = omega (arith, c.requires.cut, ap (λ (s : Store). length s.order) c.self.view_is) in
    let order : cells_of store from items ≡ settled_all back all =
    ap (λ (s : Store). drop from s.order) (recut_is store from items inside) ∙ drop_at front (settled_all back all) from (length-take-le from store.order inside) in
    let is : settled_all back c.in_ok-drafts.drafts.items ≡ cells_of c.args.self.now from items =
    ap (λ (l : List Cell). settled_all back l) c.in_ok-drafts.ensures ∙ sym order ∙ ap (λ (s : Store). cells_of s from items) c.self.view_is in
    subst (λ (l : List Cell). IfOk c.foresee_all.result (λ made. made ≡ l)) is c.foresee_all.ensures
