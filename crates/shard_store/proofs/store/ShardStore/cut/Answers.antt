use Rattle.std.proofs.Common.{◌≡◌, List, take, drop, sym, ap, ◌∙◌}
use Rattle.rec_id.specs.declared.item.Cell.{Cell}
use Rattle.lazy_rules.specs.Store.{Store, cut}
use Rattle.shard_store.specs.Settling.{given_back}
use Rattle.shard_store.proofs.Extensions.{Pairs, grown, cut_is}
use Rattle.shard_store.proofs.store.ShardStore.cut.Goals as goal

pub returns-clause-ok : goal.returns-clause-ok
returns-clause-ok c =
    let store : Store = record { mode = c.self.inside.mode; shard = c.self.inside.shard; shards = c.self.inside.shards; order = c.self.inside.order.cells; held = c.self.inside.held.records; stable = c.self.inside.stable; floor = c.self.inside.floor } in
    let from = c.args.from in
    let held : c.cut_off.new.held.records ≡ given_back store.mode (take from store.order) store.held (drop from store.order) =
    c.cut_off.ensures.records ∙ ap (λ (h : Pairs). given_back store.mode (take from store.order) h (drop from store.order)) c.in_ok-tail.ensures.records in
    ap (λ (l : List Cell). grown store l c.cut_off.new.held.records) c.cut_off.ensures.cells
    ∙ ap (λ (h : Pairs). grown store (take from store.order) h) held
    ∙ sym (cut_is store from)
    ∙ ap (λ (s : Store). cut s from) c.self.view_is
