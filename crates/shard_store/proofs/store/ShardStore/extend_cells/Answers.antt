use Rattle.std.proofs.Common.{◌≡◌, List, ◌++◌, sym, ap, ◌∙◌}
use Rattle.rec_id.specs.declared.item.Cell.{Cell}
use Rattle.lazy_rules.specs.Store.{Store, extend_cells}
use Rattle.shard_store.specs.Settling.{held_beside_all}
use Rattle.shard_store.proofs.Extensions.{Pairs, grown, extend_cells_is}
use Rattle.shard_store.proofs.store.ShardStore.extend_cells.Goals as goal

pub returns-clause-ok : goal.returns-clause-ok
returns-clause-ok c =
    let store : Store = record { mode = c.self.inside.mode; shard = c.self.inside.shard; shards = c.self.inside.shards; order = c.self.inside.order.cells; held = c.self.inside.held.records; stable = c.self.inside.stable; floor = c.self.inside.floor } in
    let made : c.in_ok-copies.copies.items ≡ c.args.cells.now = c.in_ok-copies.ensures in
    let cells : c.append_all.new.order.cells ≡ store.order ++ c.args.cells.now =
    c.append_all.ensures.cells ∙ ap (λ (l : List Cell). l ++ c.in_ok-copies.copies.items) c.in_ok-reserve.ensures.cells
    ∙ ap (λ (l : List Cell). store.order ++ l) made in
    let held : c.append_all.new.held.records ≡ held_beside_all store.held c.args.cells.now =
    c.append_all.ensures.held ∙ ap (λ (l : List Cell). held_beside_all store.held l) made in
    ap (λ (l : List Cell). grown store l c.append_all.new.held.records) cells
    ∙ ap (λ (h : Pairs). grown store (store.order ++ c.args.cells.now) h) held
    ∙ sym (extend_cells_is store c.args.cells.now)
    ∙ ap (λ (s : Store). extend_cells s c.args.cells.now) c.self.view_is
