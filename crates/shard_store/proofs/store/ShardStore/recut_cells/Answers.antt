use Rattle.std.proofs.Common.{◌≡◌, List, ◌++◌, take, drop, sym, ap, ◌∙◌}
use Rattle.rec_id.specs.declared.item.Cell.{Cell}
use Rattle.lazy_rules.specs.Store.{Store, recut_cells}
use Rattle.shard_store.specs.Settling.{held_beside_all, given_back}
use Rattle.shard_store.proofs.Extensions.{Pairs, grown, recut_cells_is}
use Rattle.shard_store.proofs.store.ShardStore.recut_cells.Goals as goal

pub returns-clause-ok : goal.returns-clause-ok
returns-clause-ok c =
    let store : Store = record { mode = c.self.inside.mode; shard = c.self.inside.shard; shards = c.self.inside.shards; order = c.self.inside.order.cells; held = c.self.inside.held.records; stable = c.self.inside.stable; floor = c.self.inside.floor } in
    let from = c.args.from in
    let given = c.args.cells.now in
    let front = take from store.order in
    let back = given_back store.mode front store.held (drop from store.order) in
    let made : c.in_ok-copies.copies.items ≡ given = c.in_ok-copies.ensures in
    let held_cut : c.cut_off.new.held.records ≡ back =
    c.cut_off.ensures.records
    ∙ ap (λ (l : List Cell). given_back store.mode (take from l) c.make_room.new.held.records (drop from l)) c.in_ok-reserve.ensures.cells
    ∙ ap (λ (h : Pairs). given_back store.mode front h (drop from store.order)) c.in_ok-tail.ensures.records in
    let cut_cells : c.cut_off.new.order.cells ≡ front = c.cut_off.ensures.cells ∙ ap (λ (l : List Cell). take from l) c.in_ok-reserve.ensures.cells in
    let cells : c.append_all.new.order.cells ≡ front ++ given =
    c.append_all.ensures.cells
    ∙ ap (λ (l : List Cell). l ++ c.in_ok-copies.copies.items) cut_cells
    ∙ ap (λ (l : List Cell). front ++ l) made in
    let held : c.append_all.new.held.records ≡ held_beside_all back given =
    c.append_all.ensures.held
    ∙ ap (λ (h : Pairs). held_beside_all h c.in_ok-copies.copies.items) held_cut
    ∙ ap (λ (l : List Cell). held_beside_all back l) made in
    ap (λ (l : List Cell). grown store l c.append_all.new.held.records) cells
    ∙ ap (λ (h : Pairs). grown store (front ++ given) h) held
    ∙ sym (recut_cells_is store from given)
    ∙ ap (λ (s : Store). recut_cells s from given) c.self.view_is
