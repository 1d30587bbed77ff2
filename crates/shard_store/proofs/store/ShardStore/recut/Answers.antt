use Rattle.std.proofs.Common.{◌≡◌, List, ◌++◌, length, take, drop, subst, sym, ap, ◌∙◌, arith}
use Rattle.std.proofs.lemmas.List.{length-take-le}
use Rattle.rec_id.specs.declared.item.Cell.{Cell}
use Rattle.lazy_rules.specs.Store.{Store, recut}
use Rattle.shard_store.specs.Settling.{drafts, settled_all, held_beside_all, given_back}
use Rattle.shard_store.specs.Sound.{IsSound}
use Rattle.shard_store.proofs.Extensions.{Pairs, grown, count_drafts, recut_is}
use Rattle.shard_store.proofs.StoreFacts.{sound_recut}
use Rattle.shard_store.proofs.store.ShardStore.recut.Goals as goal

pub settle_all-requires-clause-room : goal.settle_all-requires-clause-room
settle_all-requires-clause-room c =
    omega (arith, count_drafts _ _ _ _ _ _ c.in_ok-drafts.ensures, c.in_ok-reserve.ensures.room, c.cut_off.ensures.spare)

pub settle_all-requires-clause-short : goal.settle_all-requires-clause-short
settle_all-requires-clause-short c =
    let cut_cells : c.cut_off.new.order.cells ≡ take c.args.from c.self.inside.order.cells =
    c.cut_off.ensures.cells ∙ ap (λ (l : List Cell). take c.args.from l) c.in_ok-reserve.ensures.cells in
    omega (arith, count_drafts _ _ _ _ _ _ c.in_ok-drafts.ensures, ap (λ (l : List Cell). length l) cut_cells, length-take-le c.args.from c.self.inside.order.cells (omega (arith, c.requires.cut, ap (λ (s : Store). length s.order) c.self.view_is)), c.requires.short)

pub invariant_of-self-2 : goal.invariant_of-self-2
invariant_of-self-2 c =
    let cut_cells : c.cut_off.new.order.cells ≡ take c.args.from c.self.inside.order.cells =
    c.cut_off.ensures.cells ∙ ap (λ (l : List Cell). take c.args.from l) c.in_ok-reserve.ensures.cells in
    let store : Store = record { mode = c.self.inside.mode; shard = c.self.inside.shard; shards = c.self.inside.shards; order = c.self.inside.order.cells; held = c.self.inside.held.records; stable = c.self.inside.stable; floor = c.self.inside.floor } in
    let rest = settled_all c.cut_off.new.held.records c.in_ok-drafts.drafts.items in
    let cells : c.settle_all.new.order.cells ≡ take c.args.from store.order ++ rest =
    c.settle_all.ensures.cells ∙ ap (λ (l : List Cell). l ++ rest) cut_cells in
    subst (λ (l : List Cell). IsSound (grown store l c.settle_all.new.held.records)) (sym cells)
    (sound_recut store c.args.from rest c.settle_all.new.held.records c.self.invariant
    (omega (arith, c.requires.cut, ap (λ (s : Store). s.stable) c.self.view_is)) (omega (arith, c.requires.cut, ap (λ (s : Store). length s.order) c.self.view_is)))

pub returns-clause-ok : goal.returns-clause-ok
returns-clause-ok c =
    let cut_cells : c.cut_off.new.order.cells ≡ take c.args.from c.self.inside.order.cells =
    c.cut_off.ensures.cells ∙ ap (λ (l : List Cell). take c.args.from l) c.in_ok-reserve.ensures.cells in
    let store : Store = record { mode = c.self.inside.mode; shard = c.self.inside.shard; shards = c.self.inside.shards; order = c.self.inside.order.cells; held = c.self.inside.held.records; stable = c.self.inside.stable; floor = c.self.inside.floor } in
    let from = c.args.from in
    let items = c.args.items.now in
    let front = take from store.order in
    let back = given_back store.mode front store.held (drop from store.order) in
    let all = drafts store.mode store.shard store.shards from items in
    let made : c.in_ok-drafts.drafts.items ≡ all = c.in_ok-drafts.ensures in
    let held_cut : c.cut_off.new.held.records ≡ back =
    c.cut_off.ensures.records
    ∙ ap (λ (l : List Cell). given_back store.mode (take from l) c.make_room.new.held.records (drop from l)) c.in_ok-reserve.ensures.cells
    ∙ ap (λ (h : Pairs). given_back store.mode front h (drop from store.order)) c.in_ok-tail.ensures.records in
    let cells : c.settle_all.new.order.cells ≡ front ++ settled_all back all =
    c.settle_all.ensures.cells
    ∙ ap (λ (l : List Cell). l ++ settled_all c.cut_off.new.held.records c.in_ok-drafts.drafts.items) cut_cells
    ∙ ap (λ (h : Pairs). front ++ settled_all h c.in_ok-drafts.drafts.items) held_cut
    ∙ ap (λ (l : List Cell). front ++ settled_all back l) made in
    let held : c.settle_all.new.held.records ≡ held_beside_all back (settled_all back all) =
    c.settle_all.ensures.held
    ∙ ap (λ (h : Pairs). held_beside_all h (settled_all h c.in_ok-drafts.drafts.items)) held_cut
    ∙ ap (λ (l : List Cell). held_beside_all back (settled_all back l)) made in
    ap (λ (l : List Cell). grown store l c.settle_all.new.held.records) cells
    ∙ ap (λ (h : Pairs). grown store (front ++ settled_all back all) h) held
    ∙ sym (recut_is store from items (omega (arith, c.requires.cut, ap (λ (s : Store). length s.order) c.self.view_is)))
    ∙ ap (λ (s : Store). recut s from items) c.self.view_is
