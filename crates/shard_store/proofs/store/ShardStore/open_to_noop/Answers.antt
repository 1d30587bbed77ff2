use Rattle.std.proofs.Common.{◌≡◌, List, map, subst, sym, ap}
use Rattle.rec_id.specs.declared.item.Cell.{Cell}
use Rattle.lazy_rules.specs.Store.{Store, closed_cell}
use Rattle.shard_store.specs.Places.{Places}
use Rattle.shard_store.specs.Sound.{IsSound}
use Rattle.shard_store.proofs.StoreFacts.{sound_closed}
use Rattle.shard_store.proofs.store.ShardStore.open_to_noop.Goals as goal

pub invariant_of-self : goal.invariant_of-self
invariant_of-self c =
    let store : Store = record { mode = c.self.inside.mode; shard = c.self.inside.shard; shards = c.self.inside.shards; order = c.self.inside.order.cells; held = c.self.inside.held.records; stable = c.self.inside.stable; floor = c.self.inside.floor } in
    let cells : c.close_all.new.self.cells ≡ map closed_cell store.order = ap (λ (o : Places). o.cells) c.close_all.ensures.cells in
    subst (λ (l : List Cell). IsSound (record store { order = l })) (sym cells) (sound_closed store c.self.invariant)
