use Rattle.std.proofs.Common.{List, length, ap, arith}
use Rattle.rec_id.specs.declared.item.Cell.{Cell}
use Rattle.lazy_rules.specs.ShardState.{ShardState}
use Rattle.shard_node.proofs.Stores.{cells_count}
use Rattle.shard_node.proofs.node.ShardNode.placed.Goals as goal

pub recut-store-requires-clause-short : goal.recut-store-requires-clause-short
recut-store-requires-clause-short c =
    omega (arith, ap (λ (l : List Cell). length l) c.in_ok-cells.ensures, cells_count c.self.inside.store c.len-from.result c.args.items.now (omega (arith, c.len-from.ensures.len)), c.len-from.ensures.len, c.requires, ap (λ (s : ShardState). length s.store.order) c.self.view_is)
