use Rattle.shard_node.proofs.Stores.{none_left}
use Rattle.shard_node.proofs.ahead.Ahead.closed.Goals as goal

pub invariant_of-result : goal.invariant_of-result
invariant_of-result c = record { possible = tt; open_is = none_left c.args.store.now }
