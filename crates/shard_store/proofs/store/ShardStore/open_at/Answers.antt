use Rattle.std.proofs.Common.{ap, ◌∙◌}
use Rattle.lazy_rules.specs.Store.{Store, open_at}
use Rattle.shard_store.proofs.Searches.{first_is_open}
use Rattle.shard_store.proofs.store.ShardStore.open_at.Goals as goal

pub returns-clause-open_ : goal.returns-clause-open_
returns-clause-open_ c =
    first_is_open c.args.self.now.order c.args.id c.first.result
    (c.first.ensures ∙ ap (λ (store : Store). open_at store c.args.id) c.self.view_is)
