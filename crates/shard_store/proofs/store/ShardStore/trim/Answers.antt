use Rattle.std.proofs.Common.{subst, ap, ◌∙◌, arith}
use Rattle.lazy_rules.specs.Store.{Store, trim}
use Rattle.shard_store.specs.Sound.{IsSound}
use Rattle.shard_store.proofs.StoreFacts.{trim_is, trim_none}
use Rattle.shard_store.proofs.store.ShardStore.trim.Goals as goal

pub returns-then-to-self : goal.returns-then-to-self
returns-then-to-self c =
    let sound : IsSound c.args.self.now = subst IsSound c.self.view_is c.self.invariant in
    trim_none c.args.self.now c.args.to sound (omega (arith, c.if-to-self.true, ap (λ (s : Store). s.floor) c.self.view_is))

pub returns : goal.returns
returns c =
    let store : Store = record { mode = c.self.inside.mode; shard = c.self.inside.shard; shards = c.self.inside.shards; order = c.self.inside.order.cells; held = c.self.inside.held.records; stable = c.self.inside.stable; floor = c.self.inside.floor } in
    trim_is store c.args.to c.give_up.new.self.cells c.self.invariant (omega (arith, c.if-to-self.false)) (omega (arith, c.requires, ap (λ (s : Store). s.stable) c.self.view_is)) c.give_up.ensures.cells
    ∙ ap (λ (s : Store). trim s c.args.to) c.self.view_is
