use Rattle.std.proofs.Common.{ℕ, ◌∙◌, ap}
use Rattle.std.specs.Prelude.{◌/◌, ◌%◌}
use Rattle.view_config.specs.Shape.{Dimensions}
use Rattle.lazy_rules.specs.ShardState.{first_shard}
use Rattle.lazy_rules.specs.WorldState.{first_shard_at}
use Rattle.lazy_core.specs.declared.node_state.NodeState.TheVariants.{Shard}
use Rattle.lazy_core.proofs.Walks.{made_more}
use Rattle.lazy_core.proofs.first_states.add_shards.Goals as goal

pub loop-k-preserved : goal.loop-k-preserved
loop-k-preserved c =
    c.in_ok-push.ensures.items
    ∙ made_more (λ k. Shard (first_shard_at c.args.shape.now k)) c.args.states.now.items c.loop-k.states.items c.loop-k.k (Shard c.in_ok-shard.shard) c.loop-k.invariant
    (ap Shard (c.in_ok-shard.ensures ∙ ap (λ (n : ℕ). first_shard c.args.shape.now (c.loop-k.k / n) (c.loop-k.k % n)) (ap (λ (shape : Dimensions). shape.copies) c.shape.view_is)))
