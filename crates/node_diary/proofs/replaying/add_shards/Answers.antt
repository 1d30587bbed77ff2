use Rattle.std.proofs.Common.{ℕ, ◌∙◌, ap}
use Rattle.std.specs.Prelude.{◌/◌, ◌%◌}
use Rattle.view_config.specs.Nodes.{shard_id}
use Rattle.view_config.specs.Shape.{Dimensions}
use Rattle.lazy_core.proofs.Walks.{made_more}
use Rattle.node_diary.specs.Folding.{shard_number}
use Rattle.node_diary.proofs.replaying.add_shards.Goals as goal

pub loop-k-preserved : goal.loop-k-preserved
loop-k-preserved c =
    c.in_ok-push.ensures.items
    ∙ made_more (shard_number c.args.shape.now) c.args.nodes.now.items c.loop-k.nodes.items c.loop-k.k c.shard_id.result c.loop-k.invariant
    (c.shard_id.ensures ∙ ap (λ (n : ℕ). shard_id (c.loop-k.k / n) (c.loop-k.k % n)) (ap (λ (shape : Dimensions). shape.copies) c.shape.view_is))
