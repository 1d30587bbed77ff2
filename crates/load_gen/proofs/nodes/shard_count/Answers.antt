use Rattle.std.proofs.Common.{◌*◌, ◌∙◌, sym, ap}
use Rattle.view_config.specs.Shape.{Dimensions}
use Rattle.load_gen.proofs.NodeLists.{length-shard_replicas}
use Rattle.load_gen.proofs.nodes.shard_count.Goals as goal

pub returns-clause-count : goal.returns-clause-count
returns-clause-count c = ap (λ (s : Dimensions). s.shards * s.copies) c.shape.view_is ∙ sym (length-shard_replicas c.args.shape.now)
