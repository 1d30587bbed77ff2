use Rattle.std.proofs.Common.{subst}
use Rattle.lazy_msgs.specs.Step.{Row, StepsTo}
use Rattle.lazy_msgs.specs.declared.refused.StepRefused.TheVariants.{Over}
use Rattle.lazy_rules.specs.ShardState.{ShardState}
use Rattle.shard_node.proofs.Waiting.{fill_alone}
use Rattle.shard_node.proofs.node.ShardNode.fill.Goals as goal

pub returns-then-waits_beside : goal.returns-then-waits_beside
returns-then-waits_beside c =
    subst (λ (row : Row ShardState). StepsTo row c.args.self.now c.fill_alone.new.self c.args.out.now c.fill_alone.new.out c.fill_alone.result Over)
    (fill_alone c.args.self.now c.args.sender c.args.id c.args.bytes.now c.args.place (c.waits_beside.ensures c.if-waits_beside.true)) c.fill_alone.ensures
