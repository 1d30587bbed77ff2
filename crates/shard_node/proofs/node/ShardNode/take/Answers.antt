use Rattle.std.proofs.Common.{subst, sym, ap, ◌∙◌}
use Rattle.lazy_msgs.specs.Step.{Row, StepsTo}
use Rattle.lazy_msgs.specs.declared.msg.Msg.{Msg}
use Rattle.lazy_msgs.specs.declared.refused.StepRefused.TheVariants.{Over}
use Rattle.lazy_rules.specs.Rows.{stays}
use Rattle.lazy_rules.specs.ShardRules.{shard_took}
use Rattle.lazy_rules.specs.ShardState.{ShardState}
use Rattle.shard_node.proofs.Doors.{either_way}
use Rattle.shard_node.proofs.node.ShardNode.take.Goals as goal

pub returns-in-Sealed : goal.returns-in-Sealed
returns-in-Sealed c =
    subst (λ (row : Row ShardState). StepsTo row c.args.self.now c.args.self.now c.args.out.now c.stays.new._out c.stays.result Over)
    (either_way _ (stays c.args.self.now) ∙ ap (λ (msg : Msg). shard_took c.args.self.now c.args.sender msg) (sym c.in-Sealed.is)) c.stays.ensures

pub returns-in-NewView : goal.returns-in-NewView
returns-in-NewView c =
    subst (λ (row : Row ShardState). StepsTo row c.args.self.now c.args.self.now c.args.out.now c.stays-in-NewView.new._out c.stays-in-NewView.result Over)
    (either_way _ (stays c.args.self.now) ∙ ap (λ (msg : Msg). shard_took c.args.self.now c.args.sender msg) (sym c.in-NewView.is)) c.stays-in-NewView.ensures

pub returns-in-ViewIs : goal.returns-in-ViewIs
returns-in-ViewIs c =
    subst (λ (row : Row ShardState). StepsTo row c.args.self.now c.args.self.now c.args.out.now c.stays-in-ViewIs.new._out c.stays-in-ViewIs.result Over)
    (either_way _ (stays c.args.self.now) ∙ ap (λ (msg : Msg). shard_took c.args.self.now c.args.sender msg) (sym c.in-ViewIs.is)) c.stays-in-ViewIs.ensures
