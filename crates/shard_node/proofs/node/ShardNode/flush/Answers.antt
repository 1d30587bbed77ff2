use Rattle.std.proofs.Common.{subst, sym, ◌∙◌}
use Rattle.lazy_msgs.specs.Step.{Row, StepsTo}
use Rattle.lazy_msgs.specs.declared.refused.StepRefused.TheVariants.{Over}
use Rattle.lazy_rules.specs.ShardState.{ShardState}
use Rattle.shard_node.proofs.Doors.{took_flush, shut_flush_items, shut_flush_config, shut_sender_flush}
use Rattle.shard_node.proofs.node.ShardNode.flush.Goals as goal

pub returns-then-not-knows : goal.returns-then-not-knows
returns-then-not-knows c =
    subst (λ (row : Row ShardState). StepsTo row c.args.self.now c.args.self.now c.args.out.now c.stays.new._out c.stays.result Over)
    (sym (shut_sender_flush c.args.self.now c.args.sender c.args.config.now c.args.from c.args.items.now (sym c.knows.ensures ∙ c.if-not-knows.true))) c.stays.ensures

pub returns-then-not-knows_items : goal.returns-then-not-knows_items
returns-then-not-knows_items c =
    subst (λ (row : Row ShardState). StepsTo row c.args.self.now c.args.self.now c.args.out.now c.stays-then-not-knows_items.new._out c.stays-then-not-knows_items.result Over)
    (sym (shut_flush_items c.args.self.now c.args.sender c.args.config.now c.args.from c.args.items.now (sym c.knows.ensures ∙ c.if-not-knows.false) (sym c.knows_items.ensures ∙ c.if-not-knows_items.true))) c.stays-then-not-knows_items.ensures

pub returns-then-not-knows_config : goal.returns-then-not-knows_config
returns-then-not-knows_config c =
    subst (λ (row : Row ShardState). StepsTo row c.args.self.now c.args.self.now c.args.out.now c.stays-then-not-knows_config.new._out c.stays-then-not-knows_config.result Over)
    (sym (shut_flush_config c.args.self.now c.args.sender c.args.config.now c.args.from c.args.items.now (sym c.knows.ensures ∙ c.if-not-knows.false) (sym c.knows_items.ensures ∙ c.if-not-knows_items.false) (sym c.knows_config.ensures ∙ c.if-not-knows_config.true))) c.stays-then-not-knows_config.ensures

pub returns : goal.returns
returns c =
    subst (λ (row : Row ShardState). StepsTo row c.args.self.now c.on_flush.new.self c.args.out.now c.on_flush.new.out c.on_flush.result Over)
    (sym (took_flush c.args.self.now c.args.sender c.args.config.now c.args.from c.args.items.now (sym c.knows.ensures ∙ c.if-not-knows.false) (sym c.knows_items.ensures ∙ c.if-not-knows_items.false) (sym c.knows_config.ensures ∙ c.if-not-knows_config.false))) c.on_flush.ensures
