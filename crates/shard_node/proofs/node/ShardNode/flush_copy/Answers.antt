use Rattle.std.proofs.Common.{subst, sym, ◌∙◌}
use Rattle.lazy_msgs.specs.Step.{Row, StepsTo}
use Rattle.lazy_msgs.specs.declared.refused.StepRefused.TheVariants.{Over}
use Rattle.lazy_rules.specs.ShardState.{ShardState}
use Rattle.shard_node.proofs.Doors.{took_flush_copy, shut_flush_copy, shut_sender_copy}
use Rattle.shard_node.proofs.node.ShardNode.flush_copy.Goals as goal

pub returns-then-not-knows : goal.returns-then-not-knows
returns-then-not-knows c =
    subst (λ (row : Row ShardState). StepsTo row c.args.self.now c.args.self.now c.args.out.now c.stays.new._out c.stays.result Over)
    (sym (shut_sender_copy c.args.self.now c.args.sender c.args.view c.args.from c.args.cells.now (sym c.knows.ensures ∙ c.if-not-knows.true))) c.stays.ensures

pub returns-then-not-knows_cells : goal.returns-then-not-knows_cells
returns-then-not-knows_cells c =
    subst (λ (row : Row ShardState). StepsTo row c.args.self.now c.args.self.now c.args.out.now c.stays-then-not-knows_cells.new._out c.stays-then-not-knows_cells.result Over)
    (sym (shut_flush_copy c.args.self.now c.args.sender c.args.view c.args.from c.args.cells.now (sym c.knows.ensures ∙ c.if-not-knows.false) (sym c.knows_cells.ensures ∙ c.if-not-knows_cells.true))) c.stays-then-not-knows_cells.ensures

pub returns : goal.returns
returns c =
    subst (λ (row : Row ShardState). StepsTo row c.args.self.now c.on_flush_copy.new.self c.args.out.now c.on_flush_copy.new.out c.on_flush_copy.result Over)
    (sym (took_flush_copy c.args.self.now c.args.sender c.args.view c.args.from c.args.cells.now (sym c.knows.ensures ∙ c.if-not-knows.false) (sym c.knows_cells.ensures ∙ c.if-not-knows_cells.false))) c.on_flush_copy.ensures
