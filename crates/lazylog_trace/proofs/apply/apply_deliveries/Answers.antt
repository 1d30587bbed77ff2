use Rattle.std.proofs.Common.{◌∷◌, [], ◌+◌, subst, arith}
use Rattle.lazy_msgs.specs.declared.input.WorldEvent.TheVariants.{Deliver}
use Rattle.lazylog_trace.specs.declared.apply.Outcome.{Outcome}
use Rattle.lazylog_trace.specs.Apply.{Applies}
use Rattle.lazylog_trace.proofs.AppliedEvents.{loop_on, loop_stop}
use Rattle.lazylog_trace.proofs.Events.{advanced_more}
use Rattle.lazylog_trace.proofs.apply.apply_deliveries.Goals as goal

pub returns-in-Ok-Spent-clause-applied : goal.returns-in-Ok-Spent-clause-applied
returns-in-Ok-Spent-clause-applied c =
    loop_stop c.args.first c.args.count c.loop-i.i (omega arith) c.args.world.now c.loop-i.world c.apply_delivery.new.world c.loop-i.invariant.on
    (subst (λ (o : Outcome). Applies (Deliver (c.args.first + c.loop-i.i) ∷ []) c.loop-i.world c.apply_delivery.new.world o) c.in-Ok-Spent.field-0-is c.in-Ok-Spent.ensures.applied)

pub loop-i-preserved : goal.loop-i-preserved
loop-i-preserved c =
    let so_far = c.loop-i.invariant in
    record {
      on =
          loop_on c.args.first c.args.count c.loop-i.i (omega arith) c.args.world.now c.loop-i.world c.apply_delivery.new.world so_far.on
          (subst (λ (o : Outcome). Applies (Deliver (c.args.first + c.loop-i.i) ∷ []) c.loop-i.world c.apply_delivery.new.world o) c.in-Ok-Through.field-0-is c.in-Ok-Through.ensures.applied);
      advances = advanced_more c.loop-i.i 1 (c.loop-i.i + 1) (omega arith) c.args.world.now c.loop-i.world c.apply_delivery.new.world so_far.advances c.in-Ok-Through.ensures.advances;
    }
