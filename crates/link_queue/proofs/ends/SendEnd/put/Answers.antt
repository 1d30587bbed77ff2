use Rattle.std.proofs.Common.{◌<◌, ◌^◌, length, subst, sym}
use Rattle.link_queue.specs.Ends.{SendSide}
use Rattle.link_queue.proofs.Steps.{puts_one, sees_full}
use Rattle.link_queue.proofs.ends.SendEnd.put.Goals as goal

pub push_as-requires-clause-rule : goal.push_as-requires-clause-rule
push_as-requires-clause-rule g c = (
  puts_one _ _ _ _ c.self.invariant.1 (subst (λ (side : SendSide). length side.sent < 2 ^ 62) (sym c.self.view_is) c.requires),
  sees_full _ _ c.self.invariant.1,
)
