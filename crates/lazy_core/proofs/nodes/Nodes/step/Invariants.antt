use Rattle.std.proofs.Common.{◌≡◌, ◌-◌, ◌≤◌}
use Rattle.lazy_core.proofs.nodes.Nodes.step.Given as goal

abbrev pub invariant-loop-room : goal.invariant-loop-room
invariant-loop-room l = (l.self ≡ l.fn.self) × (1 ≤ l.room)

abbrev pub decreases-loop-room : goal.decreases-loop-room
decreases-loop-room l = l.left - l.room
