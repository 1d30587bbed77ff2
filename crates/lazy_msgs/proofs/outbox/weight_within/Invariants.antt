use Rattle.std.proofs.Common.{◌≡◌, ◌≤◌, take}
use Rattle.lazy_msgs.specs.Weight.{sends_weight}
use Rattle.lazy_msgs.proofs.outbox.weight_within.Given as goal

abbrev pub invariant-loop-send : goal.invariant-loop-send
invariant-loop-send l = (l.sum ≡ sends_weight (take l.send-index l.sends)) × (l.sum ≤ l.left)
