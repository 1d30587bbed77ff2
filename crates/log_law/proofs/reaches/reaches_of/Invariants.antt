use Rattle.std.proofs.Common.{◌≡◌, map, take}
use Rattle.log_law.specs.Reaches.{reach_of}
use Rattle.log_law.proofs.reaches.reaches_of.Given as goal

abbrev pub invariant-loop-event : goal.invariant-loop-event
invariant-loop-event l = l.made.items ≡ map (reach_of l.reach) (take l.event-index l.history)
