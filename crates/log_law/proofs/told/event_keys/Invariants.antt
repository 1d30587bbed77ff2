use Rattle.std.proofs.Common.{◌≡◌, map, take}
use Rattle.log_law.specs.Told.{event_key}
use Rattle.log_law.proofs.told.event_keys.Given as goal

abbrev pub invariant-loop-event : goal.invariant-loop-event
invariant-loop-event l = l.keys.items ≡ map (event_key l.told) (take l.event-index l.history)
