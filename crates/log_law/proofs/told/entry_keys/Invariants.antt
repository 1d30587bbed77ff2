use Rattle.std.proofs.Common.{◌≡◌, map, take}
use Rattle.log_law.specs.Told.{entry_key}
use Rattle.log_law.proofs.told.entry_keys.Given as goal

abbrev pub invariant-loop-entry : goal.invariant-loop-entry
invariant-loop-entry l = l.keys.items ≡ map (entry_key l.names) (take l.entry-index l.line)
