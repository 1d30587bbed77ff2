use Rattle.std.proofs.Common.{◌≡◌, map, take}
use Rattle.std.specs.Option.{option_map}
use Rattle.lazy_rules.specs.ClientRules.{unacknowledged}
use Rattle.append_client.proofs.open_appends.OpenAppends.unacknowledged.Given as goal

abbrev pub invariant-loop-i : goal.invariant-loop-i
invariant-loop-i l = l.slots.items ≡ map (option_map unacknowledged) (take l.i l.self-inside.slots.items)
