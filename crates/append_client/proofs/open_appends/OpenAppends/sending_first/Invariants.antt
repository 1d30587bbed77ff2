use Rattle.std.proofs.Common.{◌≡◌, ◌++◌, drop, take}
use Rattle.std.specs.List.{flat_map}
use Rattle.lazy_rules.specs.ClientRules.{sending}
use Rattle.append_client.specs.Appends.{taken}
use Rattle.append_client.specs.Sender.{sender}
use Rattle.append_client.proofs.open_appends.OpenAppends.sending_first.Given as goal

-- what is sent so far, and what is sent for the appends that are left
abbrev pub invariant-loop-i : goal.invariant-loop-i
invariant-loop-i l =
    l.sends ++ flat_map (sending (sender l.shape l.config l.fn.client)) (take l.left (taken (drop l.i l.self-inside.slots.items)))
    ≡ flat_map (sending (sender l.shape l.config l.fn.client)) (take l.fn.limit (taken l.self-inside.slots.items))
