use Rattle.std.proofs.Common.{◌≡◌, ◌∙◌, ◌≤◌, map, length, sym, ap, subst, arith}
use Rattle.std.proofs.lemmas.List.{take_all}
use Rattle.lazy_rules.specs.ClientRules.{unacknowledged}
use Rattle.append_client.specs.Appends.{Appends, AreSlots, taken}
use Rattle.append_client.proofs.SlotChanges.{cleared, slots_cleared, taken_cleared}
use Rattle.append_client.proofs.open_appends.OpenAppends.unacknowledged.Goals as goal

made_is : (c : goal.After-loop-i) → c.loop-i.slots.items ≡ cleared c.self.inside.slots.items
made_is c =
    let whole : length c.self.inside.slots.items ≤ c.loop-i.i = omega (arith, c.loop-i-test.false, c.len-i-end.ensures, c.self.inside.slots.ok) in
    c.loop-i.invariant ∙ ap cleared (take_all c.loop-i.i c.self.inside.slots.items whole)

pub invariant_of-result : goal.invariant_of-result
invariant_of-result c =
    subst (AreSlots c.self.inside.first) (sym (made_is c)) (slots_cleared c.self.inside.first c.self.inside.slots.items c.self.invariant)

pub returns-clause-cleared : goal.returns-clause-cleared
returns-clause-cleared c =
    ap taken (made_is c) ∙ taken_cleared c.self.inside.slots.items ∙ ap (λ (s : Appends). map unacknowledged s.unfinished) c.self.view_is
