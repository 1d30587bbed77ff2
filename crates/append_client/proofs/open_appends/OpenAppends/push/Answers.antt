use Rattle.std.proofs.Common.{◌≡◌, ◌∙◌, ◌+◌, ◌^◌, ◌<◌, ◌++◌, ◌∷◌, [], ℕ, length, sym, ap, subst}
use Rattle.lazy_rules.specs.ClientState.{OpenAppend as Unfinished}
use Rattle.append_client.specs.Appends.{Appends, AreSlots, taken}
use Rattle.append_client.proofs.SlotChanges.{slots_push, taken_push}
use Rattle.append_client.proofs.open_appends.OpenAppends.push.Goals as goal

pub invariant_of-self : goal.invariant_of-self
invariant_of-self c =
    let own : c.new-append.result.number ≡ c.self.inside.first + length c.self.inside.slots.items =
    ap (λ (a : Unfinished). a.number) c.new-append.ensures ∙ c.next.ensures.next ∙ ap (λ (s : Appends). s.next) (sym c.self.view_is) in
    let few : c.self.inside.first + length c.self.inside.slots.items + 1 < 2 ^ 32 =
    subst (λ (s : Appends). s.next + 1 < 2 ^ 32) (sym c.self.view_is) c.requires.number in
    subst (AreSlots c.self.inside.first) (sym c.push_back_reserved.ensures.items)
    (slots_push c.self.inside.first c.self.inside.slots.items c.new-append.result c.self.invariant own few)

pub returns-clause-more : goal.returns-clause-more
returns-clause-more c =
    ap taken c.push_back_reserved.ensures.items ∙ taken_push c.self.inside.slots.items c.new-append.result
    ∙ ap (λ (a : Unfinished). taken c.self.inside.slots.items ++ a ∷ []) c.new-append.ensures
    ∙ ap (λ (n : ℕ). taken c.self.inside.slots.items ++ record { number = n; bytes = c.args.bytes; acked = [] } ∷ []) c.next.ensures.next
    ∙ ap (λ (s : Appends). s.unfinished ++ record { number = c.args.self.now.next; bytes = c.args.bytes; acked = [] } ∷ []) c.self.view_is
