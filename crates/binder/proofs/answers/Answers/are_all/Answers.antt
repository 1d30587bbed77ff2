use Rattle.std.proofs.Common.{◌≡◌, eqb, length, ap, ◌∙◌, rules}
use Rattle.lazy_rules.specs.Flight.{has_all}
use Rattle.binder.specs.Held.{Answering}
use Rattle.binder.proofs.Rosters.{all_there}
use Rattle.binder.proofs.answers.Answers.are_all.Goals as goal

pub returns : goal.returns
returns c =
    let given = c.self.inside.given.items in
    let count = c.self.inside.count in
    let len : c.len.result ≡ length given = search rules in
    ap (λ n. eqb n count) len ∙ all_there count given _ c.self.invariant
    ∙ ap (λ (a : Answering). has_all a.count a.given) c.self.view_is
