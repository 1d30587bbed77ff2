use Rattle.std.proofs.Common.{◌≡◌, ◌-◌, ◌<◌, ◌++◌, ◌∷◌, [], Bool, true, false, cond, eqb, length, sym, ap, ◌∙◌, rules}
use Rattle.lazy_rules.specs.Flight.{has_all}
use Rattle.lazy_rules.specs.Rows.{has_node}
use Rattle.binder.specs.Held.{Answering}
use Rattle.binder.proofs.Rosters.{all_there_with}
use Rattle.binder.proofs.answers.Answers.are_all_with.Goals as goal

pub returns-then-has : goal.returns-then-has
returns-then-has c =
    let s : Answering = c.args.self.now in
    let node = c.args.node in
    let has : has_node s.given node ≡ true = sym c.has.ensures ∙ c.if-has.true in
    c.are_all.ensures ∙ sym (ap (λ (b : Bool). has_all s.count (cond b s.given (s.given ++ node ∷ []))) has)

pub returns : goal.returns
returns c =
    let s : Answering = c.args.self.now in
    let node = c.args.node in
    let given = c.self.inside.given.items in
    let count = c.self.inside.count in
    let len : c.len.result ≡ length given = search rules in
    let has : has_node s.given node ≡ false = sym c.has.ensures ∙ c.if-has.false in
    let new : has_node given node ≡ false = ap (λ (a : Answering). has_node a.given node) c.self.view_is ∙ has in
    let inside : node < count = search rules in
    ap (λ n. eqb n (count - 1)) len ∙ all_there_with count given _ c.self.invariant node inside new
    ∙ ap (λ (a : Answering). has_all a.count (a.given ++ node ∷ [])) c.self.view_is
    ∙ sym (ap (λ (b : Bool). has_all s.count (cond b s.given (s.given ++ node ∷ []))) has)
