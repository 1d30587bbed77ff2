use Rattle.std.proofs.Common.{◌≡◌, ℕ, List, Option, Some, None, sym, subst, ◌∙◌, refl, arith}
use Rattle.std.proofs.lemmas.Option.{slice_get_read}
use Rattle.law_cases.proofs.Decide.{no_decides}
use Rattle.log_law.specs.Keys.{key_at, IsNext}
use Rattle.log_law.proofs.Finishes.{invoke_decides, not_begun, ended_before, end_decides, silent_decides}
use Rattle.log_law.proofs.finished.is_finished.Goals as goal
use Rattle.log_law.proofs.finished.is_finished.Goals.{in-Some-at+else-first-j+else-first-j-2, in_default-at}

pub returns-in-Some : goal.returns-in-Some
returns-in-Some c =
    let here = slice_get_read _ _ _ _ refl c.requires.within c.index-history-j.is in
    let key = subst (λ (ks : List (Option (ℕ × ℕ))). key_at ks c.args.j ≡ Some c.in-Some.key) c.requires.invoked (sym c.at.ensures ∙ c.in-Some.is) in
    let first = subst (λ (ks : List (Option (ℕ × ℕ))). IsNext ks 0 c.in-Some.key c.first.result) c.requires.invoked c.first.ensures in
    invoke_decides c.args.history.now c.args.line.now c.args.j _ here c.first.result (omega (arith, c.requires.within)) c.in-Some.key key first

pub returns-then-first-j : goal.returns-then-first-j
returns-then-first-j c =
    let here = slice_get_read _ _ _ _ refl c.requires.within c.index-history-j.is in
    let key = subst (λ (ks : List (Option (ℕ × ℕ))). key_at ks c.args.j ≡ Some c.in-Some-at.key) c.requires.finished (sym c.at-2.ensures ∙ c.in-Some-at.is) in
    let first = subst (λ (ks : List (Option (ℕ × ℕ))). IsNext ks 0 c.in-Some-at.key c.first-in-Some-at.result) c.requires.invoked c.first-in-Some-at.ensures in
    no_decides (not_begun c.args.history.now c.args.line.now c.args.j _ here c.first-in-Some-at.result (omega (arith, c.requires.within)) c.in-Some-at.key key first c.if-first-j.true)

pub returns-then-first-j-2 : goal.returns-then-first-j-2
returns-then-first-j-2 c =
    let here = slice_get_read _ _ _ _ refl c.requires.within c.index-history-j.is in
    let key = subst (λ (ks : List (Option (ℕ × ℕ))). key_at ks c.args.j ≡ Some c.in-Some-at.key) c.requires.finished (sym c.at-2.ensures ∙ c.in-Some-at.is) in
    let first = subst (λ (ks : List (Option (ℕ × ℕ))). IsNext ks 0 c.in-Some-at.key c.first-in-Some-at-2.result) c.requires.finished c.first-in-Some-at-2.ensures in
    no_decides (ended_before c.args.history.now c.args.line.now c.args.j _ here c.first-in-Some-at-2.result (omega (arith, c.requires.within)) c.in-Some-at.key key first c.if-first-j-2.true)

pub returns : goal.returns
returns c =
    let here = slice_get_read _ _ _ _ refl c.requires.within c.index-history-j.is in
    let none = subst (λ (ks : List (Option (ℕ × ℕ))). key_at ks c.args.j ≡ None) c.requires.invoked (sym c.at.ensures ∙ c.in_default.is) in
    elim c.match-at-2.branch [
      | in-Some-at+else-first-j+else-first-j-2 w ↦
          (let key = subst (λ (ks : List (Option (ℕ × ℕ))). key_at ks c.args.j ≡ Some w.in-Some-at.key) c.requires.finished (sym c.at-2.ensures ∙ w.in-Some-at.is) in
          let begins = subst (λ (ks : List (Option (ℕ × ℕ))). IsNext ks 0 w.in-Some-at.key w.first-in-Some-at.result) c.requires.invoked w.first-in-Some-at.ensures in
          let ends = subst (λ (ks : List (Option (ℕ × ℕ))). IsNext ks 0 w.in-Some-at.key w.first-in-Some-at-2.result) c.requires.finished w.first-in-Some-at-2.ensures in
          end_decides c.args.history.now c.args.line.now c.args.j _ here w.first-in-Some-at.result (omega (arith, c.requires.within)) w.first-in-Some-at-2.result c.stands_as_told.result w.in-Some-at.key none key
          begins w.if-first-j.false ends w.if-first-j-2.false c.stands_as_told.ensures)
      | in_default-at w ↦
          (let silent = subst (λ (ks : List (Option (ℕ × ℕ))). key_at ks c.args.j ≡ None) c.requires.finished (sym c.at-2.ensures ∙ w.in_default-at.is) in
          silent_decides c.args.history.now c.args.line.now c.args.j _ here 0 (omega (arith, c.requires.within)) c.stands_as_told.result none silent c.stands_as_told.ensures)
    ]
