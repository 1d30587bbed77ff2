use Rattle.std.proofs.Common.{◌≡◌, ◌∙◌, ℕ, List, ap, subst}
use Rattle.std.specs.Prelude.{OnOk, slice_set}
use Rattle.lazy_rules.specs.ClientRules.{noted}
use Rattle.lazy_rules.specs.ClientState.{ClientState, OpenAppend}
use Rattle.append_client.specs.Appends.{IsAt}
use Rattle.append_client.specs.Endings.{with_noted}
use Rattle.append_client.proofs.Rows.{on_ok_map}
use Rattle.append_client.proofs.client.AppendClient.note.Goals as goal

pub returns-clause-ok : goal.returns-clause-ok
returns-clause-ok c =
    let had = c.self.inside.appends in
    let made : ℕ → List OpenAppend → ClientState = λ n l. record { shape = c.self.inside.shape; client = c.self.inside.client; config = c.self.inside.config; next = n; unfinished = l } in
    subst (λ (s : ClientState). (i : ℕ) (a : OpenAppend) → IsAt s.unfinished c.args.number i a
    → OnOk c.note.result (made c.note.new.self.next c.note.new.self.unfinished ≡ with_noted s i a c.args.node))
    c.self.view_is
    (λ i a at. on_ok_map c.note.result
    (λ (is : c.note.new.self.unfinished ≡ slice_set had.unfinished i (noted a c.args.node)).
    ap (λ (n : ℕ). made n c.note.new.self.unfinished) c.note.ensures.next ∙ ap (made had.next) is)
    (c.note.ensures.noted i a at))
