use Rattle.std.proofs.Common.{◌≡◌, ◌∙◌, ℕ, Ok, true, false, sym, ap, subst}
use Rattle.std.proofs.lemmas.Bool.{cond-true, cond-false}
use Rattle.rec_id.specs.declared.event.Event.TheVariants.{Acked}
use Rattle.lazy_msgs.specs.declared.refused.StepRefused.TheVariants.{Over}
use Rattle.lazy_msgs.specs.Step.{Row, StepsTo}
use Rattle.lazy_rules.specs.ClientRules.{advances, finishes, is_complete, noted}
use Rattle.lazy_rules.specs.ClientState.{ClientState, id_of}
use Rattle.lazy_rules.specs.Rows.{stays}
use Rattle.append_client.specs.Appends.{IsAt}
use Rattle.append_client.specs.Endings.{ends, with_noted}
use Rattle.append_client.proofs.Rows.{moves_put}
use Rattle.append_client.proofs.client.AppendClient.advance.Goals as goal

pub returns-then-complete : goal.returns-then-complete
returns-then-complete c i a at is =
    let s : ClientState = c.args.self.now in
    let complete : is_complete s (noted a c.args.node) ≡ true = sym is ∙ c.if-complete.true in
    let event : Acked (id_of s a.number) ≡ Acked c.args.id = ap (λ (n : ℕ). Acked (id_of s n)) at.numbered ∙ ap Acked (sym c.requires) in
    let row : advances s i (noted a c.args.node) ≡ ends s i (Acked c.args.id) =
    cond-true (is_complete s (noted a c.args.node)) (finishes s i (noted a c.args.node)) (stays (with_noted s i a c.args.node)) complete
    ∙ ap (ends s i) event in
    let here : IsAt s.unfinished c.number.result i a = subst (λ (n : ℕ). IsAt s.unfinished n i a) (sym c.number.ensures.number) at in
    subst (λ (r : Row ClientState). StepsTo r s c.finish.new.self c.args.out.now c.finish.new.out c.finish.result Over) (sym row)
    (c.finish.ensures i a here)

pub returns : goal.returns
returns c i a at is =
    let s : ClientState = c.args.self.now in
    let lacking : is_complete s (noted a c.args.node) ≡ false = sym is ∙ c.if-complete.false in
    let row : advances s i (noted a c.args.node) ≡ stays (with_noted s i a c.args.node) =
    cond-false (is_complete s (noted a c.args.node)) (finishes s i (noted a c.args.node)) (stays (with_noted s i a c.args.node)) lacking in
    let here : IsAt s.unfinished c.number-2.result i a = subst (λ (n : ℕ). IsAt s.unfinished n i a) (sym c.number-2.ensures.number) at in
    subst (λ (r : Row ClientState). StepsTo r s c.note.new.self c.args.out.now c.args.out.now (Ok tt) Over) (sym row)
    (moves_put s c.note.new.self (with_noted s i a c.args.node) c.args.out.now (c.in_ok-note.ensures.ok i a here))
