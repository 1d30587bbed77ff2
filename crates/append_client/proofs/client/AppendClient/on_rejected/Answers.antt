use Rattle.std.proofs.Common.{◌≡◌, ◌∙◌, ℕ, Bool, Some, not, true, eqb, sym, ap, subst, arith}
use Rattle.std.specs.Prelude.{Option, if◌then◌else◌}
use Rattle.std.specs.Option.{option_map_or}
use Rattle.std.proofs.lemmas.Bool.{eq-eqb}
use Rattle.rec_id.specs.declared.event.Event.TheVariants.{Rejected}
use Rattle.lazy_msgs.specs.declared.refused.StepRefused.TheVariants.{Over}
use Rattle.lazy_msgs.specs.Step.{Row, StepsTo}
use Rattle.lazy_rules.specs.ClientRules.{on_rejected, place_of, rejects}
use Rattle.lazy_rules.specs.ClientState.{ClientState, OpenAppend}
use Rattle.lazy_rules.specs.Rows.{stays}
use Rattle.append_client.specs.Appends.{IsAt}
use Rattle.append_client.specs.Endings.{ends}
use Rattle.append_client.proofs.client.AppendClient.on_rejected.Goals as goal

pub returns : goal.returns
returns c =
    let s : ClientState = c.args.self.now in
    let a : OpenAppend = c.in-Some.field-0.now in
    let found : (i : ℕ) × IsAt s.unfinished c.number.result i a =
    subst (λ (t : ClientState). (i : ℕ) × IsAt t.unfinished c.number.result i a) c.self.view_is c.in-Some.ensures.some in
    let i = found.0 in
    let place : place_of s c.args.id.number ≡ Some i = ap (place_of s) (sym c.number.ensures.number) ∙ found.1.place in
    let client_is : c.self.inside.client ≡ s.client = ap (λ (t : ClientState). t.client) c.self.view_is in
    let own : eqb c.args.id.client s.client ≡ true =
    eq-eqb c.args.id.client s.client (omega (arith, c.if-client-self.false, c.client.ensures.client, client_is)) in
    let row : on_rejected s c.args.id c.args.place ≡ ends s i (Rejected c.args.id c.args.place) =
    ap (λ (b : Bool). if not b then stays s else option_map_or (λ j. rejects s j c.args.id c.args.place) (place_of s c.args.id.number) (stays s)) own
    ∙ ap (λ (o : Option ℕ). option_map_or (λ j. rejects s j c.args.id c.args.place) o (stays s)) place in
    let here : IsAt s.unfinished c.number-2.result i a =
    subst (λ (n : ℕ). IsAt s.unfinished n i a) (c.number.ensures.number ∙ sym c.number-2.ensures.number) found.1 in
    subst (λ (r : Row ClientState). StepsTo r s c.finish.new.self c.args.out.now c.finish.new.out c.finish.result Over) (sym row)
    (c.finish.ensures i a here)
