use Rattle.std.proofs.Common.{◌≡◌, ℕ, length, Ok, Err, ◌∙◌, ap, subst, arith}
use Rattle.lazy_msgs.specs.Outbox.{cut_to}
use Rattle.lazy_rules.specs.ClientNode.{ClientNode}
use Rattle.lazy_rules.specs.ClientState.{ClientState}
use Rattle.lazy_core.specs.ClientParts.{PartlySteps, parts_step}
use Rattle.lazy_core.specs.NodeStep.{halves_of}
use Rattle.lazy_core.proofs.ClientParts.{whole_taken, whole_undone}
use Rattle.lazy_core.proofs.Outboxes.{events_grown, sends_grown}
use Rattle.lazy_core.proofs.client_step.step_both.Goals as goal

pub cut_back-requires-clause-sends : goal.cut_back-requires-clause-sends
cut_back-requires-clause-sends c =
    let more = sends_grown c.args.out.now c.step_parts.new.out c.in-Err.ensures.grown in
    let sends : length c.sends.result.now ≡ length c.args.out.now.sends = ap length c.sends.ensures in
    omega arith

pub cut_back-requires-clause-events : goal.cut_back-requires-clause-events
cut_back-requires-clause-events c =
    let more = events_grown c.args.out.now c.step_parts.new.out c.in-Err.ensures.grown in
    let events : length c.events.result.now ≡ length c.args.out.now.events = ap length c.events.ensures in
    omega arith

pub returns-in-Ok : goal.returns-in-Ok
returns-in-Ok c =
    let before : ClientNode = halves_of c.args.appends.now c.args.reads.now in
    let after : ClientNode = halves_of c.step_parts.new.appends c.step_parts.new.reads in
    let copied = ap (λ (a : ClientState). halves_of a c.in_ok-reads_after.reads_after) c.in_ok-appends_after.ensures ∙ ap (halves_of c.args.appends.now) c.in_ok-reads_after.ensures in
    whole_taken (parts_step c.args.asks c.args.input.now before) before after c.args.out.now c.step_parts.new.out c.in-Ok.field-0
    (subst (λ (n : ClientNode). PartlySteps (parts_step c.args.asks c.args.input.now n) after c.args.out.now c.step_parts.new.out (Ok c.in-Ok.field-0)) copied c.in-Ok.ensures)

pub returns-in-Err : goal.returns-in-Err
returns-in-Err c =
    let before : ClientNode = halves_of c.args.appends.now c.args.reads.now in
    let after : ClientNode = halves_of c.step_parts.new.appends c.step_parts.new.reads in
    let copied = ap (λ (a : ClientState). halves_of a c.in_ok-reads_after.reads_after) c.in_ok-appends_after.ensures ∙ ap (halves_of c.args.appends.now) c.in_ok-reads_after.ensures in
    whole_undone (parts_step c.args.asks c.args.input.now before) before after c.args.out.now c.step_parts.new.out c.cut_back.new.self c.in-Err.refused
    (subst (λ (n : ClientNode). PartlySteps (parts_step c.args.asks c.args.input.now n) after c.args.out.now c.step_parts.new.out (Err c.in-Err.refused)) copied c.in-Err.ensures)
    (c.cut_back.ensures
    ∙ ap (λ (n : ℕ). cut_to c.step_parts.new.out n c.len-told.result) (c.len-sends.ensures ∙ ap length c.sends.ensures)
    ∙ ap (cut_to c.step_parts.new.out (length c.args.out.now.sends)) (c.len-told.ensures ∙ ap length c.events.ensures))
