use Rattle.std.proofs.lemmas.Result.{err_from_is_err_and}
use Rattle.lazy_core.proofs.ClientParts.{appends_refused, reads_ended}
use Rattle.lazy_core.proofs.client_step.take_both.Goals as goal

pub returns-in_err-step : goal.returns-in_err-step
returns-in_err-step c =
    let p = err_from_is_err_and c.from_residual.result c.from_residual.ensures.1 in
    rw (p.1, p.2) (appends_refused c.args.input.now c.args.appends.now c.args.reads.now c.args.out.now c.step.new.self c.step.new.out c.in_err-step.field-0.0 c.in_err-step.ensures)

pub returns : goal.returns
returns c =
    reads_ended c.args.input.now c.args.appends.now c.args.reads.now c.args.out.now c.requires c.step.new.self c.step.new.out c.in_ok-step.field-0 c.in_ok-step.ensures
    c.step-2.new.self c.step-2.new.out c.step-2.result c.step-2.ensures
