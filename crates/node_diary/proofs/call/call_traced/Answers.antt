use Rattle.std.proofs.Common.{◌≡◌, ℕ, List, [], ◌++◌, true, sym, ap, ◌∙◌}
use Rattle.lazy_msgs.specs.declared.msg.Msg.{Msg}
use Rattle.lazy_msgs.specs.Outbox.{Out}
use Rattle.lazy_core.specs.NodeStep.{node_step}
use Rattle.node_diary.specs.Feeding.{is_moment}
use Rattle.node_diary.proofs.Idle.{traced}
use Rattle.node_diary.proofs.call.call_traced.Goals as goal

pub returns-clause-traced : goal.returns-clause-traced
returns-clause-traced c =
    let moment : is_moment c.args.input.now ≡ true = cc (c.is_moment.ensures) in
    let sends = (node_step c.args.state.now c.args.input.now).sends in
    let silent : (node_step c.args.state.now c.args.input.now).sends ≡ [] =
    sym (ap (λ (l : List (ℕ × Msg)). l ++ sends) c.requires.empty) ∙ sym (ap (λ (o : Out). o.sends) c.in_ok-call.ensures.steps.sent) ∙ sym c.sends.ensures ∙ c.is_empty.ensures.0 c.if-not-is_empty.false in
    traced c.requires.ready.shape c.requires.ready.formed c.requires.ready.steps c.args.state.now c.call.new.state c.args.input.now c.requires.ready.seated moment silent c.in_ok-call.ensures.steps.state
    c.has_open_cell-had_open.result c.has_open_cell.result c.has_open_cell-had_open.ensures c.has_open_cell.ensures
