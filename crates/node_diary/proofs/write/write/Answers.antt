use Rattle.std.proofs.Common.{◌≤◌, ◌+◌, ◌^◌, ap, arith}
use Rattle.std.proofs.lemmas.Result.{err_from_is_err_and}
use Rattle.lazy_msgs.specs.Outbox.{Out}
use Rattle.node_diary.proofs.Writes.{write_refused}
use Rattle.node_diary.proofs.write.write.Goals as goal

pub returns-in_err-call_traced : goal.returns-in_err-call_traced
returns-in_err-call_traced c =
    let p = err_from_is_err_and c.from_residual-in_err-call_traced.result c.from_residual-in_err-call_traced.ensures.1 in
    let many : 2 ^ 32 ≤ c.new-out.result.messages_left + 1 = (let is = ap (λ (o : Out). o.messages_left) c.new-out.ensures in omega arith) in
    rw (p.1, p.2)
    (write_refused c.args.time c.args.left c.args.input c.args.state.now c.call_traced.new.state c.args.entries.now.items c.reserve.new.self.items c.args.told.now.items c.reserve-2.new.self.items
    c.new-out.result c.call_traced.new.out c.in_err-call_traced.field-0.0 c.in_err-call_traced.ensures.takes c.reserve.ensures.items c.reserve-2.ensures.items (ap (λ (o : Out). o.weight_left) c.new-out.ensures) c.requires.few many)
